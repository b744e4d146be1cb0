-- The fields at which sets stand are born; so a store into a seat's new object leaves them, and the colours.
use Rattle.std.proofs.Common.{◌≡◌, ℕ, ◌*◌, ◌<◌, List, refl, ap, ◌∙◌, subst, arith, inl}
use Rattle.core_rule.proofs.Terms.{Heap, Id, graph_of, Node, State, seat_at, Rule, Word, ShadingOld, ShadingNew, Swapping, put, Seat, Book, Colour, HeapInCycle, IsKeptFragment, node_at}
use Rattle.core_rule.proofs.Terms.{Owner, Kept, born_bit, Finds, WayStands}
use Rattle.core_machine.specs.declared.table.address.Address.TheVariants.{Phase, Answer}
use Rattle.core_machine.specs.declared.point.Point.TheVariants as points
use Rattle.core_machine.specs.declared.point.Access.{Access}
use Rattle.core_rule.proofs.words.Addresses.{at-put_apart, control_same_after_word}
use Rattle.core_rule.proofs.cycle.CycleFrames.{IsWatching, LeadsStay, LeavesCycle, WatchesBorn, coloured_stays}
use Rattle.core_rule.proofs.ways.KeptWords.{way_row_within_object, way_is_behind_first}
use Rattle.core_rule.proofs.colours.SourceCases.{TellsNoSpine}
use Rattle.core_rule.proofs.marking.ObjectEdges.{kept_tells_no_spine}
use Rattle.core_rule.proofs.colours.LeadsFrames.{same_sources_beside, led_before_where_same}
use Rattle.core_rule.proofs.colours.MarkWords.{marks_where_controls_same}

module _ (nodes : ℕ → Node) (made : List Id) (owner : ℕ → Owner) (fragments : ℕ → List ℕ) (seat : Seat) where
  way_found : (reaching : Access) → IsWatching reaching → WayStands nodes made owner fragments seat (points.Access reaching) → Finds nodes made owner fragments seat
  way_found ShadingOld watches way = way.0
  way_found ShadingNew watches way = way.0
  way_found Swapping watches way = way.0
  way_found _ watches way = absurd watches

module _ (heap : Heap) (state : State) (book : Book) (rule : Rule heap state book) (r : ℕ)
    (finds : Finds (node_at (graph_of heap book.history) book.made) book.made book.owner book.fragments (seat_at state r)) where
  -- the fragment with a field that was found is its object's
  field_is_owned : book.owner (seat_at state r).reached ≡ Kept finds.index finds.row
  field_is_owned =
      let stands = rule.heap_stands in
      let row = way_row_within_object heap state.words (graph_of heap book.history) book.made book.owner book.fragments rule.machine.limits stands.control_words stands.ids stands.objects (seat_at state r) finds in
      ap book.owner finds.way.here ∙ (stands.objects.kept finds.index finds.way.below finds.way.kept).owned finds.row (omega (arith, row))

  -- and has no spine, since no cell stands in an array's first one
  pub field_tells_no_spine : TellsNoSpine heap state.words (seat_at state r).reached
  field_tells_no_spine =
      let stands = rule.heap_stands in
      kept_tells_no_spine heap state book rule (seat_at state r).reached finds.index finds.row field_is_owned
      (way_is_behind_first heap state.words (graph_of heap book.history) book.made book.owner book.fragments rule.machine.limits stands.control_words stands.ids stands.objects (seat_at state r) finds)

module _ (heap : Heap) (state : State) (book : Book) (rule : Rule heap state book) (r : ℕ) (below : r < heap.seats) (reaching : Access)
    (is : (seat_at state r).point ≡ points.Access reaching) (watches : IsWatching reaching) where
  abbrev nodes_now : ℕ → Node
  nodes_now = node_at (graph_of heap book.history) book.made

  pub watched_finds : Finds nodes_now book.made book.owner book.fragments (seat_at state r)
  watched_finds = way_found nodes_now book.made book.owner book.fragments (seat_at state r) reaching watches
      (subst (WayStands nodes_now book.made book.owner book.fragments (seat_at state r)) is (rule.seats_stand r below).names.way)

  -- the fragment whose old value a set has loaded is an object's
  pub watched_is_kept_fragment : IsKeptFragment book.owner (seat_at state r).reached
  watched_is_kept_fragment = record { index = watched_finds.index; position = watched_finds.row; kept = field_is_owned heap state book rule r watched_finds }

-- so it is born
pub watched_is_born : (heap : Heap) (state : State) (book : Book) (rule : Rule heap state book) (r : ℕ) → r < heap.seats → WatchesBorn book.owner (seat_at state r)
watched_is_born heap state book rule r below reaching is watches = ap born_bit (watched_is_kept_fragment heap state book rule r below reaching is watches).kept

module _ (heap : Heap) (words : List ℕ) (owner : ℕ → Owner) (colour : ℕ → Colour) (now f part word : ℕ) (within : f < 16 * heap.groups) (fits : part < 4) (unborn : born_bit (owner f) ≡ 0) where
  -- a word of a fragment that isn't born is written
  leads_store : LeadsStay heap words (put heap words (Word f part) word) owner colour now
  leads_store making x k g born leads = inl (led_before_where_same heap words (put heap words (Word f part) word) x (same_sources_beside heap words f part word within fits x
      (λ same. let bit : born_bit (owner x) ≡ born_bit (owner f) = ap (λ y. born_bit (owner y)) same in omega (arith, bit, born, unborn))) k g leads)

  -- that leaves what another seat needs
  pub leaves_cycle_after_store : (r : ℕ) → r < 16 → LeavesCycle heap words (put heap words (Word f part) word) owner owner colour colour now r
  leaves_cycle_after_store r few = record {
    answer = at-put_apart heap words (Word f part) (Answer r) word (λ e. omega (arith, e, few));
    leads = leads_store;
    marks = λ x marked. marked;
    births = λ x borne. (borne, refl);
  }

  -- and the heap's standing
  pub heap_in_cycle_after_store : (fragments : ℕ → List ℕ) → HeapInCycle heap words now owner colour fragments → HeapInCycle heap (put heap words (Word f part) word) now owner colour fragments
  heap_in_cycle_after_store fragments cycle = record {
    word = at-put_apart heap words (Word f part) Phase word (λ e. omega (arith, e)) ∙ cycle.word;
    marks = marks_where_controls_same heap words (put heap words (Word f part) word) colour (λ group below. control_same_after_word heap words word f part group below) cycle.marks;
    coloured = coloured_stays heap words (put heap words (Word f part) word) owner owner colour fragments now leads_store (λ x marked born. born) (λ x i k keeps. keeps) cycle.coloured;
  }
