-- The shade of a kept object's first fragment keeps the rule.
use Rattle.std.specs.Prelude.{bit_or}
use Rattle.std.proofs.Common.{◌≡◌, ◌≢◌, ℕ, ◌*◌, ◌/◌, ◌%◌, ◌<◌, List, [], ◌++◌, slice_set, refl, sym, ap, ◌∙◌, subst, arith}
use Rattle.std.proofs.lemmas.List.{append-nil}
use Rattle.core_rule.proofs.Terms.{cycle_phases, Heap, graph_of, phase, last_answer, has_left, Control, Point, target_of, at, put, State, seat_at, Seat, IsMachine, Book}
use Rattle.core_rule.proofs.Terms.{fragment_at, OwnList, SeatInCycle, IsAnswered, IsMarked, IsKept, node_at, Borne, IsReached, Registers, Rule, WayStands}
use Rattle.heap_model.specs.PhasePlan.{rest as resting, clearing as clearing_phase}
use Rattle.core_machine.specs.declared.table.address.Address.TheVariants.{Answer}
use Rattle.core_machine.specs.table.Operation.{shade_bit_of}
use Rattle.core_rule.specs.roots.Roots.{IsInMarking}
use Rattle.core_rule.specs.owners.Owners.{Kept as KeptFragment}
use Rattle.core_rule.proofs.budgets.BudgetFrames.{same_grants_recoloured}
use Rattle.core_rule.proofs.frames.SeatFrames.{AddressAt}
use Rattle.core_rule.proofs.book.BookGoing.{IsNamed, book_goes_on_with_mark}
use Rattle.core_rule.proofs.frames.Recoloured.{Recolours, heap_stands_after_recolouring, seat_stands_after_recolouring}
use Rattle.core_rule.proofs.colours.OneBit.{bits_after_mark}
use Rattle.core_rule.proofs.words.Addresses.{at-put_apart}
use Rattle.core_rule.proofs.marking.Marks.{RootsGoOn}
use Rattle.core_rule.proofs.marking.SeatShades.{marks_go_on_after_shade}
use Rattle.core_rule.proofs.graph.SeenStamps.{IsUnnamed, stamps_stay, busy_is_unnamed}
use Rattle.core_rule.proofs.steps.Assemble.{Keeps, keeps_rule_after_step, space_stands_after_step, in_flight_has_not_left}
use Rattle.core_rule.proofs.entries.InFlight.{began_without_entry}
use Rattle.core_rule.proofs.ways.KeptWords.{owned_within_heap}
use Rattle.core_rule.proofs.objects.ObjectFrames.{borne_is_not_kept}
use Rattle.core_rule.proofs.entries.OwnEntries.{counts_agree_without_entry}
use Rattle.core_rule.proofs.colours.ShadeColours.{with_mark, mark_keeps_marked, mark_marks_fragment, mark_keeps_other_colour, marks_after_shade, coloured_after_shade}
use Rattle.core_rule.proofs.hand.StoredFrames.{is_stored_after_control}
use Rattle.core_rule.proofs.budgets.NoneMade.{MakesNone, no_place_where_none_made, used_stands_where_none_made, same_weights_where_none_made}
use Rattle.core_rule.proofs.spines.OtherWords.{leaves_spines_after_control}
use Rattle.core_rule.proofs.spines.SpineFrames.{address_stands_with_words, spine_in_hand_away}

-- the seat after a shade: elsewhere, and with so many roots shaded
abbrev pub shading : Seat → ℕ → Point → Seat
shading seat shaded point = record seat { shaded = shaded; point = point; mine = seat.mine ++ [] }

module _ (heap : Heap) (state : State) (book : Book) (number : ℕ) (rule : Rule heap state book) (here : number < heap.seats)
    (f index : ℕ) (kept : IsKept book.owner book.fragments index) (first : f ≡ fragment_at (book.fragments index) 0) where
  -- the fragment is the object's
  owned : book.owner f ≡ KeptFragment index 0
  owned = ap book.owner first ∙ kept

  pub shaded_within_heap : f < 16 * heap.groups
  shaded_within_heap = owned_within_heap heap state.words book.owner f index 0 rule.heap_stands.control_words owned

  abbrev pub words_shaded : List ℕ
  words_shaded = put heap state.words (Control (f / 16)) (bit_or (at heap state.words (Control (f / 16))) (shade_bit_of f))

  group_below : f / 16 < heap.groups
  group_below = omega (arith, shaded_within_heap)

  -- another seat's answer stays
  pub answer_same_after_shade : (r : ℕ) → r < heap.seats → at heap words_shaded (Answer r) ≡ at heap state.words (Answer r)
  answer_same_after_shade r less = at-put_apart heap state.words (Control (f / 16)) (Answer r) _ (λ e. omega (arith, e, less, rule.machine.limits.seats_fit))

  -- what a seat bears has the colour that it had
  pub borne_colour_same_after_shade : (r x : ℕ) → book.owner x ≡ Borne r → with_mark book.colour f x ≡ book.colour x
  borne_colour_same_after_shade r x borne = mark_keeps_other_colour book.colour f x (λ same. borne_is_not_kept r index 0 (sym borne ∙ ap book.owner same ∙ owned))

  -- the control words have the new colours
  recolours : phase book.history % cycle_phases ≢ resting → Recolours heap words_shaded book (with_mark book.colour f)
  recolours runs = record {
    bits = bits_after_mark heap state.words book.owner 32 f rule.machine.table shaded_within_heap (omega arith) rule.heap_stands.control_words;
    marks = marks_after_shade heap state.words book.owner book.colour f rule.machine.table shaded_within_heap rule.heap_stands.cycle.marks;
    right = coloured_after_shade heap state.words book.owner book.colour f rule.machine.table shaded_within_heap book.fragments (phase book.history) index 0 owned
        (subst (IsMarked (with_mark book.colour f)) first (mark_marks_fragment book.colour f)) runs rule.heap_stands.cycle.coloured;
    keeps = mark_keeps_marked book.colour f;
    births = borne_colour_same_after_shade;
  }

  pub keeps_rule_by_shade : (shaded : ℕ) (point : Point) → phase book.history % cycle_phases ≢ resting
      → IsMachine heap (record state { words = words_shaded; seats = slice_set state.seats number (shading (seat_at state number) shaded point) })
      → Registers (graph_of heap book.history) book.made book.owner book.fragments number (seat_at state number).registers point (target_of (seat_at state number).command)
      → OwnList (graph_of heap book.history) book.history book.made book.owner book.fragments number (shading (seat_at state number) shaded point)
      → WayStands (node_at (graph_of heap book.history) book.made) book.made book.owner book.fragments (shading (seat_at state number) shaded point) point
      → MakesNone (seat_at state number).point → MakesNone point → IsUnnamed point → AddressAt heap state.words book (shading (seat_at state number) shaded point) point
      → ¬ IsAnswered (seat_at state number).point
      → SeatInCycle heap words_shaded (phase book.history) (last_answer number book.history) (has_left number book.history) book.owner (with_mark book.colour f) number (shading (seat_at state number) shaded point)
      → (IsInMarking state.collector → (seat_at state number).answered ≡ state.collector.phase → IsReached heap state.words book.owner book.colour f)
      → RootsGoOn heap state book rule number here (shading (seat_at state number) shaded point) → (seat_at state number).answered % cycle_phases ≢ clearing_phase
      → IsNamed heap state book f → Keeps heap state (record state { words = words_shaded; seats = slice_set state.seats number (shading (seat_at state number) shaded point) }) book book.begun []
  keeps_rule_by_shade shaded point runs machine held list way before after unnamed address busy cycle comes roots early named =
      let seat : Seat = seat_at state number in
      let new : Seat = shading seat shaded point in
      let stands = rule.seats_stand number here in
      let now : Book = record book { colour = with_mark book.colour f } in
      let leaves = leaves_spines_after_control heap state.words _ (f / 16) group_below in
      keeps_rule_after_step heap state book number words_shaded new now [] rule here machine (sym (append-nil book.history)) refl
      (heap_stands_after_recolouring heap state book rule (f / 16) _ group_below (with_mark book.colour f) (recolours runs))
      record {
        own = record {
          holding = stands.own.holding;
          stored = is_stored_after_control heap state.words number seat (f / 16) _ group_below stands.own.stored;
          together = stands.own.together;
          spine = spine_in_hand_away heap state.words words_shaded book.spine_owner number seat new (no_place_where_none_made seat seat.point before) (no_place_where_none_made new point after) stands.own.spine;
        };
        names = record {
          registers = held;
          way = way;
          address = address_stands_with_words heap state.words words_shaded leaves.spines (node_at (graph_of heap book.history) book.made) book.owner book.fragments book.spines book.spine_owner new point address;
        };
        told = record {
          list = list;
          counts = counts_agree_without_entry (graph_of heap book.history) book.history number seat new refl refl (stamps_stay seat new seat.point point refl refl (busy_is_unnamed seat.point busy) unnamed refl) refl refl stands.told.counts;
          began = began_without_entry book.history number (book.begun number) seat.point point busy stands.told.began;
          gathers = stands.told.gathers;
          used = used_stands_where_none_made heap book.history number new point after;
        };
        cycle = cycle;
      }
      (λ r less apart other. seat_stands_after_recolouring heap state book rule (f / 16) _ group_below (with_mark book.colour f) (recolours runs) r less other)
      (marks_go_on_after_shade heap state book rule f shaded_within_heap number here new record { index = index; position = 0; kept = owned }
      (in_flight_has_not_left rule number here (λ idle. busy (subst IsAnswered (sym idle) tt))) refl comes roots early)
      (space_stands_after_step heap state book number rule here words_shaded new now leaves (same_weights_where_none_made seat new before after) (same_grants_recoloured heap book (with_mark book.colour f) book.begun) (mark_keeps_marked book.colour f))
      (book_goes_on_with_mark heap state book f named)
