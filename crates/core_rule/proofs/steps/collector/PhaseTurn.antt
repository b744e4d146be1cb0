-- A turn that begins the next phase, once all have answered, keeps the rule.
use Rattle.std.proofs.Common.{◌≡◌, ◌≢◌, ℕ, ◌+◌, ◌%◌, ◌<◌, Bool, true, false, List, [], ◌∷◌, ◌++◌, length, refl, sym, ap, ◌∙◌, subst, arith, inl, inr}
use Rattle.std.proofs.lemmas.List.Elements.{filter-append}
use Rattle.core_rule.proofs.Terms.{cycle_phases, Entry, Heap, IsLegal, graph_of, effect_of, is_of, after_entry, graph_seat, phase, last_answer, has_left, is_leave_of, AllAnswered}
use Rattle.core_rule.proofs.Terms.{Graph, opening, Collector, after_advance, put, State, seat_at, IsMachine, Book, Coloured, WordPointsTo, HeapInCycle, Dead, SpineOwner, Rule}
use Rattle.core_rule.proofs.Terms.{HeapStands, SeatStands, HasPlace, next_spine, MarkingStands, AfterMarking, IsSettled, IsReached}
use Rattle.heap_model.specs.PhasePlan.{sweep as sweep_phase}
use Rattle.heap_model.proofs.Histories.{graph_after-more}
use Rattle.core_machine.specs.declared.table.address.Address.TheVariants.{Answer, Phase}
use Rattle.core_machine.specs.declared.collector.stage.Stage.TheVariants as stages
use Rattle.core_machine.proofs.table_lemmas.Addresses.{at-put_same}
use Rattle.core_rule.specs.counts.Counts.{is_collectors}
use Rattle.core_rule.specs.roots.Roots.{OfRoots}
use Rattle.core_rule.proofs.roots.GoneRoots.{roots_hold_when_gone}
use Rattle.core_rule.proofs.entries.AtRest.{seat_fits}
use Rattle.core_rule.proofs.words.Addresses.{at-put_apart}
use Rattle.core_rule.proofs.steps.Assemble.{Keeps}
use Rattle.core_rule.proofs.steps.TurnSteps.{after_turn, keeps_rule_after_turn}
use Rattle.core_rule.proofs.cycle.CycleFrames.{seat_in_cycle_as_told}
use Rattle.core_rule.proofs.book.BookGoing.{same_owners_go_on}
use Rattle.core_rule.proofs.frames.EntryFrames.{UsesNothing, same_fragments_after_phase, heap_stands_after_entry, other_seat_stands_after_entry}
use Rattle.core_rule.proofs.colours.LeadsFrames.{led_before_ahead_write}
use Rattle.core_rule.proofs.colours.MarkWords.{marks_where_controls_same}
use Rattle.core_rule.proofs.cycle.NextPhase.{seat_in_cycle_next_phase}
use Rattle.core_rule.proofs.entries.PhaseEntries.{phase_rises, answered_stays, left_stays}
use Rattle.heap_model.proofs.graph_changes.Shapes.{SameNodes, same_nodes_of_equal}
use Rattle.core_rule.proofs.frames.SeatFrames.{with_entry}
use Rattle.core_rule.proofs.spines.OtherWords.{leaves_spines_after_phase}
use Rattle.core_rule.proofs.halves.PhaseSpaces.{EndsPhase, BeginsAt, LetsGo, lets_go_of_none, space_stands_next_phase}

-- the entry tells of no seat, and leaves the graph
pub record TellsOfNoSeat (entry : Entry) : Type 0 where
  pub answers : (effect_of entry).answers ≡ 0
  pub nobodys : (r : ℕ) → is_of r entry ≡ false
  pub no_leave : (r : ℕ) → is_leave_of r entry ≡ false
  pub graph_stays : (g : Graph) → after_entry g entry ≡ g

-- the entry begins the phase that comes after this one, is the collector's, and changes nothing else
pub record BeginsNext (now : ℕ) (entry : Entry) : Type 0 where
  pub phases : (effect_of entry).phases ≡ 1
  pub uses : UsesNothing entry
  pub spines : BeginsAt now entry
  pub tells : TellsOfNoSeat entry
  pub collectors : is_collectors entry ≡ true

module _ (heap : Heap) (state : State) (book : Book) (rule : Rule heap state book) (all : state.collector.looked ≡ heap.seats) (entry : Entry) (begins : BeginsNext state.collector.phase entry) where
  abbrev pub next : ℕ
  next = state.collector.phase + 1

  abbrev pub words_next : List ℕ
  words_next = put heap state.words Phase next

  abbrev pub later : Book
  later = with_entry book entry

  -- all have answered
  pub all_have_answered : AllAnswered heap book.history
  all_have_answered number below present = rule.collector_stands.looked number (omega (arith, below, all)) below present

  pub next_is_phase_after : next ≡ phase book.history + 1
  next_is_phase_after = ap (λ p. p + 1) rule.collector_stands.phase_told

  -- what is marked is as before, where that is right in the next phase
  pub marking_stands_next_phase : (¬ IsSettled next stages.Looking → (f i k : ℕ) → book.owner f ≢ Dead i k) → (IsSettled next stages.Looking → AfterMarking book.owner book.colour)
      → MarkingStands heap words_next book.owner book.colour book.fragments next stages.Looking
  marking_stands_next_phase alive after = record { grey = rule.marks_stand.heap_marks.grey; scan = tt; few = tt; pass = tt; sweep_stands = tt; alive = alive; after = after }

  grown : phase later.history ≡ phase book.history + 1
  grown = phase_rises book.history entry begins.phases

  pub graph_same_next_phase : graph_of heap later.history ≡ graph_of heap book.history
  graph_same_next_phase = graph_after-more (opening heap) book.history entry ∙ begins.tells.graph_stays (graph_of heap book.history)

  nodes : SameNodes (graph_of heap book.history) (graph_of heap later.history)
  nodes = same_nodes_of_equal (graph_of heap book.history) (graph_of heap later.history) graph_same_next_phase

  pub led_before_next_phase : (f source g : ℕ) → WordPointsTo heap words_next f source g → WordPointsTo heap state.words f source g
  led_before_next_phase f source g leads = led_before_ahead_write heap state.words Phase next (omega arith) f source g leads

  heap_on : IsLegal heap false later.history → Coloured heap words_next book.owner book.colour book.fragments (phase book.history + 1) → HeapStands heap words_next later
  heap_on legal coloured =
      let cycle = rule.heap_stands.cycle in
      heap_stands_after_entry heap state.words words_next (same_fragments_after_phase heap state.words next) book entry nodes begins.uses legal
      (subst (λ p. HeapInCycle heap words_next p book.owner book.colour book.fragments) (sym grown)
      record {
        word = at-put_same heap state.words Phase next rule.machine.table tt ∙ next_is_phase_after;
        marks = marks_where_controls_same heap state.words words_next book.colour (same_fragments_after_phase heap state.words next).controls cycle.marks;
        coloured = coloured;
      }) rule.heap_stands

  seat_on : (r : ℕ) → r < heap.seats → SeatStands heap words_next later r (seat_at state r)
  seat_on r below =
      let stands = rule.seats_stand r below in
      other_seat_stands_after_entry heap state.words words_next (same_fragments_after_phase heap state.words next) book entry nodes r (seat_at state r) (begins.tells.nobodys r) (ap (λ (g : Graph). graph_seat g r) graph_same_next_phase)
      (seat_in_cycle_as_told heap words_next (phase book.history + 1) (phase later.history) (last_answer r book.history) (last_answer r later.history) (has_left r book.history) (has_left r later.history)
      book.owner book.colour r (seat_at state r) grown (answered_stays book.history entry r begins.tells.answers) (left_stays book.history entry r (begins.tells.no_leave r))
      (seat_in_cycle_next_phase heap state.words words_next book.owner book.colour (phase book.history) (last_answer r book.history) (has_left r book.history) r (seat_at state r)
      (at-put_apart heap state.words Phase (Answer r) next (λ e. omega (arith, e))) led_before_next_phase (seat_fits rule r below) (all_have_answered r below) stands.cycle)) stands

  -- no seat has answered the next phase
  no_roots : (r : ℕ) → r < heap.seats → (seat_at state r).answered ≡ next → OfRoots (IsReached heap words_next book.owner book.colour) (seat_at state r)
  no_roots r below answered = by (seat_at state r).left refl
    where
      by : (left : Bool) → (seat_at state r).left ≡ left → OfRoots (IsReached heap words_next book.owner book.colour) (seat_at state r)
      by true left = roots_hold_when_gone heap state book r rule below left (IsReached heap words_next book.owner book.colour)
      by false present = elim ((rule.seats_stand r below).cycle.answers_told.near present) [
        | inl same ↦ absurd (omega (arith, same, answered, next_is_phase_after))
        | inr before ↦ absurd (omega (arith, before, answered, next_is_phase_after))
      ]

  -- the collector with its entry
  abbrev pub begun_collector : Collector
  begun_collector = record (after_advance state.collector) { log = state.collector.log ++ entry ∷ [] }

  -- the book with these owners of spine words
  abbrev pub let_later : (ℕ → ℕ → SpineOwner) → Book
  let_later spine_owner = record later { spine_owner = spine_owner }

  -- the phase may end with these owners of spine words: what each party has of them stands
  pub record MayLetGo (spine_owner : ℕ → ℕ → SpineOwner) : Type 0 where
    pub ends : EndsPhase state.collector.phase state.collector.stage
    pub lets : LetsGo (next_spine heap state.words).half state.collector.phase book.spine_owner spine_owner
    pub alive : state.collector.phase % cycle_phases ≡ sweep_phase → (f i k : ℕ) → book.owner f ≢ Dead i k
    pub answered : state.collector.phase % cycle_phases ≡ sweep_phase → (r : ℕ) → r < heap.seats → HasPlace (seat_at state r) (seat_at state r).point → (seat_at state r).answered % cycle_phases ≡ sweep_phase
    pub heap_lets : HeapStands heap words_next later → HeapStands heap words_next (let_later spine_owner)
    pub seat_lets : (r : ℕ) → r < heap.seats → SeatStands heap words_next later r (seat_at state r) → SeatStands heap words_next (let_later spine_owner) r (seat_at state r)

  -- so it is where each word stays whose it was, in any phase but that of the sweep
  pub may_let_go_of_none : EndsPhase state.collector.phase state.collector.stage → state.collector.phase % cycle_phases ≢ sweep_phase → MayLetGo book.spine_owner
  may_let_go_of_none ends other = record {
    ends = ends;
    lets = lets_go_of_none (next_spine heap state.words).half state.collector.phase book.spine_owner other;
    alive = λ swept. absurd (other swept);
    answered = λ swept. absurd (other swept);
    heap_lets = λ stands. stands;
    seat_lets = λ r below stands. stands;
  }

  -- so the rule is kept, where the entry is legal, the colours are right then, and of marking stands what stands while the collector looks
  pub keeps_rule_by_phase_turn : (spine_owner : ℕ → ℕ → SpineOwner) → MayLetGo spine_owner → IsLegal heap false later.history → Coloured heap words_next book.owner book.colour book.fragments (phase book.history + 1)
      → MarkingStands heap words_next book.owner book.colour book.fragments next stages.Looking
      → IsMachine heap (after_turn state words_next begun_collector) → Keeps heap state (after_turn state words_next begun_collector) book book.begun (entry ∷ [])
  keeps_rule_by_phase_turn spine_owner may legal coloured marks machine =
      keeps_rule_after_turn heap state book words_next begun_collector (let_later spine_owner) (entry ∷ []) rule machine refl (may.heap_lets (heap_on legal coloured))
      (λ r below stands. may.seat_lets r below (seat_on r below))
      record {
        log = rw (filter-append is_collectors book.history (entry ∷ []), rule.collector_stands.log, begins.collectors) refl;
        phase_told = next_is_phase_after ∙ sym grown;
        looked = λ number none below present. absurd (omega (arith, none));
      }
      record { heap_marks = marks; roots = λ r below marking answered. no_roots r below answered }
      (space_stands_next_phase heap state book rule may.ends entry begins.spines graph_same_next_phase words_next (leaves_spines_after_phase heap state.words next) begun_collector.log spine_owner may.lets may.alive may.answered)
      record { made = λ i below. refl; owners = same_owners_go_on (length book.made) book.owner; marked = λ f i k owned below marked. inl marked }
