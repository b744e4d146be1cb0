-- The begin of the next phase of a cycle keeps the rule.
use Rattle.std.proofs.Common.{◌≡◌, ◌≢◌, ℕ, ◌+◌, ◌*◌, ◌%◌, ◌<◌, List, length, refl, sym, ap, ◌∙◌, subst, arith, inl, inr, Bool, true, false}
use Rattle.std.proofs.lemmas.Bool.{cases_lt}
use Rattle.std.proofs.lemmas.Bool.Decides.{eqb_tells}
use Rattle.core_rule.proofs.Terms.{cycle_phases, Advance, Heap, graph_of, phase, Graph, Node, turn_at, HasLooked, State, seat_at, Book, nodes_in, MarkingStands, AfterMarking}
use Rattle.core_rule.proofs.Terms.{SweepStands, HasMarked, IsSettled, IsKept, node_at, Dead, SpineOwner, AddressStands, Rule, HeapStands, SeatStands, HasPlace, next_spine}
use Rattle.heap_model.specs.PhasePlan.{barriers as barriers_phase, clearing as clearing_phase, sweep as sweep_phase}
use Rattle.core_machine.specs.declared.collector.stage.Stage.TheVariants as stages
use Rattle.core_machine.specs.collector.FitsTurns.{FitsStage}
use Rattle.core_rule.proofs.cycle.NextPhase.{coloured_in_next_phase}
use Rattle.core_rule.proofs.entries.Legality.{legal_after_entry, keeps_space_of_advance}
use Rattle.core_rule.proofs.entries.AtRest.{seat_fits}
use Rattle.core_rule.proofs.marking.Marks.{each_seat_answered_phase}
use Rattle.core_rule.proofs.halves.Leaving.{placed_seat_has_not_left, arrays_in_next_spine_half, seat_spine_in_next_half}
use Rattle.core_rule.proofs.halves.LeftHalf.{let_go, spines_stand_after_letting_go, hand_spine_after_letting_go, address_stands_after_letting_go}
use Rattle.core_rule.proofs.halves.PhaseSpaces.{EndsPhase, lets_go_of_left_half}
use Rattle.core_rule.proofs.steps.TurnSteps.{StageKeeps, TurnKeeps}
use Rattle.core_rule.proofs.steps.collector.PhaseTurn.{BeginsNext, MayLetGo, words_next, later, graph_same_next_phase, led_before_next_phase, all_have_answered, next_is_phase_after, may_let_go_of_none, keeps_rule_by_phase_turn, marking_stands_next_phase}
use Rattle.core_rule.proofs.steps.TurnKinds.{TurnKind, beside, begins_phase, stage_keeps_whole, on_bits_of_same_bits, on_spines_beside, has_looked_at_stage}
use Rattle.core_rule.proofs.turns.LookTurns.{advance_leaves_fewer}

pub advance_begins : (now : ℕ) → BeginsNext now (Advance (now + 1))
advance_begins now = record {
  phases = refl;
  uses = record { taken = refl; given = refl; freed = refl };
  spines = record { begins = refl; anew = λ rests. let first : (now + 1) % cycle_phases ≡ barriers_phase = omega (arith, rests) in rw first refl; granted = refl; returned = refl };
  tells = record { answers = refl; nobodys = λ r. refl; no_leave = λ r. refl; graph_stays = λ g. refl };
  collectors = refl;
}

module _ (heap : Heap) (state : State) (book : Book) (rule : Rule heap state book) (advancing : state.collector.stage ≡ stages.Advancing) where
  abbrev p : ℕ
  p = state.collector.phase

  has_looked : HasLooked heap.seats p state.collector.looked
  has_looked = subst (FitsStage heap p state.collector.looked) advancing rule.machine.collector_fit.at_stage

  -- it isn't the last phase of a cycle
  within : phase book.history % cycle_phases ≢ clearing_phase
  within last = has_looked.goes_on (ap (λ n. n % cycle_phases) rule.collector_stands.phase_told ∙ last)

  -- what is to be freed is freed by the end of the sweep
  all_freed : p % cycle_phases ≡ sweep_phase → (f i k : ℕ) → book.owner f ≢ Dead i k
  all_freed swept f i k is = elim (cases_lt f (16 * heap.groups)) [
    | inl below ↦ subst (SweepStands heap book.owner book.colour p) advancing rule.marks_stand.heap_marks.sweep_stands swept f i k (omega (arith, below)) is
    | inr past ↦ let none = rule.heap_stands.control_words.outside f past in absurd (cc (none, is))
  ]

  -- nothing is to be freed then, but where that is known already
  alive_then : ¬ IsSettled (p + 1) stages.Looking → (f i k : ℕ) → book.owner f ≢ Dead i k
  alive_then unsettled f i k = elim (eqb_tells (p % cycle_phases) sweep_phase) [
    | inl swept ↦ all_freed swept.1 f i k
    | inr other ↦ rule.marks_stand.heap_marks.alive (λ settled. elim settled [
      | inl marked ↦ unsettled (inr (inl (omega (arith, marked.0))))
      | inr later ↦ elim later [
        | inl copies ↦ unsettled (inr (inr (omega (arith, copies))))
        | inr sweeps ↦ other.1 sweeps
      ]
    ]) f i k
  ]

  after_then : IsSettled (p + 1) stages.Looking → AfterMarking book.owner book.colour
  after_then settled = elim settled [
    | inl marked ↦ absurd marked.1
    | inr later ↦ elim later [
      | inl copies ↦ rule.marks_stand.heap_marks.after (inl (omega (arith, copies), subst HasMarked (sym advancing) tt))
      | inr sweeps ↦ rule.marks_stand.heap_marks.after (inr (inl (omega (arith, sweeps))))
    ]
  ]

  marks_then : MarkingStands heap (words_next heap state book rule has_looked.all (Advance (p + 1)) (advance_begins p)) book.owner book.colour book.fragments (p + 1) stages.Looking
  marks_then = marking_stands_next_phase heap state book rule has_looked.all (Advance (p + 1)) (advance_begins p) alive_then after_then

  -- nothing is copied or returned then
  ends_phase : EndsPhase p state.collector.stage
  ends_phase = rw advancing record { idle = tt; flipped = λ third. refl; waits = λ f third. third }

  -- so the rule is kept, with these owners of spine words
  keeps_with : (spine_owner : ℕ → ℕ → SpineOwner) → MayLetGo heap state book rule has_looked.all (Advance (p + 1)) (advance_begins p) spine_owner → TurnKeeps heap state book (turn_at heap state.collector stages.Advancing)
  keeps_with spine_owner may machine =
      let all = has_looked.all in
      let begins = advance_begins p in
      keeps_rule_by_phase_turn heap state book rule all (Advance (p + 1)) begins spine_owner may
      (legal_after_entry heap false book.history (Advance (p + 1)) rule.heap_stands.legal tt
      (keeps_space_of_advance heap false book.history (p + 1)
      (next_is_phase_after heap state book rule all (Advance (p + 1)) begins, (λ whole. omega (arith, whole, has_looked.goes_on)), all_have_answered heap state book rule all (Advance (p + 1)) begins)))
      (coloured_in_next_phase heap state.words (words_next heap state book rule all (Advance (p + 1)) begins) book.owner book.colour book.fragments (phase book.history) within
      (led_before_next_phase heap state book rule all (Advance (p + 1)) begins) rule.heap_stands.cycle.coloured)
      marks_then machine

  module _ (swept : p % cycle_phases ≡ sweep_phase) where
    abbrev half : ℕ
    half = (next_spine heap state.words).half

    -- a seat that hasn't left has answered the sweep
    answered_sweep : (r : ℕ) → r < heap.seats → (seat_at state r).left ≡ false → (seat_at state r).answered % cycle_phases ≡ sweep_phase
    answered_sweep r below present = ap (λ n. n % cycle_phases) (each_seat_answered_phase heap state book rule has_looked.all r below present) ∙ swept

    placed_answered : (r : ℕ) → r < heap.seats → HasPlace (seat_at state r) (seat_at state r).point → (seat_at state r).answered % cycle_phases ≡ sweep_phase
    placed_answered r below has = answered_sweep r below (placed_seat_has_not_left heap (seat_at state r) (seat_fits rule r below) has)

    -- so its spine stands in the half of the next one, and so do those of arrays
    hand_here : (r : ℕ) → r < heap.seats → HasPlace (seat_at state r) (seat_at state r).point → (seat_at state r).spine.half ≡ half
    hand_here r below has = seat_spine_in_next_half heap state book rule.space.halves r below (λ early. let fifth = placed_answered r below has in let third = early.behind in omega (arith, fifth, third)) has

    array_here : (i : ℕ) → i < length book.made → IsKept book.owner book.fragments i → (nodes_in heap book i).array ≡ true → (book.spines i).half ≡ half
    array_here = arrays_in_next_spine_half heap state book rule.space.halves (λ f waits. let third = ends_phase.waits f waits in omega (arith, third, swept))

    abbrev begins : BeginsNext p (Advance (p + 1))
    begins = advance_begins p

    abbrev words : List ℕ
    words = words_next heap state book rule has_looked.all (Advance (p + 1)) begins

    abbrev told : Book
    told = later heap state book rule has_looked.all (Advance (p + 1)) begins

    abbrev nodes : ℕ → Node
    nodes = nodes_in heap told

    same_graph : graph_of heap told.history ≡ graph_of heap book.history
    same_graph = graph_same_next_phase heap state book rule has_looked.all (Advance (p + 1)) begins

    abbrev lets : ℕ → ℕ → SpineOwner
    lets = let_go half book.spine_owner

    heap_lets : HeapStands heap words told → HeapStands heap words (record told { spine_owner = lets })
    heap_lets stands = record {
      control_words = stands.control_words;
      owners = stands.owners;
      ids = stands.ids;
      objects = stands.objects;
      spines = spines_stand_after_letting_go half book.spine_owner heap words heap.seats (length book.made) nodes book.owner book.fragments book.spines
          (λ i below kept kind. array_here i below kept (ap (λ (g : Graph). (node_at g book.made i).array) (sym same_graph) ∙ kind)) stands.spines;
      used = stands.used;
      cycle = stands.cycle;
      legal = stands.legal;
    }

    -- a call that has loaded the place of a spine is one of a seat that has answered the sweep
    address_lets : (r : ℕ) → r < heap.seats → AddressStands heap words nodes book.owner book.fragments book.spines book.spine_owner (seat_at state r) (seat_at state r).point
        → AddressStands heap words nodes book.owner book.fragments book.spines lets (seat_at state r) (seat_at state r).point
    address_lets r below stands = by (seat_at state r).left refl
      where
        by : (left : Bool) → (seat_at state r).left ≡ left → AddressStands heap words nodes book.owner book.fragments book.spines lets (seat_at state r) (seat_at state r).point
        by true gone = subst (AddressStands heap words nodes book.owner book.fragments book.spines lets (seat_at state r)) (sym ((seat_fits rule r below).gone gone).idle) tt
        by false present = address_stands_after_letting_go half book.spine_owner heap words nodes book.owner book.fragments book.spines (seat_at state r) (seat_at state r).point
            (λ late. let upto = late.upto in absurd (omega (arith, upto, answered_sweep r below present))) stands

    seat_lets : (r : ℕ) → r < heap.seats → SeatStands heap words told r (seat_at state r) → SeatStands heap words (record told { spine_owner = lets }) r (seat_at state r)
    seat_lets r below stands = record {
      own = record {
        holding = stands.own.holding;
        stored = stands.own.stored;
        together = stands.own.together;
        spine = hand_spine_after_letting_go half book.spine_owner heap words r (seat_at state r) (hand_here r below) stands.own.spine;
      };
      names = record { registers = stands.names.registers; way = stands.names.way; address = address_lets r below stands.names.address };
      told = stands.told;
      cycle = stands.cycle;
    }

    -- the half that was left may be let go
    may_let_go : MayLetGo heap state book rule has_looked.all (Advance (p + 1)) begins lets
    may_let_go = record {
      ends = ends_phase;
      lets = lets_go_of_left_half half p book.spine_owner;
      alive = all_freed;
      answered = λ fifth. placed_answered;
      heap_lets = heap_lets;
      seat_lets = seat_lets;
    }

-- the begin of the next phase keeps the rule
pub advance_keeps : StageKeeps stages.Advancing
advance_keeps heap state book rule advancing = elim (eqb_tells (state.collector.phase % cycle_phases) sweep_phase) as (λ _. TurnKeeps heap state book (turn_at heap state.collector stages.Advancing)) [
  | inl swept ↦ keeps_with heap state book rule advancing _ (may_let_go heap state book rule advancing swept.1)
  | inr other ↦ keeps_with heap state book rule advancing book.spine_owner
      (may_let_go_of_none heap state book rule (has_looked heap state book rule advancing).all _ (advance_begins state.collector.phase) (ends_phase heap state book rule advancing) other.1)
]

-- all that is asked of it
pub turn_kind_of_advancing : TurnKind stages.Advancing
turn_kind_of_advancing = record {
  keeps = stage_keeps_whole stages.Advancing advance_keeps;
  fewer = λ few. advance_leaves_fewer;
  inside = λ heap state book rule cycle is. tt;
  shape = λ heap collector found. begins_phase;
  looked = has_looked_at_stage stages.Advancing (λ heap phase looked fits. fits.all);
  bits = on_bits_of_same_bits stages.Advancing (λ heap collector. beside (λ g below e. omega (arith, e, below)));
  spines = on_spines_beside stages.Advancing (λ heap collector. tt);
}
