-- The end of a cycle keeps the rule, where the cycle may end.
use Rattle.std.proofs.Common.{◌≡◌, ◌≢◌, ℕ, ◌+◌, ◌*◌, ◌/◌, ◌%◌, false, refl, sym, ap, ◌∙◌, subst, arith, inl, inr}
use Rattle.std.proofs.lemmas.Bool.{cases_lt}
use Rattle.core_rule.proofs.Terms.{cycle_phases, Entry, Ends, Heap, EndsCycle, phase, turn_at, HasCleared, State, Book, White, MarkingStands, AfterMarking, Dead, Rule, SweepStands}
use Rattle.core_rule.proofs.Terms.{IsSettled}
use Rattle.heap_model.specs.PhasePlan.{clearing as clearing_phase}
use Rattle.core_machine.specs.declared.collector.stage.Stage.TheVariants as stages
use Rattle.core_machine.specs.collector.FitsTurns.{FitsStage}
use Rattle.core_rule.proofs.cycle.NextPhase.{coloured_at_rest}
use Rattle.core_rule.proofs.entries.Legality.{legal_after_entry, keeps_space_of_end}
use Rattle.core_rule.proofs.halves.PhaseSpaces.{EndsPhase}
use Rattle.core_rule.proofs.steps.TurnSteps.{TurnKeeps}
use Rattle.core_rule.proofs.steps.collector.PhaseTurn.{BeginsNext, words_next, may_let_go_of_none, keeps_rule_by_phase_turn, marking_stands_next_phase}
use Rattle.core_rule.proofs.steps.TurnKinds.{TurnKind, beside, ends_cycle, on_bits_of_same_bits, on_spines_beside, has_looked_at_stage}
use Rattle.core_rule.proofs.turns.SweepTurns.{end_leaves_fewer}

end_begins : (now cycle kept : ℕ) → now % cycle_phases ≡ clearing_phase → BeginsNext now (Ends cycle kept)
end_begins now cycle kept last = record {
  phases = refl;
  uses = record { taken = refl; given = refl; freed = refl };
  spines = record { begins = refl; anew = λ rests. absurd (omega (arith, rests, last)); granted = refl; returned = refl };
  tells = record { answers = refl; nobodys = λ r. refl; no_leave = λ r. refl; graph_stays = λ g. refl };
  collectors = refl;
}

module _ (kept : ℕ) (heap : Heap) (state : State) (book : Book) (rule : Rule heap state book) (ending : state.collector.stage ≡ stages.Ending kept) where
  abbrev p : ℕ
  p = state.collector.phase

  abbrev entry : Entry
  entry = Ends (p / 7) kept

  has_cleared : HasCleared heap p state.collector.looked kept
  has_cleared = subst (FitsStage heap p state.collector.looked) ending rule.machine.collector_fit.at_stage

  -- it is the last phase of a cycle
  last : phase book.history % cycle_phases ≡ clearing_phase
  last = ap (λ n. n % cycle_phases) (sym rule.collector_stands.phase_told) ∙ has_cleared.for_clearing

  -- nothing is copied or returned then
  ends_phase : EndsPhase p state.collector.stage
  ends_phase = rw ending record { idle = tt; flipped = λ third. absurd (omega (arith, third, has_cleared.for_clearing)); waits = λ f waits. absurd waits }

  -- every group is cleared
  all_white : (f : ℕ) → book.colour f ≡ White
  all_white f = elim (cases_lt f (16 * heap.groups)) [
    | inl below ↦ subst (SweepStands heap book.owner book.colour p) ending rule.marks_stand.heap_marks.sweep_stands f (omega (arith, below))
    | inr past ↦ rule.heap_stands.cycle.marks.outside f past
  ]

  -- what was to be freed is freed long since
  none_dead : (f i k : ℕ) → book.owner f ≢ Dead i k
  none_dead = rule.marks_stand.heap_marks.alive (λ settled. elim settled [
    | inl marked ↦ omega (arith, marked.0, has_cleared.for_clearing)
    | inr later ↦ elim later [
      | inl copies ↦ omega (arith, copies, has_cleared.for_clearing)
      | inr sweeps ↦ omega (arith, sweeps, has_cleared.for_clearing)
    ]
  ])

  -- and the phase of rest isn't one in which anything is
  not_after : IsSettled (p + 1) stages.Looking → AfterMarking book.owner book.colour
  not_after settled = elim settled [
    | inl marked ↦ absurd (omega (arith, marked.0, has_cleared.for_clearing))
    | inr later ↦ elim later [
      | inl copies ↦ absurd (omega (arith, copies, has_cleared.for_clearing))
      | inr sweeps ↦ absurd (omega (arith, sweeps, has_cleared.for_clearing))
    ]
  ]

  marks_then : MarkingStands heap (words_next heap state book rule has_cleared.all entry (end_begins p (p / 7) kept has_cleared.for_clearing)) book.owner book.colour book.fragments (p + 1) stages.Looking
  marks_then = marking_stands_next_phase heap state book rule has_cleared.all entry (end_begins p (p / 7) kept has_cleared.for_clearing) (λ unsettled. none_dead) not_after

-- the end of a cycle keeps the rule
pub end_keeps : (kept : ℕ) (heap : Heap) (state : State) (book : Book) → Rule heap state book → state.collector.stage ≡ stages.Ending kept
    → EndsCycle heap book.history (Ends (state.collector.phase / 7) kept) → TurnKeeps heap state book (turn_at heap state.collector (stages.Ending kept))
end_keeps kept heap state book rule ending ends machine =
    let all = (has_cleared kept heap state book rule ending).all in
    let cycle : ℕ = state.collector.phase / 7 in
    let last_phase = (has_cleared kept heap state book rule ending).for_clearing in
    let begins = end_begins state.collector.phase cycle kept last_phase in
    keeps_rule_by_phase_turn heap state book rule all (Ends cycle kept) begins book.spine_owner
    (may_let_go_of_none heap state book rule all (Ends cycle kept) begins (ends_phase kept heap state book rule ending) (λ swept. omega (arith, swept, last_phase)))
    (legal_after_entry heap false book.history (Ends cycle kept) rule.heap_stands.legal tt (keeps_space_of_end heap false book.history cycle kept ends))
    (coloured_at_rest heap state.words (words_next heap state book rule all (Ends cycle kept) begins) book.owner book.colour book.fragments (phase book.history)
    (last kept heap state book rule ending) (all_white kept heap state book rule ending) rule.heap_stands.cycle.coloured)
    (marks_then kept heap state book rule ending) machine

-- all that is asked of it
pub turn_kind_of_ending : (kept : ℕ) → TurnKind (stages.Ending kept)
turn_kind_of_ending kept = record {
  keeps = λ heap state book rule ends is. end_keeps kept heap state book rule is (ends kept is);
  fewer = λ few. end_leaves_fewer kept;
  inside = λ heap state book rule cycle is. tt;
  shape = λ heap collector found. ends_cycle kept;
  looked = has_looked_at_stage (stages.Ending kept) (λ heap phase looked fits. fits.all);
  bits = on_bits_of_same_bits (stages.Ending kept) (λ heap collector. beside (λ g below e. omega (arith, e, below)));
  spines = on_spines_beside (stages.Ending kept) (λ heap collector. tt);
}
