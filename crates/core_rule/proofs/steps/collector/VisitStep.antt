-- The load of a group's control word, which tells the marked fragments to be visited, keeps the rule.
use Rattle.std.proofs.Common.{◌≡◌, ℕ, ◌/◌, ◌≤◌, inl, inr, refl, sym, arith}
use Rattle.std.proofs.lemmas.Bool.{cases_lt}
use Rattle.core_rule.proofs.Terms.{Heap, Control, State, at, Book, fragment_at, IsToVisit, Rule}
use Rattle.core_machine.specs.collector.Copying.{marked_bits_of, after_visit}
use Rattle.core_machine.specs.declared.collector.stage.Copying.TheVariants.{Visiting}
use Rattle.core_machine.specs.declared.collector.stage.Stage.TheVariants as stages
use Rattle.core_machine.specs.declared.collector.stage.Visit.{Visit}
use Rattle.core_rule.proofs.copies.CopyingStages.{LeadsTo, keeps_rule_by_copying_load, fits_copying_from, copying_is_after_marking}
use Rattle.core_rule.proofs.copies.Visits.{marked_has_visit_bit, visit_bits_are_marked}
use Rattle.core_rule.proofs.copies.VisitsOn.{ArraysOr, arrays_await_visit, leads_to_seen_stage, kept_is_marked}
use Rattle.core_rule.proofs.steps.TurnSteps.{StageKeeps}
use Rattle.core_rule.proofs.steps.TurnKinds.{TurnKind, turn_kind_of_load, Inside}
use Rattle.core_rule.proofs.turns.CopyTurns.{copy_turn_leaves_fewer, visiting_leaves_fewer}
use Rattle.core_rule.proofs.turns.WorkCases.{after_seen_cases}

module _ (heap : Heap) (state : State) (book : Book) (rule : Rule heap state book) (group : ℕ) (visiting : state.collector.stage ≡ stages.Copying (Visiting group)) where
  abbrev begun : Visit
  begun = record { group = group; marked = marked_bits_of (at heap state.words (Control group)); position = 0 }

  abbrev head : ℕ → ℕ
  head i = fragment_at (book.fragments i) 0

  -- an array that was to be visited has its bit where its group's turn has come
  to_visit : ArraysOr heap state book rule (IsToVisit begun)
  to_visit i below kept an_array = elim (arrays_await_visit heap state book rule (Visiting group) visiting i below kept an_array) [
    | inl here ↦ inl here
    | inr waits ↦ inr (by waits)
  ]
    where
      by : group ≤ head i / 16 → IsToVisit begun (head i)
      by waits = elim (cases_lt group (head i / 16)) [
        | inl later ↦ inl later
        | inr here ↦ let same : group ≡ head i / 16 = omega (arith, waits, here) in inr (
          same,
          omega arith,
          marked_has_visit_bit heap state.words book.colour group rule.machine.table (fits_copying_from heap state book rule (Visiting group) visiting) rule.heap_stands.cycle.marks (head i) (sym same)
              (kept_is_marked book.owner book.colour (copying_is_after_marking heap state book rule (Visiting group) visiting) (head i) i 0 kept),
        )
      ]

  visit_leads : LeadsTo heap state book (after_visit heap group (at heap state.words (Control group)))
  visit_leads = leads_to_seen_stage heap state book rule (Visiting group) visiting record { of_copying = tt; few = tt; none = refl; no_words = refl } begun
      (visit_bits_are_marked heap state.words book.colour group rule.machine.table (fits_copying_from heap state book rule (Visiting group) visiting) rule.heap_stands.cycle.marks 0) to_visit

pub visit_keeps : (group : ℕ) → StageKeeps (stages.Copying (Visiting group))
visit_keeps group heap state book rule visiting machine =
    keeps_rule_by_copying_load heap state book rule (Visiting group) visiting (after_visit heap group (at heap state.words (Control group))) (visit_leads heap state book rule group visiting) (Control group) machine

-- all that is asked of it
pub turn_kind_of_copy_visiting : (group : ℕ) → TurnKind (stages.Copying (Visiting group))
turn_kind_of_copy_visiting group = turn_kind_of_load (stages.Copying (Visiting group)) (λ heap collector. record { adds_none = refl; steps = λ word. refl; loaded = λ word. refl; beside = tt }) record {
  keeps = visit_keeps group;
  fewer = copy_turn_leaves_fewer (Visiting group) (visiting_leaves_fewer group);
  inside = λ heap state book rule cycle is. after_seen_cases (Inside heap state book rule cycle) (λ stage. tt) tt heap _ _ _;
  all = λ heap phase looked fits. fits.0.all;
}
