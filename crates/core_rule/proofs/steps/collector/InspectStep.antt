-- The load of a marked fragment's first word keeps the rule: where an array begins there its name comes next, and else the visit goes on.
use Rattle.std.proofs.Common.{◌≡◌, ℕ, ◌+◌, ◌<◌, true, length, Option, Some, None, refl, sym, ap, ◌∙◌}
use Rattle.core_rule.proofs.Terms.{Heap, graph_of, Word, State, array_length_of, at, Book, fragment_at, IsKept, node_at, VisitIsMarked, Rule, next_spine}
use Rattle.core_machine.specs.collector.Copying.{after_inspected}
use Rattle.core_machine.specs.collector.CopyingTurns.{visited}
use Rattle.core_machine.specs.collector.FitsCopying.{FitsVisit}
use Rattle.core_machine.specs.declared.collector.stage.Copying.TheVariants.{Inspecting}
use Rattle.core_machine.specs.declared.collector.stage.Stage.TheVariants as stages
use Rattle.core_machine.specs.declared.collector.stage.Visit.{Visit}
use Rattle.core_rule.proofs.copies.CopyingStages.{IsFree, LeadsTo, keeps_rule_by_copying_load, leads_to_stage_without_copy, fits_copying_from, copying_is_after_marking}
use Rattle.core_rule.proofs.copies.InspectedWords.{first_word_tells_length, marked_meta_begins_array}
use Rattle.core_rule.proofs.copies.VisitsOn.{arrays_await_visit, arrays_to_visit_behind, copying_stands_from_stage, leads_to_seen_stage}
use Rattle.core_rule.proofs.steps.TurnSteps.{StageKeeps}
use Rattle.core_rule.proofs.steps.TurnKinds.{TurnKind, turn_kind_of_load, Inside}
use Rattle.core_rule.proofs.turns.CopyTurns.{copy_turn_leaves_fewer, inspecting_leaves_fewer}
use Rattle.core_rule.proofs.turns.WorkCases.{after_inspected_cases}

module _ (heap : Heap) (state : State) (book : Book) (rule : Rule heap state book) (visit : Visit) (inspecting : state.collector.stage ≡ stages.Copying (Inspecting visit)) where
  abbrev f : ℕ
  f = visited visit

  fits : FitsVisit heap visit
  fits = fits_copying_from heap state book rule (Inspecting visit) inspecting

  marked : VisitIsMarked book.colour visit
  marked = copying_stands_from_stage heap state book rule (Inspecting visit) inspecting

  free : IsFree (stages.Copying (Inspecting visit))
  free = record { of_copying = tt; few = tt; none = refl; no_words = refl }

  inspect_leads : (o : Option ℕ) → array_length_of (at heap state.words (Word f 0)) ≡ o → LeadsTo heap state book (after_inspected heap visit o)
  inspect_leads None told = leads_to_seen_stage heap state book rule (Inspecting visit) inspecting free (record visit { position = visit.position + 1 }) marked
      (arrays_to_visit_behind heap state book rule visit none_here (arrays_await_visit heap state book rule (Inspecting visit) inspecting))
    where
      none_here : (i : ℕ) → i < length book.made → fragment_at (book.fragments i) 0 ≡ f → IsKept book.owner book.fragments i → (node_at (graph_of heap book.history) book.made i).array ≡ true
          → (book.spines i).half ≡ (next_spine heap state.words).half
      none_here i below same kept an_array = absurd (cc (told, first_word_tells_length heap state book rule f i 0 (ap book.owner (sym same) ∙ kept) refl an_array))
  inspect_leads (Some cells) told =
      let begun = marked_meta_begins_array heap state book rule f (copying_is_after_marking heap state book rule (Inspecting visit) inspecting) (marked visit.position fits.is_marked) cells told in
      leads_to_stage_without_copy heap state book rule (Inspecting visit) inspecting free (after_inspected heap visit (Some cells)) record { of_copying = tt; few = begun.1; none = refl; no_words = refl }
      (arrays_await_visit heap state book rule (Inspecting visit) inspecting) (marked, begun.0)

pub inspect_keeps : (visit : Visit) → StageKeeps (stages.Copying (Inspecting visit))
inspect_keeps visit heap state book rule inspecting machine =
    let length : Option ℕ = array_length_of (at heap state.words (Word (visited visit) 0)) in
    keeps_rule_by_copying_load heap state book rule (Inspecting visit) inspecting (after_inspected heap visit length) (inspect_leads heap state book rule visit inspecting length refl) (Word (visited visit) 0) machine

-- all that is asked of it
pub turn_kind_of_copy_inspecting : (visit : Visit) → TurnKind (stages.Copying (Inspecting visit))
turn_kind_of_copy_inspecting visit = turn_kind_of_load (stages.Copying (Inspecting visit)) (λ heap collector. record { adds_none = refl; steps = λ word. refl; loaded = λ word. refl; beside = tt }) record {
  keeps = inspect_keeps visit;
  fewer = copy_turn_leaves_fewer (Inspecting visit) (inspecting_leaves_fewer visit);
  inside = λ heap state book rule cycle is. after_inspected_cases (Inside heap state book rule cycle) (λ stage. tt) tt heap visit _;
  all = λ heap phase looked fits. fits.0.all;
}
