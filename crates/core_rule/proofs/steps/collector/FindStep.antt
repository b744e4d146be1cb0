-- The loads of the name of an array that a visit has found, and of the place of its spine, keep the rule.
use Rattle.std.proofs.Common.{◌≡◌, ◌≢◌, ℕ, ◌+◌, ◌<◌, true, length, refl, sym, ap, ◌∙◌, subst, inl, inr, arith}
use Rattle.std.proofs.lemmas.Bool.Decides.{eqb_tells}
use Rattle.heap_words.specs.declared.spot.Spot.{Spot}
use Rattle.core_rule.proofs.Terms.{spot_in, Heap, graph_of, Word, State, id_of, at, FitsSpot, Book, fragment_at, IsKept, node_at, VisitIsMarked, BeginsArray, HasFoundArray, Rule}
use Rattle.core_rule.proofs.Terms.{next_spine}
use Rattle.core_machine.specs.collector.Copying.{left_half, next_half, after_located}
use Rattle.core_machine.specs.collector.CopyingTurns.{visited, sentinel_at}
use Rattle.core_machine.specs.declared.collector.stage.ArrayAt.{ArrayAt}
use Rattle.core_machine.specs.declared.collector.stage.Copying.TheVariants.{Naming, Locating, Claiming}
use Rattle.core_machine.specs.declared.collector.stage.Stage.TheVariants as stages
use Rattle.core_machine.specs.declared.collector.stage.Visit.{Visit}
use Rattle.core_rule.proofs.copies.BegunArrays.{begun_names_object, begun_spine_fits, begun_tells_spine, begun_by_one_object}
use Rattle.core_rule.proofs.copies.CopyingStages.{IsFree, LeadsTo, keeps_rule_by_copying_load, leads_to_stage_without_copy, copied_array_has_few_words, next_spine_in_next_half, left_half_is_not_next}
use Rattle.core_rule.proofs.copies.VisitsOn.{arrays_await_visit, arrays_to_visit_behind, copying_stands_from_stage, leads_to_seen_stage}
use Rattle.core_rule.proofs.steps.TurnSteps.{StageKeeps}
use Rattle.core_rule.proofs.steps.TurnKinds.{TurnKind, turn_kind_of_load, Inside}
use Rattle.core_rule.proofs.turns.CopyTurns.{copy_turn_leaves_fewer, naming_leaves_fewer, locating_leaves_fewer}
use Rattle.core_rule.proofs.turns.WorkCases.{after_located_cases}

module _ (heap : Heap) (state : State) (book : Book) (rule : Rule heap state book) (visit : Visit) (words : ℕ) (naming : state.collector.stage ≡ stages.Copying (Naming visit words)) where
  found : VisitIsMarked book.colour visit × BeginsArray (node_at (graph_of heap book.history) book.made) book.owner (visited visit) words
  found = copying_stands_from_stage heap state book rule (Naming visit words) naming

  abbrev named : ArrayAt
  named = record { visit = visit; words = words; id = id_of (at heap state.words (Word (visited visit) 1)) }

  name_leads : LeadsTo heap state book (stages.Copying (Locating named))
  name_leads = leads_to_stage_without_copy heap state book rule (Naming visit words) naming record { of_copying = tt; few = copied_array_has_few_words heap state book rule (Naming visit words) naming; none = refl; no_words = refl }
      (stages.Copying (Locating named)) record { of_copying = tt; few = copied_array_has_few_words heap state book rule (Naming visit words) naming; none = refl; no_words = refl }
      (arrays_await_visit heap state book rule (Naming visit words) naming)
      record { marked = found.0; begins = found.1; named = begun_names_object heap state book rule (visited visit) words found.1 }

-- the load of the name keeps the rule
pub name_copy_keeps : (visit : Visit) (words : ℕ) → StageKeeps (stages.Copying (Naming visit words))
name_copy_keeps visit words heap state book rule naming machine =
    keeps_rule_by_copying_load heap state book rule (Naming visit words) naming (stages.Copying (Locating (named heap state book rule visit words naming)))
    (name_leads heap state book rule visit words naming) (Word (visited visit) 1) machine

module _ (heap : Heap) (state : State) (book : Book) (rule : Rule heap state book) (array : ArrayAt) (locating : state.collector.stage ≡ stages.Copying (Locating array)) where
  abbrev from : Spot
  from = spot_in (at heap state.words (Word (sentinel_at array) 2))

  located : HasFoundArray (node_at (graph_of heap book.history) book.made) book.made book.owner book.colour array
  located = copying_stands_from_stage heap state book rule (Locating array) locating

  free : IsFree (stages.Copying (Locating array))
  free = record { of_copying = tt; few = copied_array_has_few_words heap state book rule (Locating array) locating; none = refl; no_words = refl }

  own : from ≡ book.spines located.begins.index
  own = begun_tells_spine heap state book rule (sentinel_at array) array.words located.begins

  fits : FitsSpot (book.spines located.begins.index)
  fits = begun_spine_fits heap state book rule (sentinel_at array) array.words located.begins

  half : (next_spine heap state.words).half ≡ next_half state.collector.phase
  half = next_spine_in_next_half heap state book rule (Locating array) locating

  -- a spine that doesn't stand in the half that was left stands in the other one
  in_this : from.half ≢ left_half state.collector.phase → (i : ℕ) → i < length book.made → fragment_at (book.fragments i) 0 ≡ sentinel_at array → IsKept book.owner book.fragments i
      → (node_at (graph_of heap book.history) book.made i).array ≡ true → (book.spines i).half ≡ (next_spine heap state.words).half
  in_this other i below same kept an_array =
      let index = begun_by_one_object heap state book rule (sentinel_at array) array.words located.begins i same kept in
      let here : from.half ≡ (book.spines i).half = ap (λ (s : Spot). s.half) own ∙ ap (λ j. (book.spines j).half) (sym index) in
      let small : (book.spines i).half < 2 = subst (λ j. (book.spines j).half < 2) (sym index) fits.half_within in
      let apart : (book.spines i).half ≢ left_half state.collector.phase = λ left. other (here ∙ left) in
      omega (arith, half, small, apart)

  locate_leads : LeadsTo heap state book (after_located heap state.collector.phase array from)
  locate_leads = elim (eqb_tells from.half (left_half state.collector.phase)) as (λ _. LeadsTo heap state book (after_located heap state.collector.phase array from)) [
    | inl left ↦ rw left.0 (leads_to_stage_without_copy heap state book rule (Locating array) locating free (stages.Copying (Claiming array from))
        record { of_copying = tt; few = copied_array_has_few_words heap state book rule (Locating array) locating; none = refl; no_words = refl }
        (arrays_await_visit heap state book rule (Locating array) locating)
        record { found = located; own = own; left = λ same. left_half_is_not_next state.collector.phase (sym left.1 ∙ same ∙ half) })
    | inr other ↦ rw other.0 (leads_to_seen_stage heap state book rule (Locating array) locating free (record array.visit { position = array.visit.position + 1 }) located.marked
        (arrays_to_visit_behind heap state book rule array.visit (in_this other.1) (arrays_await_visit heap state book rule (Locating array) locating)))
  ]

-- the load of the place keeps the rule
pub find_keeps : (array : ArrayAt) → StageKeeps (stages.Copying (Locating array))
find_keeps array heap state book rule locating machine =
    keeps_rule_by_copying_load heap state book rule (Locating array) locating (after_located heap state.collector.phase array (from heap state book rule array locating)) (locate_leads heap state book rule array locating)
    (Word (sentinel_at array) 2) machine

-- all that is asked of it
pub turn_kind_of_copy_naming : (visit : Visit) (words : ℕ) → TurnKind (stages.Copying (Naming visit words))
turn_kind_of_copy_naming visit words = turn_kind_of_load (stages.Copying (Naming visit words)) (λ heap collector. record { adds_none = refl; steps = λ word. refl; loaded = λ word. refl; beside = tt }) record {
  keeps = name_copy_keeps visit words;
  fewer = copy_turn_leaves_fewer (Naming visit words) (naming_leaves_fewer visit words);
  inside = λ heap state book rule cycle is. tt;
  all = λ heap phase looked fits. fits.0.all;
}

-- all that is asked of it
pub turn_kind_of_copy_locating : (array : ArrayAt) → TurnKind (stages.Copying (Locating array))
turn_kind_of_copy_locating array = turn_kind_of_load (stages.Copying (Locating array)) (λ heap collector. record { adds_none = refl; steps = λ word. refl; loaded = λ word. refl; beside = tt }) record {
  keeps = find_keeps array;
  fewer = copy_turn_leaves_fewer (Locating array) (locating_leaves_fewer array);
  inside = λ heap state book rule cycle is. after_located_cases (Inside heap state book rule cycle) (λ stage. tt) tt heap state.collector.phase array _;
  all = λ heap phase looked fits. fits.0.all;
}
