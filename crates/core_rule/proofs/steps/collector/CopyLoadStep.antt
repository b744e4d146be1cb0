-- The load of a word of the spine that is copied keeps the rule.
use Rattle.std.proofs.Common.{◌≡◌, ℕ, ◌+◌, ◌<◌, refl, ap, ◌∙◌, subst, arith}
use Rattle.heap_words.specs.declared.spot.Spot.{Spot}
use Rattle.core_rule.proofs.Terms.{Heap, graph_of, Spine, State, at, spine_place, spine_word, Book, fragment_at, copying_words, node_at, IsToCopy, CopyInHand, Rule, next_spine}
use Rattle.core_machine.specs.declared.collector.stage.Copying.TheVariants.{Loading, Storing}
use Rattle.core_machine.specs.declared.collector.stage.SpineCopy.{SpineCopy}
use Rattle.core_machine.specs.declared.collector.stage.Stage.TheVariants as stages
use Rattle.core_machine.specs.collector.CopyingTurns.{sentinel_at}
use Rattle.core_rule.proofs.copies.BegunArrays.{begun_is_kept_first}
use Rattle.core_rule.proofs.copies.CopyWords.{copy_stage_has_copy, copy_in_hand_of_stage}
use Rattle.core_rule.proofs.copies.CopyingStages.{LeadsTo, keeps_rule_by_copying_load, copied_array_has_few_words, fits_copying_from}
use Rattle.core_rule.proofs.copies.VisitsOn.{arrays_await_visit, copying_stands_from_stage}
use Rattle.core_rule.proofs.steps.TurnSteps.{StageKeeps}
use Rattle.core_rule.proofs.steps.TurnKinds.{TurnKind, shape_of_quiet_step, only_loads, stage_keeps_whole, on_bits_of_same_bits, has_looked_at_stage}
use Rattle.core_rule.proofs.turns.CopyTurns.{copy_turn_leaves_fewer, loading_leaves_fewer}
use Rattle.core_rule.proofs.held.SpineThere.{owned_word_is_there, loaded_word_is_owned}

module _ (heap : Heap) (state : State) (book : Book) (rule : Rule heap state book) (copy : SpineCopy) (loading : state.collector.stage ≡ stages.Copying (Loading copy)) where
  abbrev found : ℕ
  found = at heap state.words (spine_place copy.from copy.index)

  to_copy : IsToCopy (node_at (graph_of heap book.history) book.made) book.made book.owner book.colour book.spines (next_spine heap state.words).half copy.array copy.from
  to_copy = (copying_stands_from_stage heap state book rule (Loading copy) loading).0

  -- the word found names the next payload fragment
  names : found ≡ spine_word (fragment_at (book.fragments to_copy.found.begins.index) (copy.index + 1))
  names =
      let there = begun_is_kept_first heap state book rule (sentinel_at copy.array) copy.array.words to_copy.found.begins in
      ap (λ (p : Spot). at heap state.words (spine_place p copy.index)) to_copy.own
      ∙ (rule.heap_stands.objects.kept to_copy.found.begins.index there.0 there.1).listed copy.index
      (subst (λ n. copy.index < n) to_copy.found.begins.as_many (fits_copying_from heap state book rule (Loading copy) loading).1)

  load_leads : LeadsTo heap state book (stages.Copying (Storing copy found))
  load_leads = record {
    of_copying = tt;
    few = copied_array_has_few_words heap state book rule (Loading copy) loading;
    as_many = omega (arith, ap copying_words loading);
    arrays = arrays_await_visit heap state book rule (Loading copy) loading;
    copies = (to_copy, names, (copying_stands_from_stage heap state book rule (Loading copy) loading).1);
    copy = copy_in_hand_of_stage heap state.words book.spine_owner (stages.Copying (Storing copy found)) copy refl
        (copy_stage_has_copy heap state.words book.spine_owner (stages.Copying (Loading copy)) copy refl (subst (CopyInHand heap state.words book.spine_owner) loading rule.space.halves.copy));
  }

pub copy_load_keeps : (copy : SpineCopy) → StageKeeps (stages.Copying (Loading copy))
copy_load_keeps copy heap state book rule loading machine =
    keeps_rule_by_copying_load heap state book rule (Loading copy) loading (stages.Copying (Storing copy (found heap state book rule copy loading))) (load_leads heap state book rule copy loading)
    (Spine copy.from.half (copy.from.offset + copy.index)) machine

-- all that is asked of it
pub turn_kind_of_copy_loading : (copy : SpineCopy) → TurnKind (stages.Copying (Loading copy))
turn_kind_of_copy_loading copy = record {
  keeps = stage_keeps_whole (stages.Copying (Loading copy)) (copy_load_keeps copy);
  fewer = copy_turn_leaves_fewer (Loading copy) (loading_leaves_fewer copy);
  inside = λ heap state book rule cycle is. tt;
  shape = λ heap collector found. shape_of_quiet_step heap collector found (stages.Copying (Loading copy)) refl refl;
  looked = has_looked_at_stage (stages.Copying (Loading copy)) (λ heap phase looked fits. fits.0.all);
  bits = on_bits_of_same_bits (stages.Copying (Loading copy)) (λ heap collector. only_loads (λ word. refl));
  spines = record {
    there = λ heap state book rule is low. owned_word_is_there heap state book rule copy.from.half (copy.from.offset + copy.index) low (loaded_word_is_owned heap state book rule copy is);
    stores = λ heap collector half offset word due. absurd (cc due);
    claims = λ heap collector words due. absurd (cc due);
  };
}
