-- A word is stored into the collector's copy: that keeps the rule.
use Rattle.std.proofs.Common.{ℕ, ◌+◌, List, [], ◌++◌, sym, ap, arith, refl, ◌≡◌}
use Rattle.std.proofs.lemmas.List.{append-nil}
use Rattle.core_rule.proofs.Terms.{Entry, copying_words}
use Rattle.core_machine.specs.collector.Copying.{after_copied}
use Rattle.core_machine.specs.declared.collector.stage.Copying.TheVariants.{Storing}
use Rattle.core_machine.specs.declared.collector.stage.SpineCopy.{SpineCopy}
use Rattle.core_machine.specs.declared.collector.stage.Stage.TheVariants as stages
use Rattle.core_rule.proofs.copies.CopyStores.{store_is_to_copy, now, spot_same_after_copy_store, budget_same_after_copy_store, heap_stands_after_copy_store, seat_stands_after_copy_store, has_copy_after_store}
use Rattle.core_rule.proofs.copies.CopyWords.{leads_by_copy}
use Rattle.core_rule.proofs.copies.CopyingStages.{LeadsBy, phase_is_copying, copying_is_after_marking, copied_array_has_few_words, marking_stands_while_copying, space_stands_while_copying}
use Rattle.core_rule.proofs.copies.VisitsOn.{arrays_await_visit, copying_stands_from_stage}
use Rattle.core_rule.proofs.book.BookGoing.{book_goes_on_with_history}
use Rattle.core_rule.proofs.steps.collector.ColourTurn.{collector_agrees_at_stage, at_stage}
use Rattle.core_rule.proofs.steps.TurnSteps.{StageKeeps, quiet, keeps_rule_after_turn}
use Rattle.core_rule.proofs.steps.TurnKinds.{TurnKind, shape_of_quiet_step, Inside, beside, stage_keeps_whole, on_bits_of_same_bits, has_looked_at_stage}
use Rattle.core_rule.proofs.turns.CopyTurns.{copy_turn_leaves_fewer, storing_leaves_fewer}
use Rattle.core_rule.proofs.turns.WorkCases.{copy_at_cases}
use Rattle.core_rule.proofs.held.SpineThere.{held_word_is_there, stored_word_is_held}

pub copy_store_keeps : (copy : SpineCopy) (word : ℕ) → StageKeeps (stages.Copying (Storing copy word))
copy_store_keeps copy word heap state book rule storing machine =
    let words : List ℕ = now heap state book rule copy word storing in
    let next : SpineCopy = record copy { index = copy.index + 1 } in
    let log : List Entry = state.collector.log ++ [] in
    let fourth = phase_is_copying heap state book rule (Storing copy word) storing in
    let leads : LeadsBy heap state book words 0 (after_copied copy)
    = leads_by_copy heap state book rule words book.spine_owner 0 next (copied_array_has_few_words heap state book rule (Storing copy word) storing) (omega (arith, ap copying_words storing))
    (arrays_await_visit heap state book rule (Storing copy word) storing) (store_is_to_copy heap state book rule copy word storing) (copying_stands_from_stage heap state book rule (Storing copy word) storing).2
    (has_copy_after_store heap state book rule copy word storing) in
    keeps_rule_after_turn heap state book words (quiet (at_stage state.collector (after_copied copy))) book [] rule machine (sym (append-nil book.history))
    (heap_stands_after_copy_store heap state book rule copy word storing) (λ r below stands. seat_stands_after_copy_store heap state book rule copy word storing r below) (collector_agrees_at_stage heap state book rule (after_copied copy))
    record {
      heap_marks = marking_stands_while_copying heap words book.owner book.colour book.fragments state.collector.phase fourth (copying_is_after_marking heap state book rule (Storing copy word) storing) (after_copied copy)
          leads.of_copying leads.few;
      roots = λ r below marks. absurd (omega (arith, marks.phase, fourth));
    }
    (space_stands_while_copying heap state book rule (Storing copy word) storing words (spot_same_after_copy_store heap state book rule copy word storing) (budget_same_after_copy_store heap state book rule copy word storing) log (after_copied copy) leads)
    (book_goes_on_with_history heap state book book.history book.begun)

-- all that is asked of it
pub turn_kind_of_copy_storing : (copy : SpineCopy) (word : ℕ) → TurnKind (stages.Copying (Storing copy word))
turn_kind_of_copy_storing copy word = record {
  keeps = stage_keeps_whole (stages.Copying (Storing copy word)) (copy_store_keeps copy word);
  fewer = copy_turn_leaves_fewer (Storing copy word) (storing_leaves_fewer copy word);
  inside = λ heap state book rule cycle is. copy_at_cases (Inside heap state book rule cycle) (λ stage. tt) tt heap _;
  shape = λ heap collector found. shape_of_quiet_step heap collector found (stages.Copying (Storing copy word)) refl refl;
  looked = has_looked_at_stage (stages.Copying (Storing copy word)) (λ heap phase looked fits. fits.0.all);
  bits = on_bits_of_same_bits (stages.Copying (Storing copy word)) (λ heap collector. beside (λ g below e. omega (arith, e, below)));
  spines = record {
    there = λ heap state book rule is low. held_word_is_there heap state book rule copy.to.half (copy.to.offset + copy.index) low (stored_word_is_held heap state book rule copy word is);
    stores = λ heap collector half offset w due. let same : word ≡ w = cc due in (copy, rw same refl, cc due, cc due);
    claims = λ heap collector words due. absurd (cc due);
  };
}
