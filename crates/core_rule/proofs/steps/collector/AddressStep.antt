-- The load of the place of an array's spine keeps the rule.
use Rattle.std.proofs.Common.{◌≡◌, ℕ, ◌≤◌, refl, subst, arith}
use Rattle.core_rule.proofs.Terms.{spot_in, Heap, IsAddressing, Word, State, spine_words_in, at, Book, IsSeen, IsFewWords, MarkingStands, Rule, HasMarked}
use Rattle.core_machine.specs.collector.Marking.{scan_step, after_address}
use Rattle.core_machine.specs.declared.collector.stage.Scan.{Scan}
use Rattle.core_machine.specs.declared.collector.stage.SpineScan.{SpineScan}
use Rattle.core_machine.specs.declared.collector.stage.Stage.TheVariants as stages
use Rattle.core_rule.proofs.marking.Marks.{marking_stands_at_stage, nothing_is_dead}
use Rattle.core_rule.proofs.marking.Scans.{scan_stands_at_spine, pass_stands_at_spine, sweep_stands_at_spine, spine_scan_is_of_marking}
use Rattle.core_rule.proofs.steps.collector.ColourTurn.{keeps_rule_by_marking_load}
use Rattle.core_rule.proofs.steps.TurnSteps.{StageKeeps}
use Rattle.core_rule.proofs.turns.FewWords.{spine_scan_has_few_words}
use Rattle.core_rule.proofs.steps.TurnKinds.{TurnKind, turn_kind_of_load, inside_spine_scan_at}
use Rattle.core_rule.proofs.turns.SpineTurns.{address_leaves_fewer}

module _ (heap : Heap) (state : State) (book : Book) (rule : Rule heap state book) (scan : Scan) (count : ℕ) (addressing : state.collector.stage ≡ stages.Addressing scan count) where
  abbrev found : ℕ
  found = at heap state.words (Word scan.fragment 2)

  -- the scan of the spine that begins
  abbrev begun : SpineScan
  begun = record { scan = scan_step scan; spine = spot_in found; words = count; index = 0 }

  fits : IsAddressing heap state.collector.phase state.collector.looked scan count
  fits = rw addressing at rule.machine.collector_fit.at_stage

  seen : IsSeen heap state.words book.colour scan.fragment 4 × (count ≡ spine_words_in (at heap state.words (Word scan.fragment 0)))
  seen = rw addressing at rule.marks_stand.heap_marks.scan

  few : count ≤ 1024
  few = subst IsFewWords addressing rule.marks_stand.heap_marks.few

  marks : MarkingStands heap state.words book.owner book.colour book.fragments state.collector.phase (after_address scan count found)
  marks = marking_stands_at_stage heap state.words book.owner book.colour book.fragments state.collector.phase (after_address scan count found) fits.marks.for_marking (spine_scan_is_of_marking begun)
      rule.marks_stand.heap_marks.grey
      (scan_stands_at_spine heap state.words book.owner book.colour book.fragments begun record { as_many = seen.1; there = refl } seen.0)
      (spine_scan_has_few_words begun few (omega arith) (omega (arith, fits.first_step))) (pass_stands_at_spine book.colour begun) (sweep_stands_at_spine heap book.owner book.colour state.collector.phase begun)
      (nothing_is_dead heap state book rule fits.marks.for_marking (subst HasMarked addressing))

pub address_keeps : (scan : Scan) (count : ℕ) → StageKeeps (stages.Addressing scan count)
address_keeps scan count heap state book rule addressing machine =
    keeps_rule_by_marking_load heap state book rule (stages.Addressing scan count) _ addressing (Word scan.fragment 2) machine (marks heap state book rule scan count addressing) tt (spine_scan_is_of_marking (begun heap state book rule scan count addressing))

-- all that is asked of it
pub turn_kind_of_addressing : (scan : Scan) (count : ℕ) → TurnKind (stages.Addressing scan count)
turn_kind_of_addressing scan count = turn_kind_of_load (stages.Addressing scan count) (λ heap collector. record { adds_none = refl; steps = λ word. refl; loaded = λ word. refl; beside = tt }) record {
  keeps = address_keeps scan count;
  fewer = λ few. address_leaves_fewer scan count;
  inside = λ heap state book rule cycle is. inside_spine_scan_at heap state book rule cycle _;
  all = λ heap phase looked fits. fits.marks.all;
}
