-- The load of a word of an array's spine keeps the rule.
use Rattle.std.proofs.Common.{◌≡◌, ℕ, ◌+◌, ◌≤◌, subst, arith, refl}
use Rattle.core_rule.proofs.Terms.{Heap, phase, IsIndexing, Spine, State, payload_in, at, Book, WordPointsTo, IsBetween, IsSeen, IsSpineOf, IsFewWords, MarkingStands, Rule}
use Rattle.core_rule.proofs.Terms.{HasMarked}
use Rattle.core_machine.specs.collector.Marking.{spine_step}
use Rattle.core_machine.specs.declared.collector.stage.SpineScan.{SpineScan}
use Rattle.core_machine.specs.declared.collector.stage.Stage.TheVariants as stages
use Rattle.core_rule.proofs.marking.Marks.{marking_stands_at_stage, nothing_is_dead}
use Rattle.core_rule.proofs.marking.Scans.{spine_word_leads_to_payload}
use Rattle.core_rule.proofs.marking.ScannedWords.{grey_target_may_be_marked}
use Rattle.core_rule.proofs.steps.collector.ColourTurn.{keeps_rule_by_marking_load}
use Rattle.core_rule.proofs.steps.TurnSteps.{StageKeeps}
use Rattle.core_rule.proofs.steps.TurnKinds.{TurnKind, shape_of_quiet_step, inside_after_index, only_loads, stage_keeps_whole, on_bits_of_same_bits, has_looked_at_stage}
use Rattle.core_rule.proofs.turns.SpineTurns.{index_leaves_fewer}
use Rattle.core_rule.proofs.held.SpineThere.{owned_word_is_there, scanned_word_is_owned}

module _ (heap : Heap) (state : State) (book : Book) (rule : Rule heap state book) (s : SpineScan) (indexing : state.collector.stage ≡ stages.Indexing s) where
  abbrev f : ℕ
  f = s.scan.fragment

  -- the fragment that the word names
  abbrev target : ℕ
  target = payload_in (at heap state.words (Spine s.spine.half (s.spine.offset + s.index)))

  fits : IsIndexing heap state.collector.phase state.collector.looked s
  fits = rw indexing at rule.machine.collector_fit.at_stage

  seen : IsSeen heap state.words book.colour f (4 + s.index) × IsSpineOf heap state.words s
  seen = rw indexing at rule.marks_stand.heap_marks.scan

  few : s.words ≤ 1024
  few = subst IsFewWords indexing rule.marks_stand.heap_marks.few

  cycle : IsBetween 1 5 (phase book.history)
  cycle = let third = fits.on.marks.for_marking in let same = rule.collector_stands.phase_told in record { from = omega (arith, third, same); upto = omega (arith, third, same) }

  points : WordPointsTo heap state.words f (4 + s.index) target
  points = spine_word_leads_to_payload heap state.words s seen.1 fits.on.fragment_within fits.on.index_within

  marks : MarkingStands heap state.words book.owner book.colour book.fragments state.collector.phase (stages.Spreading (spine_step s) target)
  marks = marking_stands_at_stage heap state.words book.owner book.colour book.fragments state.collector.phase (stages.Spreading (spine_step s) target) fits.on.marks.for_marking tt
      rule.marks_stand.heap_marks.grey (
        seen.0,
        record { as_many = seen.1.as_many; there = seen.1.there },
        points,
        grey_target_may_be_marked heap state book rule f (rule.marks_stand.heap_marks.grey f seen.0.grey) cycle seen.0.grey (4 + s.index) target points,
      )
      few tt tt (nothing_is_dead heap state book rule fits.on.marks.for_marking (subst HasMarked indexing))

pub index_keeps : (s : SpineScan) → StageKeeps (stages.Indexing s)
index_keeps s heap state book rule indexing machine =
    keeps_rule_by_marking_load heap state book rule (stages.Indexing s) _ indexing (Spine s.spine.half (s.spine.offset + s.index)) machine (marks heap state book rule s indexing) tt tt

-- all that is asked of it
pub turn_kind_of_indexing : (s : SpineScan) → TurnKind (stages.Indexing s)
turn_kind_of_indexing s = record {
  keeps = stage_keeps_whole (stages.Indexing s) (index_keeps s);
  fewer = index_leaves_fewer s;
  inside = λ heap state book rule cycle is. inside_after_index heap state book rule cycle s is;
  shape = λ heap collector found. shape_of_quiet_step heap collector found (stages.Indexing s) refl refl;
  looked = has_looked_at_stage (stages.Indexing s) (λ heap phase looked fits. fits.on.marks.all);
  bits = on_bits_of_same_bits (stages.Indexing s) (λ heap collector. only_loads (λ word. refl));
  spines = record {
    there = λ heap state book rule is low. owned_word_is_there heap state book rule s.spine.half (s.spine.offset + s.index) low (scanned_word_is_owned heap state book rule s is);
    stores = λ heap collector half offset word due. absurd (cc due);
    claims = λ heap collector words due. absurd (cc due);
  };
}
