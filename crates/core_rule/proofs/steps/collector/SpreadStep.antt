-- The collector marks the payload fragment that a word of an array's spine named: that keeps the rule.
use Rattle.std.proofs.Common.{◌≡◌, ℕ, ◌+◌, ◌/◌, ◌≤◌, List, subst, arith, refl}
use Rattle.core_rule.proofs.Terms.{Heap, IsSpreading, State, Book, Colour, WordPointsTo, IsSeen, IsSpineOf, MayMark, IsFewWords, MarkingStands, Rule, HasMarked}
use Rattle.core_machine.specs.collector.Marking.{spine_step, after_spread}
use Rattle.core_machine.specs.declared.collector.stage.SpineScan.{SpineScan}
use Rattle.core_machine.specs.declared.collector.stage.Stage.TheVariants as stages
use Rattle.core_rule.proofs.colours.LeadsFrames.{SameSources, leads_now_where_same}
use Rattle.core_rule.proofs.colours.ShadeColours.{with_mark, mark_marks_fragment}
use Rattle.core_rule.proofs.book.BookGoing.{by_spine, book_goes_on_with_mark}
use Rattle.core_rule.proofs.marking.Marks.{marking_stands_at_stage, nothing_is_dead}
use Rattle.core_rule.proofs.marking.Scans.{scan_stands_at_spine, pass_stands_at_spine, sweep_stands_at_spine, spine_scan_is_of_marking, spread_word_is_seen}
use Rattle.core_rule.proofs.marking.SeatShades.{words_marked, same_sources_after_mark, reached_after_mark}
use Rattle.core_rule.proofs.marking.ShadeMarks.{grey_is_kept_fragment, is_seen_after_shade, is_spine_after_shade}
use Rattle.core_rule.proofs.steps.collector.ColourTurn.{keeps_rule_by_colour_turn}
use Rattle.core_rule.proofs.steps.collector.MarkedTarget.{marked_target_recolours}
use Rattle.core_rule.proofs.steps.TurnSteps.{StageKeeps}
use Rattle.core_rule.proofs.turns.FewWords.{spine_scan_has_few_words}
use Rattle.core_rule.proofs.steps.TurnKinds.{TurnKind, shape_of_quiet_step, inside_spine_scan_at, spares, stage_keeps_whole, on_bits_of_same_bits, on_spines_beside, has_looked_at_stage}
use Rattle.core_rule.proofs.turns.SpineTurns.{spread_leaves_fewer}
use Rattle.core_rule.proofs.colours.OneBit.{lower_bit_stays}

module _ (heap : Heap) (state : State) (book : Book) (rule : Rule heap state book) (s : SpineScan) (m : ℕ) (spreading : state.collector.stage ≡ stages.Spreading s m) where
  abbrev f : ℕ
  f = s.scan.fragment

  abbrev coloured : ℕ → Colour
  coloured = with_mark book.colour m

  -- the scan of the spine behind this word
  abbrev next : SpineScan
  next = record (spine_step s) { index = s.index + 1 }

  fits : IsSpreading heap state.collector.phase state.collector.looked s m
  fits = rw spreading at rule.machine.collector_fit.at_stage

  scanned : IsSeen heap state.words book.colour f (4 + s.index) × IsSpineOf heap state.words s × WordPointsTo heap state.words f (4 + s.index) m
      × MayMark book.owner book.colour book.fragments m
  scanned = rw spreading at rule.marks_stand.heap_marks.scan

  few : s.words ≤ 1024
  few = subst IsFewWords spreading rule.marks_stand.heap_marks.few

  abbrev words : List ℕ
  words = words_marked heap state book rule m fits.target_within

  same : (x : ℕ) → SameSources heap state.words words x
  same = same_sources_after_mark heap state book rule m fits.target_within

  may : MayMark book.owner book.colour book.fragments m
  may = scanned.3

  is_spine : IsSpineOf heap words s
  is_spine = is_spine_after_shade heap state.words words book.owner book.colour book.fragments m may.kept_fragment same s scanned.1

  -- the scan has seen to one more word
  seen : IsSeen heap words coloured f (4 + (s.index + 1))
  seen = spread_word_is_seen heap words coloured f s.index m (is_seen_after_shade heap state.words words book.owner book.colour book.fragments m may.kept_fragment same f (4 + s.index) scanned.0)
      (leads_now_where_same heap state.words words f (same f) (4 + s.index) m scanned.2) (mark_marks_fragment book.colour m)

  marks : MarkingStands heap words book.owner coloured book.fragments state.collector.phase (after_spread s)
  marks = marking_stands_at_stage heap words book.owner coloured book.fragments state.collector.phase (after_spread s) fits.on.marks.for_marking (spine_scan_is_of_marking next)
      (grey_is_kept_fragment heap state.words words book.owner book.colour book.fragments m may.kept_fragment same rule.marks_stand.heap_marks.grey)
      (scan_stands_at_spine heap words book.owner coloured book.fragments next record { as_many = is_spine.as_many; there = is_spine.there } seen)
      (spine_scan_has_few_words next few (omega (arith, fits.on.index_within)) (omega (arith, fits.steps_made))) (pass_stands_at_spine coloured next)
      (sweep_stands_at_spine heap book.owner coloured state.collector.phase next) (nothing_is_dead heap state book rule fits.on.marks.for_marking (subst HasMarked spreading))

pub spread_keeps : (s : SpineScan) (m : ℕ) → StageKeeps (stages.Spreading s m)
spread_keeps s m heap state book rule spreading machine =
    let fits = fits heap state book rule s m spreading in
    keeps_rule_by_colour_turn heap state book rule (stages.Spreading s m) (after_spread s) spreading (m / 16) _ (omega (arith, fits.target_within))
    (with_mark book.colour m) (marked_target_recolours heap state book rule fits.on.marks.for_marking m fits.target_within (may heap state book rule s m spreading)) machine
    (marks heap state book rule s m spreading) tt (spine_scan_is_of_marking (next heap state book rule s m spreading)) (reached_after_mark heap state book rule m fits.target_within) (book_goes_on_with_mark heap state book m (by_spine s spreading)).marked

-- all that is asked of it
pub turn_kind_of_spreading : (s : SpineScan) (m : ℕ) → TurnKind (stages.Spreading s m)
turn_kind_of_spreading s m = record {
  keeps = stage_keeps_whole (stages.Spreading s m) (spread_keeps s m);
  fewer = spread_leaves_fewer s m;
  inside = λ heap state book rule cycle is. inside_spine_scan_at heap state book rule cycle _;
  shape = λ heap collector found. shape_of_quiet_step heap collector found (stages.Spreading s m) refl refl;
  looked = has_looked_at_stage (stages.Spreading s m) (λ heap phase looked fits. fits.on.marks.all);
  bits = on_bits_of_same_bits (stages.Spreading s m) (λ heap collector. spares (m / 16) refl (λ word i above below. lower_bit_stays word 32 m i (omega (arith, below))));
  spines = on_spines_beside (stages.Spreading s m) (λ heap collector. tt);
}
