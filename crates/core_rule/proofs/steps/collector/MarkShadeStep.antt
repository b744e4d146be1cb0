-- The collector marks what a word of a grey fragment led to: that keeps the rule.
use Rattle.std.proofs.Common.{◌≡◌, ℕ, ◌+◌, ◌/◌, ◌≤◌, List, Some, inl, inr, subst, arith, refl}
use Rattle.core_rule.proofs.Terms.{Heap, IsShading, State, Book, Colour, IsMarked, WordPointsTo, DeletionBarrier, IsSeen, MayMark, ComesAfter, MarkingStands, Rule, HasMarked}
use Rattle.core_machine.specs.collector.Marking.{scan_step, scan_at}
use Rattle.core_machine.specs.declared.collector.stage.Scan.{Scan}
use Rattle.core_machine.specs.declared.collector.stage.Stage.TheVariants as stages
use Rattle.core_rule.specs.marking.Sources.{TellsNoSpine}
use Rattle.core_rule.proofs.colours.LeadsFrames.{SameSources, tells_no_spine_still}
use Rattle.core_rule.proofs.colours.ShadeColours.{with_mark, mark_keeps_marked, mark_marks_fragment}
use Rattle.core_rule.proofs.book.BookGoing.{by_scan, book_goes_on_with_mark}
use Rattle.core_rule.proofs.marking.Marks.{marking_stands_at_stage, nothing_is_dead}
use Rattle.core_rule.proofs.marking.Paths.{grey_stays_grey}
use Rattle.core_rule.proofs.marking.Scans.{scan_stands_at_word, pass_stands_while_scanning, sweep_stands_while_scanning, scan_is_of_marking}
use Rattle.core_rule.proofs.marking.ScannedWords.{seen_up_to_next}
use Rattle.core_rule.proofs.marking.SeatShades.{words_marked, same_sources_after_mark, led_before_mark, reached_after_mark}
use Rattle.core_rule.proofs.marking.ShadeMarks.{grey_is_kept_fragment}
use Rattle.core_rule.proofs.steps.collector.ColourTurn.{keeps_rule_by_colour_turn}
use Rattle.core_rule.proofs.steps.collector.MarkedTarget.{marked_target_recolours}
use Rattle.core_rule.proofs.steps.TurnSteps.{StageKeeps}
use Rattle.core_rule.proofs.turns.FewWords.{scan_has_few_words}
use Rattle.core_rule.proofs.steps.TurnKinds.{TurnKind, shape_of_quiet_step, inside_scan_at, spares, stage_keeps_whole, on_bits_of_same_bits, on_spines_beside, has_looked_at_stage}
use Rattle.core_rule.proofs.turns.MarkingTurns.{shade_leaves_fewer}
use Rattle.core_rule.proofs.colours.OneBit.{lower_bit_stays}

module _ (heap : Heap) (state : State) (book : Book) (rule : Rule heap state book) (scan : Scan) (m next : ℕ) (shading : state.collector.stage ≡ stages.Shading scan m next) where
  abbrev f : ℕ
  f = scan.fragment

  abbrev coloured : ℕ → Colour
  coloured = with_mark book.colour m

  fits : IsShading heap state.collector.phase state.collector.looked scan m next
  fits = rw shading at rule.machine.collector_fit.at_stage

  scanned : IsSeen heap state.words book.colour f scan.part × DeletionBarrier heap state.words book.colour f scan.part (Some m)
      × MayMark book.owner book.colour book.fragments m × ComesAfter book.owner f scan.part next × TellsNoSpine heap state.words f
  scanned = rw shading at rule.marks_stand.heap_marks.scan

  abbrev words : List ℕ
  words = words_marked heap state book rule m fits.target_within

  same : (x : ℕ) → SameSources heap state.words words x
  same = same_sources_after_mark heap state book rule m fits.target_within

  back : (x p g : ℕ) → WordPointsTo heap words x p g → WordPointsTo heap state.words x p g
  back = led_before_mark heap state book rule m fits.target_within

  may : MayMark book.owner book.colour book.fragments m
  may = scanned.2

  -- the scan has seen to one more word
  seen : IsSeen heap words coloured f next
  seen = seen_up_to_next heap state book rule f (rule.marks_stand.heap_marks.grey f scanned.0.grey) words coloured scan.part next (λ p g leads. back f p g leads)
      record { grey = grey_stays_grey book.colour m f scanned.0.grey; seen = λ p g below leads. mark_keeps_marked book.colour m g (scanned.0.seen p g below (back f p g leads)) }
      (λ g leads. elim (scanned.1 g (back f scan.part g leads)) as (λ _. IsMarked coloured g) [
        | inl same ↦ let it : m ≡ g = cc in subst (IsMarked coloured) it (mark_marks_fragment book.colour m)
        | inr marked ↦ mark_keeps_marked book.colour m g marked
      ]) scanned.3

  few_steps : scan.steps + 1 ≤ 8
  few_steps = omega (arith, fits.few_steps, fits.part_within)

  marks : MarkingStands heap words book.owner coloured book.fragments state.collector.phase (scan_at (scan_step scan) next)
  marks = marking_stands_at_stage heap words book.owner coloured book.fragments state.collector.phase (scan_at (scan_step scan) next) fits.marks.for_marking (scan_is_of_marking (scan_step scan) next)
      (grey_is_kept_fragment heap state.words words book.owner book.colour book.fragments m may.kept_fragment same rule.marks_stand.heap_marks.grey)
      (scan_stands_at_word heap words book.owner coloured book.fragments (scan_step scan) next (tells_no_spine_still heap state.words words f (same f) scanned.4) seen)
      (scan_has_few_words (scan_step scan) next few_steps) (pass_stands_while_scanning coloured (scan_step scan) next)
      (sweep_stands_while_scanning heap book.owner coloured state.collector.phase (scan_step scan) next) (nothing_is_dead heap state book rule fits.marks.for_marking (subst HasMarked shading))

pub mark_shade_keeps : (scan : Scan) (m next : ℕ) → StageKeeps (stages.Shading scan m next)
mark_shade_keeps scan m next heap state book rule shading machine =
    let fits = fits heap state book rule scan m next shading in
    keeps_rule_by_colour_turn heap state book rule (stages.Shading scan m next) (scan_at (scan_step scan) next) shading (m / 16) _ (omega (arith, fits.target_within))
    (with_mark book.colour m) (marked_target_recolours heap state book rule fits.marks.for_marking m fits.target_within (may heap state book rule scan m next shading)) machine
    (marks heap state book rule scan m next shading) tt (scan_is_of_marking (scan_step scan) next) (reached_after_mark heap state book rule m fits.target_within) (book_goes_on_with_mark heap state book m (by_scan scan next shading)).marked

-- all that is asked of it
pub turn_kind_of_shading : (scan : Scan) (m : ℕ) (next : ℕ) → TurnKind (stages.Shading scan m next)
turn_kind_of_shading scan m next = record {
  keeps = stage_keeps_whole (stages.Shading scan m next) (mark_shade_keeps scan m next);
  fewer = λ few. shade_leaves_fewer scan m next;
  inside = λ heap state book rule cycle is. inside_scan_at heap state book rule cycle (scan_step scan) next;
  shape = λ heap collector found. shape_of_quiet_step heap collector found (stages.Shading scan m next) refl refl;
  looked = has_looked_at_stage (stages.Shading scan m next) (λ heap phase looked fits. fits.marks.all);
  bits = on_bits_of_same_bits (stages.Shading scan m next) (λ heap collector. spares (m / 16) refl (λ word i above below. lower_bit_stays word 32 m i (omega (arith, below))));
  spines = on_spines_beside (stages.Shading scan m next) (λ heap collector. tt);
}
