-- A scanned fragment gets black: that keeps the rule.
use Rattle.std.specs.Prelude.{bit_or}
use Rattle.std.proofs.Common.{◌≡◌, ℕ, ◌/◌, ◌%◌, ◌<◌, true, List, inl, inr, sym, ap, ◌∙◌, subst, arith, refl}
use Rattle.std.proofs.lemmas.Bool.Decides.{eqb_tells}
use Rattle.core_rule.proofs.Terms.{cycle_phases, blacken_bit_of, Heap, phase, IsBlackening, Control, State, at, put, Book, Colour, White, Grey, WordPointsTo, IsSeenWhole}
use Rattle.core_rule.proofs.Terms.{MarkingStands, Borne, Kept, IsWhite, Edge, IsReached, Rule, HasMarked}
use Rattle.heap_model.specs.PhasePlan.{marking as marking_phase}
use Rattle.core_machine.specs.declared.collector.stage.Scan.{Scan}
use Rattle.core_machine.specs.declared.collector.stage.Stage.TheVariants as stages
use Rattle.core_rule.proofs.colours.OneBit.{bits_after_mark, lower_bit_stays}
use Rattle.core_rule.proofs.colours.BlackenColours.{with_scan, scan_keeps_other_colour, scan_keeps_marked, marked_before_scan, grey_before_scan, marks_after_blackening, coloured_after_blackening}
use Rattle.core_rule.proofs.colours.LeadsFrames.{leads_after_control_write}
use Rattle.core_rule.proofs.frames.Recoloured.{Recolours}
use Rattle.core_rule.proofs.marking.Marks.{marking_stands_at_stage, nothing_is_dead}
use Rattle.core_rule.proofs.marking.Paths.{path_stays_guarded}
use Rattle.core_rule.proofs.steps.collector.ColourTurn.{keeps_rule_by_colour_turn}
use Rattle.core_rule.proofs.steps.TurnSteps.{StageKeeps}
use Rattle.core_rule.proofs.steps.TurnKinds.{TurnKind, shape_of_quiet_step, spares, stage_keeps_whole, on_bits_of_same_bits, on_spines_beside, has_looked_at_stage}
use Rattle.core_rule.proofs.turns.MarkingTurns.{blacken_leaves_fewer}

module _ (heap : Heap) (state : State) (book : Book) (rule : Rule heap state book) (scan : Scan) (blackening : state.collector.stage ≡ stages.Blackening scan) where
  abbrev f : ℕ
  f = scan.fragment

  abbrev coloured : ℕ → Colour
  coloured = with_scan book.colour f

  abbrev words : List ℕ
  words = put heap state.words (Control (f / 16)) (bit_or (at heap state.words (Control (f / 16))) (blacken_bit_of f))

  fits : IsBlackening heap state.collector.phase state.collector.looked scan
  fits = rw blackening at rule.machine.collector_fit.at_stage

  seen : IsSeenWhole heap state.words book.colour f
  seen = rw blackening at rule.marks_stand.heap_marks.scan

  below : f / 16 < heap.groups
  below = omega (arith, fits.fragment_within)

  third : phase book.history % cycle_phases ≡ marking_phase
  third = ap (λ p. p % cycle_phases) (sym rule.collector_stands.phase_told) ∙ fits.marks.for_marking

  new : Recolours heap words book coloured
  new = record {
    bits = bits_after_mark heap state.words book.owner 48 f rule.machine.table fits.fragment_within (omega arith) rule.heap_stands.control_words;
    marks = marks_after_blackening heap state.words book.owner book.colour f rule.machine.table fits.fragment_within seen.grey rule.heap_stands.cycle.marks;
    right = coloured_after_blackening heap state.words book.owner book.colour f rule.machine.table fits.fragment_within seen.grey book.fragments (phase book.history) third seen.seen rule.heap_stands.cycle.coloured;
    keeps = scan_keeps_marked book.colour f seen.grey;
    births = λ r x borne. scan_keeps_other_colour book.colour f x (λ same. apart r (sym borne ∙ ap book.owner same ∙ (rule.marks_stand.heap_marks.grey f seen.grey).kept));
  }
    where
      apart : (r : ℕ) {i k : ℕ} → Borne r ≡ Kept i k → ⊥
      apart r e = cc

  -- no path began there
  comes : (x : ℕ) → IsReached heap state.words book.owner book.colour x → IsReached heap words book.owner coloured x
  comes x (inl marked) = inl (scan_keeps_marked book.colour f seen.grey x marked)
  comes x (inr path) = inr (path_stays_guarded (Edge heap state.words) (Edge heap words) (IsWhite book.owner book.colour) (IsWhite book.owner coloured) (λ y. book.colour y ≡ Grey) (λ y. coloured y ≡ Grey)
      (λ y white. record { unmarked = scan_keeps_other_colour book.colour f y (λ same. absurd (let grey = seen.grey in let light = subst (λ z. book.colour z ≡ White) same white.unmarked in cc)) ∙ white.unmarked; born = white.born })
      still
      (λ y g from leads white. record { source = leads.source; points = leads_after_control_write heap state.words (f / 16) _ below y leads.source g leads.points }) x path)
    where
      still : (y g : ℕ) → book.colour y ≡ Grey → Edge heap state.words y g → IsWhite book.owner book.colour g → coloured y ≡ Grey
      still y g grey leads white = elim (eqb_tells y f) as (λ _. coloured y ≡ Grey) [
        | inl same ↦ absurd (seen.seen leads.source g (subst (λ z. WordPointsTo heap state.words z leads.source g) same.1 leads.points) white.unmarked)
        | inr other ↦ scan_keeps_other_colour book.colour f y other.1 ∙ grey
      ]

  marks : MarkingStands heap words book.owner coloured book.fragments state.collector.phase (stages.Passing (f / 16) true)
  marks = marking_stands_at_stage heap words book.owner coloured book.fragments state.collector.phase (stages.Passing (f / 16) true) fits.marks.for_marking tt
      (λ x grey. rule.marks_stand.heap_marks.grey x (grey_before_scan book.colour f x grey)) tt tt tt tt (nothing_is_dead heap state book rule fits.marks.for_marking (subst HasMarked blackening))

pub blacken_keeps : (scan : Scan) → StageKeeps (stages.Blackening scan)
blacken_keeps scan heap state book rule blackening machine =
    keeps_rule_by_colour_turn heap state book rule (stages.Blackening scan) (stages.Passing (scan.fragment / 16) true) blackening (scan.fragment / 16) _ (below heap state book rule scan blackening)
    (with_scan book.colour scan.fragment) (new heap state book rule scan blackening) machine (marks heap state book rule scan blackening) tt tt (comes heap state book rule scan blackening)
    (λ x i k owned before marked. inl (marked_before_scan book.colour scan.fragment (seen heap state book rule scan blackening).grey x marked))

-- all that is asked of it
pub turn_kind_of_blackening : (scan : Scan) → TurnKind (stages.Blackening scan)
turn_kind_of_blackening scan = record {
  keeps = stage_keeps_whole (stages.Blackening scan) (blacken_keeps scan);
  fewer = blacken_leaves_fewer scan;
  inside = λ heap state book rule cycle is. tt;
  shape = λ heap collector found. shape_of_quiet_step heap collector found (stages.Blackening scan) refl refl;
  looked = has_looked_at_stage (stages.Blackening scan) (λ heap phase looked fits. fits.marks.all);
  bits = on_bits_of_same_bits (stages.Blackening scan) (λ heap collector. spares (scan.fragment / 16) refl (λ word i above below. lower_bit_stays word 48 scan.fragment i (omega (arith, below))));
  spines = on_spines_beside (stages.Blackening scan) (λ heap collector. tt);
}
