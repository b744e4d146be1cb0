-- The collector clears the marks of a group: that keeps the rule.
use Rattle.std.proofs.Common.{◌≡◌, ℕ, ◌+◌, ◌%◌, ◌≤◌, List, [], refl, sym, ap, ◌∙◌, subst, arith, inl}
use Rattle.std.proofs.lemmas.List.{append-nil}
use Rattle.core_rule.proofs.Terms.{cycle_phases, Heap, phase, IsClearing, Stage, Control, State, at, Book, ScanStands, IsFewWords, PassStands, MarkingStands, IsSettled}
use Rattle.core_rule.proofs.Terms.{SweepStands, AreCleared, Rule}
use Rattle.heap_model.specs.PhasePlan.{clearing as clearing_phase}
use Rattle.core_machine.specs.collector.Sweeping.{taken_count_of, after_cleared}
use Rattle.core_machine.specs.declared.collector.stage.Stage.TheVariants as stages
use Rattle.core_rule.proofs.book.BookGoing.{book_goes_on_with_colours}
use Rattle.core_rule.proofs.frames.Clearing.{words_cleared, book_cleared, leaves_spines_after_clearing, heap_stands_after_clearing, seat_stands_after_clearing}
use Rattle.core_rule.proofs.marking.Marks.{settled_phase_is_between}
use Rattle.core_rule.proofs.marking.SweepMarks.{after_cleared_either}
use Rattle.core_rule.proofs.budgets.BudgetFrames.{same_grants_recoloured}
use Rattle.core_rule.proofs.halves.HalvesFrames.{IsPlain}
use Rattle.core_rule.proofs.halves.StagesOn.{plain_stage_goes_on}
use Rattle.core_rule.proofs.steps.collector.ColourTurn.{at_stage, collector_agrees_at_stage}
use Rattle.core_rule.proofs.steps.TurnSteps.{StageKeeps, quiet, keeps_rule_after_turn, space_stands_after_turn}
use Rattle.core_rule.proofs.words.SweepWords.{are_cleared_up_to_next, grey_before_clearing, cleared_in, marked_before_clearing}
use Rattle.core_rule.proofs.steps.TurnKinds.{TurnKind, shape_of_quiet_step, inside_after_cleared, spares, stage_keeps_whole, on_bits_of_same_bits, on_spines_beside, has_looked_at_stage}
use Rattle.core_rule.proofs.turns.SweepTurns.{clear_leaves_fewer}
use Rattle.core_rule.proofs.words.SweepBits.{clearing_keeps_lower_bits}

module _ (heap : Heap) (state : State) (book : Book) (rule : Rule heap state book) (group kept : ℕ) (clearing : state.collector.stage ≡ stages.Clearing group kept) where
  fits : IsClearing heap state.collector.phase state.collector.looked group kept
  fits = rw clearing at rule.machine.collector_fit.at_stage

  cleared : AreCleared book.colour group
  cleared = subst (SweepStands heap book.owner book.colour state.collector.phase) clearing rule.marks_stand.heap_marks.sweep_stands

  last : phase book.history % cycle_phases ≡ clearing_phase
  last = ap (λ p. p % cycle_phases) (sym rule.collector_stands.phase_told) ∙ fits.for_clearing

  -- marking and the sweep are over
  unsettled : (stage : Stage) → ¬ IsSettled state.collector.phase stage
  unsettled stage settled = let between = settled_phase_is_between state.collector.phase stage settled in omega (arith, between.upto, fits.for_clearing)

  abbrev now : Book
  now = book_cleared heap state book rule group fits.group_within

  abbrev words : List ℕ
  words = words_cleared heap state book rule group fits.group_within

  -- what stands at a stage of the clearing
  marks_at : (stage : Stage) → ScanStands heap words book.owner now.colour book.fragments stage → IsFewWords stage → PassStands now.colour stage
      → SweepStands heap book.owner now.colour state.collector.phase stage → MarkingStands heap words book.owner now.colour book.fragments state.collector.phase stage
  marks_at stage scan few pass sweep = record {
    grey = λ f grey. rule.marks_stand.heap_marks.grey f (grey_before_clearing group book.colour f grey);
    scan = scan;
    few = few;
    pass = pass;
    sweep_stands = sweep;
    alive = λ going. rule.marks_stand.heap_marks.alive (unsettled state.collector.stage);
    after = λ settled. absurd (unsettled stage settled);
  }

  -- behind the last group nothing is marked
  cleared_all : heap.groups ≤ group + 1 → AreCleared now.colour heap.groups
  cleared_all all f below = are_cleared_up_to_next group book.colour cleared f (omega (arith, all, below))

  marks : (n : ℕ) → MarkingStands heap words book.owner now.colour book.fragments state.collector.phase (after_cleared heap group n)
  marks n = after_cleared_either (MarkingStands heap words book.owner now.colour book.fragments state.collector.phase) heap group n
      (marks_at (stages.Clearing (group + 1) n) tt tt tt (are_cleared_up_to_next group book.colour cleared))
      (λ all. marks_at (stages.Ending n) tt tt tt (cleared_all all))

pub clear_keeps : (group kept : ℕ) → StageKeeps (stages.Clearing group kept)
clear_keeps group kept heap state book rule clearing machine =
    let fits = fits heap state book rule group kept clearing in
    let last = last heap state book rule group kept clearing in
    let words : List ℕ = words_cleared heap state book rule group fits.group_within in
    let now : Book = book_cleared heap state book rule group fits.group_within in
    let stage : Stage = after_cleared heap group (kept + taken_count_of (at heap state.words (Control group))) in
    keeps_rule_after_turn heap state book words (quiet (at_stage state.collector stage)) now [] rule machine
    (sym (append-nil book.history))
    (heap_stands_after_clearing heap state book rule group fits.group_within last)
    (seat_stands_after_clearing heap state book rule group fits.group_within last fits.all)
    (collector_agrees_at_stage heap state book rule stage)
    record {
      heap_marks = marks heap state book rule group kept clearing (kept + taken_count_of (at heap state.words (Control group)));
      roots = λ r below is. absurd (omega (arith, is.phase, fits.for_clearing));
    }
    (space_stands_after_turn heap state book rule words (quiet (at_stage state.collector stage)) now (leaves_spines_after_clearing heap state book rule group fits.group_within) (same_grants_recoloured heap book (cleared_in group book.colour) book.begun)
    (plain_stage_goes_on heap state.words words now state.collector (quiet (at_stage state.collector stage)) refl (subst IsPlain (sym clearing) tt)
    (after_cleared_either IsPlain heap group (kept + taken_count_of (at heap state.words (Control group))) tt (λ all. tt)) (leaves_spines_after_clearing heap state book rule group fits.group_within).spines rule.space.halves.copy))
    (book_goes_on_with_colours heap state book (cleared_in group book.colour) (λ f i k owned below marked. inl (marked_before_clearing group book.colour f marked)))

-- all that is asked of it
pub turn_kind_of_clearing : (group : ℕ) (kept : ℕ) → TurnKind (stages.Clearing group kept)
turn_kind_of_clearing group kept = record {
  keeps = stage_keeps_whole (stages.Clearing group kept) (clear_keeps group kept);
  fewer = λ few. clear_leaves_fewer group kept;
  inside = λ heap state book rule cycle is. inside_after_cleared heap state book rule cycle group kept is;
  shape = λ heap collector found. shape_of_quiet_step heap collector found (stages.Clearing group kept) refl refl;
  looked = has_looked_at_stage (stages.Clearing group kept) (λ heap phase looked fits. fits.all);
  bits = on_bits_of_same_bits (stages.Clearing group kept) (λ heap collector. spares group refl (λ word i above below. clearing_keeps_lower_bits word i below));
  spines = on_spines_beside (stages.Clearing group kept) (λ heap collector. tt);
}
