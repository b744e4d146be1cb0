-- The loads of the sweep keep the rule: a group's control word tells which of its fragments are dead, and the first word of a dead one how many spine words its array has.
use Rattle.std.specs.Prelude.{if◌then◌else◌}
use Rattle.std.proofs.Common.{◌≡◌, ℕ, ◌+◌, ◌*◌, ◌%◌, ◌==◌, Option, Some, None, inl, inr, refl, sym, ap, ◌∙◌, subst, arith}
use Rattle.std.proofs.lemmas.Bool.Decides.{eqb_tells}
use Rattle.core_rule.proofs.Terms.{cycle_phases, Heap, IsSweeping, IsExamining, Stage, Control, Word, State, sum_upto, spine_words_in, at, Book, SweepCounts, dead_weight}
use Rattle.core_rule.proofs.Terms.{words_of_object, nodes_in, AwaitsCopy, AfterMarking, AreFreed, AreDead, SweepStands, Rule}
use Rattle.heap_model.specs.PhasePlan.{sweep as sweep_phase}
use Rattle.core_machine.specs.collector.Sweeping.{dead_bits_of, next_position_of, after_swept, after_examined}
use Rattle.core_machine.specs.declared.collector.stage.Stage.TheVariants as stages
use Rattle.core_machine.proofs.table_lemmas.DeadBits.{dead_bits_within_group}
use Rattle.core_machine.proofs.table_lemmas.Free.{sum_upto-none, sum_upto-more}
use Rattle.core_rule.proofs.marking.DeadPositions.{dead_bits_are_dead}
use Rattle.core_rule.proofs.marking.SweepMarks.{after_swept_either, marking_stands_after_examined}
use Rattle.core_rule.proofs.owners.OwnerLemmas.{dead_bit_is_dead}
use Rattle.core_rule.proofs.halves.HalvesFrames.{StageGoesOn}
use Rattle.core_rule.proofs.halves.StagesOn.{IsQuiet, quiet_stage_goes_on}
use Rattle.core_rule.proofs.dying.SweepSums.{at_position, sweep_counts_after_examined}
use Rattle.core_rule.proofs.steps.collector.ColourTurn.{at_stage, keeps_rule_by_load_on}
use Rattle.core_rule.proofs.steps.TurnSteps.{StageKeeps}
use Rattle.core_rule.proofs.steps.TurnKinds.{TurnKind, turn_kind_of_load, inside_after_examined}
use Rattle.core_rule.proofs.turns.SweepTurns.{sweep_leaves_fewer, examine_leaves_fewer}

module _ (heap : Heap) (state : State) (book : Book) (rule : Rule heap state book) (sweeps : state.collector.phase % cycle_phases ≡ sweep_phase) (group dead : ℕ) where
  -- nothing is copied or returned where the sweep goes on in its group
  still_quiet : (counted : ℕ) (next : Option ℕ) → IsQuiet (after_examined heap group dead counted next)
  still_quiet counted (Some position) = tt
  still_quiet counted None = elim (eqb_tells dead 0) as (λ _. IsQuiet (if dead == 0 then after_swept heap group else stages.Freeing group dead counted)) [
    | inl none ↦ rw none.0 (after_swept_either IsQuiet heap group tt (λ last. tt))
    | inr some ↦ rw some.0 tt
  ]

  -- so the spine space stands, where it has counted right
  spines_on : (from : Stage) → state.collector.stage ≡ from → IsQuiet from → ((f : ℕ) → ¬ AwaitsCopy state.collector.phase from f) → (counted : ℕ) (next : Option ℕ)
      → SweepCounts (words_of_object (nodes_in heap book)) book.owner (after_examined heap group dead counted next)
      → StageGoesOn heap state.words book state.collector (at_stage state.collector (after_examined heap group dead counted next))
  spines_on from was before waits counted next counts =
      quiet_stage_goes_on heap state.words state.words book state.collector (at_stage state.collector (after_examined heap group dead counted next)) refl
      record { from_before = λ third. absurd (omega (arith, third, sweeps)); to_before = λ third. absurd (omega (arith, third, sweeps)) }
      (subst IsQuiet (sym was) before) (still_quiet counted next) (λ f waiting. absurd (waits f (subst (λ stage. AwaitsCopy state.collector.phase stage f) was waiting))) counts
      (λ half offset. refl) rule.space.halves.copy

module _ (heap : Heap) (state : State) (book : Book) (rule : Rule heap state book) (group : ℕ) (sweeping : state.collector.stage ≡ stages.Sweeping group) where
  sweeps : IsSweeping heap state.collector.phase state.collector.looked group
  sweeps = rw sweeping at rule.machine.collector_fit.at_stage

  after : AfterMarking book.owner book.colour
  after = rule.marks_stand.heap_marks.after (inr (inr sweeps.for_sweep))

  freed : AreFreed book.owner group
  freed = subst (SweepStands heap book.owner book.colour state.collector.phase) sweeping rule.marks_stand.heap_marks.sweep_stands

  told : AreDead book.owner group (dead_bits_of (at heap state.words (Control group)))
  told = dead_bits_are_dead heap state.words book.owner book.colour group rule.machine.table sweeps.group_within rule.heap_stands.control_words rule.heap_stands.cycle.marks after

pub sweep_keeps : (group : ℕ) → StageKeeps (stages.Sweeping group)
sweep_keeps group heap state book rule sweeping machine =
    let bits : ℕ = dead_bits_of (at heap state.words (Control group)) in
    let for_sweep = (sweeps heap state book rule group sweeping).for_sweep in
    let told = told heap state book rule group sweeping in
    keeps_rule_by_load_on heap state book rule (stages.Sweeping group) (after_examined heap group bits 0 (next_position_of bits 0)) sweeping (Control group) machine
    (marking_stands_after_examined heap state.words book.owner book.colour book.fragments state.collector.phase for_sweep (after heap state book rule group sweeping)
    group bits (dead_bits_within_group (at heap state.words (Control group))) (freed heap state book rule group sweeping) told 0 (next_position_of bits 0))
    (λ e. e)
    (spines_on heap state book rule for_sweep group bits (stages.Sweeping group) sweeping tt (λ f waits. waits) 0 (next_position_of bits 0)
    (sweep_counts_after_examined heap (words_of_object (nodes_in heap book)) book.owner group bits told 0 0 (sym (sum_upto-none _)) (omega arith) (next_position_of bits 0) refl))

module _ (heap : Heap) (state : State) (book : Book) (rule : Rule heap state book) (group dead position counted : ℕ) (examining : state.collector.stage ≡ stages.Examining group dead position counted) where
  examines : IsExamining heap state.collector.phase state.collector.looked group dead position counted
  examines = rw examining at rule.machine.collector_fit.at_stage

  seen : AreFreed book.owner group × AreDead book.owner group dead
  seen = subst (SweepStands heap book.owner book.colour state.collector.phase) examining rule.marks_stand.heap_marks.sweep_stands

  abbrev words : ℕ → ℕ
  words = words_of_object (nodes_in heap book)

  abbrev f : ℕ
  f = 16 * group + position

  abbrev word : ℕ
  word = at heap state.words (Word f 0)

  -- it has counted the words before its position
  counts : counted ≡ sum_upto position (at_position heap words book.owner group dead seen.1)
  counts = subst (SweepCounts words book.owner) examining rule.space.budgets.counts

  -- the word that it finds tells the words of the array that begins there, if one does
  tells : spine_words_in word ≡ dead_weight words (book.owner f)
  tells =
      let is = dead_bit_is_dead (book.owner f) (sym (seen.1 position examines.position_within) ∙ examines.is_dead) in
      (rule.heap_stands.spines.tells f is.0 is.1 is.2).1.told ∙ ap (dead_weight words) (sym is.2)

  counts_more : counted + spine_words_in word ≡ sum_upto (position + 1) (at_position heap words book.owner group dead seen.1)
  counts_more =
      let weight : ℕ → ℕ = at_position heap words book.owner group dead seen.1 in
      omega (arith, sum_upto-more position weight, counts, tells)

pub examine_keeps : (group dead position counted : ℕ) → StageKeeps (stages.Examining group dead position counted)
examine_keeps group dead position counted heap state book rule examining machine =
    let fits = examines heap state book rule group dead position counted examining in
    let told = seen heap state book rule group dead position counted examining in
    let more : ℕ = counted + spine_words_in (at heap state.words (Word (16 * group + position) 0)) in
    let next : Option ℕ = next_position_of dead (position + 1) in
    keeps_rule_by_load_on heap state book rule (stages.Examining group dead position counted) (after_examined heap group dead more next) examining (Word (16 * group + position) 0) machine
    (marking_stands_after_examined heap state.words book.owner book.colour book.fragments state.collector.phase fits.sweeps.for_sweep
    (rule.marks_stand.heap_marks.after (inr (inr fits.sweeps.for_sweep))) group dead fits.dead_within told.0 told.1 more next)
    (λ e. e)
    (spines_on heap state book rule fits.sweeps.for_sweep group dead (stages.Examining group dead position counted) examining tt (λ f waits. waits) more next
    (sweep_counts_after_examined heap (words_of_object (nodes_in heap book)) book.owner group dead told.1 more (position + 1) (counts_more heap state book rule group dead position counted examining) (omega (arith, fits.position_within)) next refl))

-- all that is asked of it
pub turn_kind_of_sweeping : (group : ℕ) → TurnKind (stages.Sweeping group)
turn_kind_of_sweeping group = turn_kind_of_load (stages.Sweeping group) (λ heap collector. record { adds_none = refl; steps = λ word. refl; loaded = λ word. refl; beside = tt }) record {
  keeps = sweep_keeps group;
  fewer = λ few. sweep_leaves_fewer group;
  inside = λ heap state book rule cycle is.
      let dead : ℕ = dead_bits_of (at heap state.words (Control group)) in
      inside_after_examined heap state book rule cycle group dead 0 (next_position_of dead 0);
  all = λ heap phase looked fits. fits.all;
}

-- all that is asked of it
pub turn_kind_of_examining : (group : ℕ) (dead : ℕ) (position : ℕ) (counted : ℕ) → TurnKind (stages.Examining group dead position counted)
turn_kind_of_examining group dead position counted = turn_kind_of_load (stages.Examining group dead position counted) (λ heap collector. record { adds_none = refl; steps = λ word. refl; loaded = λ word. refl; beside = tt }) record {
  keeps = examine_keeps group dead position counted;
  fewer = λ few. examine_leaves_fewer group dead position counted;
  inside = λ heap state book rule cycle is.
      inside_after_examined heap state book rule cycle group dead (counted + spine_words_in (at heap state.words (Word (16 * group + position) 0))) (next_position_of dead (position + 1));
  all = λ heap phase looked fits. fits.sweeps.all;
}
