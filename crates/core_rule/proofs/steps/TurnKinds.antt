-- All that is asked of a kind of turn of the collector, in one record for its stage.
use Rattle.std.proofs.Common.{◌≡◌, ◌≢◌, ℕ, ◌+◌, ◌*◌, ◌%◌, ◌<◌, ◌⊎◌, [], inr, subst, sym, ◌∙◌, arith}
use Rattle.core_rule.proofs.Terms.{born_at, Heap, Collector, turn_at, Stage, State, state_after_turn, InTable, HasWord, address_of, word_after, Book, IsTaken, IsBorn, IsFewWords}
use Rattle.core_rule.proofs.Terms.{dead_bit, Rule}
use Rattle.heap_words.specs.declared.spot.Spot.{Spot}
use Rattle.heap_model.specs.declared.calls.collector_calls.Turn.TheVariants as answers
use Rattle.core_machine.specs.collector.FitsTurns.{FitsStage}
use Rattle.core_machine.specs.declared.collector.stage.ArrayAt.{ArrayAt}
use Rattle.core_machine.specs.declared.collector.stage.Copying.TheVariants as copying
use Rattle.core_machine.specs.declared.collector.stage.SpineCopy.{SpineCopy}
use Rattle.core_machine.specs.declared.collector.stage.Stage.TheVariants as stages
use Rattle.core_machine.specs.declared.step.CopyingStep.TheVariants.{CopyStore, CopyClaim}
use Rattle.core_machine.specs.declared.step.Step.TheVariants as steps
use Rattle.core_rule.proofs.entries.TurnShapes.{HasShape}
pub use Rattle.core_rule.proofs.entries.TurnShapes.{adds_one, returns_steps_in_phase, ends_cycle, shape_of_quiet_step, frees_steps_in_phase, begins_phase, adds_nothing, swings_steps_in_phase}
use Rattle.core_rule.proofs.footprint.StagesInside.{LeadsInside}
pub use Rattle.core_rule.proofs.footprint.StagesInside.{inside_after_swept, Inside, inside_after_index, inside_after_freed, inside_spine_scan_at, inside_after_scan, inside_after_look, inside_after_examined, inside_after_cleared, inside_after_pass, inside_scan_at}
use Rattle.core_rule.proofs.steps.TurnSteps.{StageKeeps, MayEnd, TurnKeeps}
use Rattle.core_rule.proofs.turns.Lefts.{StageLeavesFewer}
use Rattle.core_rule.proofs.words.BitsLeft.{LeavesBits, fragment_bit_stays}
pub use Rattle.core_rule.proofs.words.BitsLeft.{beside, only_loads, spares}
use Rattle.core_rule.proofs.words.BesideSpines.{IsBesideSpines, word_beside_is_there}

-- the turn keeps the rule, where the end of a cycle may come if it is that
abbrev pub StageKeepsWhole : Stage → Type 0
StageKeepsWhole stage = (heap : Heap) (state : State) (book : Book) → Rule heap state book → MayEnd heap state book → state.collector.stage ≡ stage
    → TurnKeeps heap state book (turn_at heap state.collector stage)

-- it looks at seats, or has looked at all
abbrev pub HasLookedAt : Stage → Type 0
HasLookedAt stage = (heap : Heap) (phase looked : ℕ) → FitsStage heap phase looked stage → (stage ≡ stages.Looking) ⊎ (looked ≡ heap.seats)

-- what a turn leaves of taken and born bits: a taken fragment that isn't to be freed stays taken, and none is born
pub record OnBits (stage : Stage) : Type 0 where
  pub spares_taken : (heap : Heap) (state : State) (book : Book) → Rule heap state book → state.collector.stage ≡ stage → (f : ℕ) → f < 16 * heap.groups → dead_bit (book.owner f) ≢ 1
      → IsTaken heap state.words f → IsTaken heap (state_after_turn heap state (turn_at heap state.collector stage)).words f
  pub bears_none : (heap : Heap) (state : State) (book : Book) → Rule heap state book → (f : ℕ) → f < 16 * heap.groups
      → ¬ IsBorn heap state.words f → ¬ IsBorn heap (state_after_turn heap state (turn_at heap state.collector stage)).words f

-- on which spine word a turn is: on one that the table has, and it stores and claims words for its own copy alone
pub record OnSpines (stage : Stage) : Type 0 where
  pub there : (heap : Heap) (state : State) (book : Book) → Rule heap state book → state.collector.stage ≡ stage
      → InTable heap (address_of (turn_at heap state.collector stage).step) → HasWord heap (address_of (turn_at heap state.collector stage).step)
  pub stores : (heap : Heap) (collector : Collector) (half offset word : ℕ) → (turn_at heap collector stage).step ≡ steps.Copying (CopyStore half offset word)
      → (copy : SpineCopy) × (stage ≡ stages.Copying (copying.Storing copy word)) × (half ≡ copy.to.half) × (offset ≡ copy.to.offset + copy.index)
  pub claims : (heap : Heap) (collector : Collector) (words : ℕ) → (turn_at heap collector stage).step ≡ steps.Copying (CopyClaim words)
      → (array : ArrayAt) × (from : Spot) × (stage ≡ stages.Copying (copying.Claiming array from)) × (array.words ≡ words)

-- all of it
pub record TurnKind (stage : Stage) : Type 0 where
  pub keeps : StageKeepsWhole stage
  -- where it is a step, fewer turns are left
  pub fewer : IsFewWords stage → StageLeavesFewer stage
  -- what it comes to is inside
  pub inside : LeadsInside stage
  -- what it adds and answers
  pub shape : HasShape stage
  pub looked : HasLookedAt stage
  pub bits : OnBits stage
  pub spines : OnSpines stage

-- a turn that ends no cycle
pub stage_keeps_whole : (stage : Stage) → StageKeeps stage → StageKeepsWhole stage
stage_keeps_whole stage keeps heap state book rule ends is = keeps heap state book rule is

-- where it has looked at all
pub has_looked_at_stage : (stage : Stage) → ((heap : Heap) (phase looked : ℕ) → FitsStage heap phase looked stage → looked ≡ heap.seats) → HasLookedAt stage
has_looked_at_stage stage all heap phase looked fits = inr (all heap phase looked fits)

-- a turn that leaves the taken and the born bits
pub on_bits_of_same_bits : (stage : Stage) → ((heap : Heap) (collector : Collector) → LeavesBits heap 0 32 (turn_at heap collector stage).step) → OnBits stage
on_bits_of_same_bits stage leaves = record {
  spares_taken = λ heap state book rule is f within alive taken.
      fragment_bit_stays heap state.words (turn_at heap state.collector stage).step rule.machine.table f within 0 32 (leaves heap state.collector) (f % 16) (omega arith) (omega arith) ∙ taken;
  bears_none = λ heap state book rule f within unborn born. unborn
      (sym (fragment_bit_stays heap state.words (turn_at heap state.collector stage).step rule.machine.table f within 0 32 (leaves heap state.collector) (born_at f) (omega arith) (omega arith)) ∙ born);
}

-- a turn beside the spine space
pub on_spines_beside : (stage : Stage) → ((heap : Heap) (collector : Collector) → IsBesideSpines (address_of (turn_at heap collector stage).step)) → OnSpines stage
on_spines_beside stage off = record {
  there = λ heap state book rule is. word_beside_is_there heap (address_of (turn_at heap state.collector stage).step) (off heap state.collector);
  stores = λ heap collector half offset word due. absurd (subst (λ step. IsBesideSpines (address_of step)) due (off heap collector));
  claims = λ heap collector words due. absurd (subst (λ step. IsBesideSpines (address_of step)) due (off heap collector));
}

-- a turn that loads a word beside the spine space, adds nothing, and is a step
pub record IsPlainLoad (stage : Stage) (heap : Heap) (collector : Collector) : Type 0 where
  pub adds_none : (turn_at heap collector stage).adds ≡ []
  pub steps : (found : ℕ) → (turn_at heap collector stage).answer found ≡ answers.Stepped
  pub loaded : (word : ℕ) → word_after (turn_at heap collector stage).step word ≡ word
  pub beside : IsBesideSpines (address_of (turn_at heap collector stage).step)

-- what a kind of such a turn has still to say
pub record LoadKind (stage : Stage) : Type 0 where
  pub keeps : StageKeeps stage
  pub fewer : IsFewWords stage → StageLeavesFewer stage
  pub inside : LeadsInside stage
  pub all : (heap : Heap) (phase looked : ℕ) → FitsStage heap phase looked stage → looked ≡ heap.seats

pub turn_kind_of_load : (stage : Stage) → ((heap : Heap) (collector : Collector) → IsPlainLoad stage heap collector) → LoadKind stage → TurnKind stage
turn_kind_of_load stage plain kind = record {
  keeps = stage_keeps_whole stage kind.keeps;
  fewer = kind.fewer;
  inside = kind.inside;
  shape = λ heap collector found. shape_of_quiet_step heap collector found stage (plain heap collector).adds_none ((plain heap collector).steps found);
  looked = has_looked_at_stage stage kind.all;
  bits = on_bits_of_same_bits stage (λ heap collector. only_loads (plain heap collector).loaded);
  spines = on_spines_beside stage (λ heap collector. (plain heap collector).beside);
}
