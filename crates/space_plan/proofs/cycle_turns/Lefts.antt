-- How the number of turns left of a cycle goes on within a phase.
use Rattle.std.proofs.Common.{◌≡◌, ℕ, ◌+◌, ◌<◌, ◌≤◌, List, subst, arith}
use Rattle.core_rule.proofs.Terms.{Heap, turn_at, Stage, State, found_by, state_after_turn, address_of, HasWord, Book, Rule}
use Rattle.heap_model.specs.declared.calls.collector_calls.Turn.TheVariants.{Stepped}
use Rattle.core_machine.specs.collector.FitsTurns.{FitsStage}
use Rattle.core_rule.specs.runs.TableLaws.{EachTurnHasItsWord}
use Rattle.core_rule.proofs.held.DueWords.{each_turn_has_its_word}
use Rattle.space_plan.specs.cycle_turns.CycleLeft.{left_in_phase, phases_left, cycle_left_at, cycle_left}
use Rattle.space_plan.proofs.cycle_turns.LosesNothing.{LosesNothing, left_in_phase_falls}
use Rattle.space_plan.proofs.cycle_turns.Writes.{Spares, step_loses_nothing}

-- where the turn that is due at this stage is a step, it leaves fewer turns of the cycle
abbrev pub StageLeavesFewer : Stage → Type 0
StageLeavesFewer stage = (heap : Heap) (state : State) (book : Book) → Rule heap state book → state.collector.stage ≡ stage
    → (turn_at heap state.collector stage).answer (found_by heap state (turn_at heap state.collector stage).step) ≡ Stepped
    → cycle_left heap (state_after_turn heap state (turn_at heap state.collector stage)) < cycle_left heap state

module _ (heap : Heap) (state : State) (stage : Stage) (here : state.collector.stage ≡ stage) where
  -- a turn that stays in its phase, which has come to another stage
  pub fewer_left_at_stage : (now : List ℕ) (looked : ℕ) (next : Stage) → left_in_phase heap now state.collector.phase looked next < left_in_phase heap state.words state.collector.phase state.collector.looked stage
      → cycle_left_at heap now state.collector.phase looked next < cycle_left heap state
  fewer_left_at_stage now looked next less = rw here (by _ _ (phases_left heap state.collector.phase) less)
    where
      by : (m n more : ℕ) → m < n → m + 1 + more < n + 1 + more
      by m n more fewer = omega (arith, fewer)

  module _ (book : Book) (rule : Rule heap state book) where
    -- a turn that spares what marks tell loses nothing
    pub turn_loses_nothing : Spares heap state.words (turn_at heap state.collector stage).step → LosesNothing heap state.words (state_after_turn heap state (turn_at heap state.collector stage)).words
    unfolding EachTurnHasItsWord
    turn_loses_nothing spares = step_loses_nothing heap state.words rule.machine.table (turn_at heap state.collector stage).step
        (subst (λ s. HasWord heap (address_of (turn_at heap state.collector s).step)) here (each_turn_has_its_word heap state book rule)) spares

    fits_stage : FitsStage heap state.collector.phase state.collector.looked stage
    fits_stage = subst (FitsStage heap state.collector.phase state.collector.looked) here rule.machine.collector_fit.at_stage

    -- so it leaves fewer where, in the words after it, it does
    pub fewer_left_in_words_after : (looked : ℕ) (next : Stage) → Spares heap state.words (turn_at heap state.collector stage).step
        → left_in_phase heap (state_after_turn heap state (turn_at heap state.collector stage)).words state.collector.phase looked next
        < left_in_phase heap (state_after_turn heap state (turn_at heap state.collector stage)).words state.collector.phase state.collector.looked stage
        → cycle_left_at heap (state_after_turn heap state (turn_at heap state.collector stage)).words state.collector.phase looked next < cycle_left heap state
    fewer_left_in_words_after looked next spares less =
        let falls = left_in_phase_falls heap state.words _ (turn_loses_nothing spares) state.collector.phase state.collector.looked stage fits_stage in
        fewer_left_at_stage _ looked next (less_than _ _ _ less falls)
      where
        less_than : (m n k : ℕ) → m < n → n ≤ k → m < k
        less_than m n k fewer more = omega (arith, fewer, more)
