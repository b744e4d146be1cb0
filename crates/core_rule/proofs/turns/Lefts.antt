-- How the number of turns left goes on: within a phase, and into the next one.
use Rattle.std.proofs.Common.{◌≡◌, ℕ, ◌+◌, ◌-◌, ◌*◌, ◌%◌, ◌<◌, List, arith}
use Rattle.core_rule.proofs.Terms.{cycle_phases, Heap, turn_at, Stage, State, found_by, state_after_turn, Book, Rule}
use Rattle.heap_model.specs.declared.calls.collector_calls.Turn.TheVariants.{Stepped}
use Rattle.core_rule.specs.turns.TurnsLeft.{stage_left, phase_most, turns_left_at, turns_left}

-- where the turn that is due at this stage is a step, it leaves fewer turns
abbrev pub StageLeavesFewer : Stage → Type 0
StageLeavesFewer stage = (heap : Heap) (state : State) (book : Book) → Rule heap state book → state.collector.stage ≡ stage
    → (turn_at heap state.collector stage).answer (found_by heap state (turn_at heap state.collector stage).step) ≡ Stepped
    → turns_left heap (state_after_turn heap state (turn_at heap state.collector stage)) < turns_left heap state

beside : (a x y : ℕ) → x < y → a + x < a + y
beside a x y less = omega (arith, less)

-- a turn that stays in its phase, which has come to another stage
pub fewer_turns_left_at_stage : (heap : Heap) (state : State) (stage : Stage) (now : List ℕ) (looked : ℕ) (next : Stage) → state.collector.stage ≡ stage
    → stage_left heap now state.collector.phase looked next < stage_left heap state.words state.collector.phase state.collector.looked stage
    → turns_left_at heap now state.collector.phase looked next < turns_left heap state
fewer_turns_left_at_stage heap state stage now looked next here less =
    rw here (beside ((6 - state.collector.phase % cycle_phases) * phase_most heap) (stage_left heap now state.collector.phase looked next) (stage_left heap state.words state.collector.phase state.collector.looked stage) less)
