-- Each turn of the collector, by its stage: a step leaves fewer turns of the cycle, a wait no more, and an end as many as a cycle has at most.
use Rattle.std.specs.Prelude.{if◌then◌else◌}
use Rattle.std.proofs.Common.{◌≡◌, ℕ, ◌+◌, ◌<◌, ◌≤◌, Bool, true, false, refl, sym, subst, arith}
use Rattle.std.proofs.lemmas.Bool.{false≢true}
use Rattle.heap_model.specs.declared.calls.collector_calls.Turn.{Turn}
use Rattle.heap_model.specs.declared.calls.collector_calls.Turn.TheVariants.{Stepped, Waits, Ended}
use Rattle.core_rule.proofs.Terms.{Collector, Heap, HasCleared, has_answered_of, after_counted_look, Stage, State, Turns, state_after, turn_at, found_by, state_after_turn, at, Book, Rule}
use Rattle.core_machine.specs.declared.collector.stage.Stage.TheVariants as stages
use Rattle.core_machine.specs.declared.table.address.Address.TheVariants.{Answer}
use Rattle.core_machine.proofs.table_lemmas.Addresses.{put_of_read_changes_nothing}
use Rattle.space_plan.specs.cycle_turns.CycleLeft.{cycle_left_at, cycle_left}
use Rattle.space_plan.specs.cycle_turns.CountedTurns.{answer_now, counted, ends_cycle, IsCycleEnd, turns_of}
use Rattle.space_plan.specs.cycle_turns.CycleTurns.{cycle_most, EachEndLeavesMost}
use Rattle.space_plan.proofs.cycle_turns.CopyTurns.{copying_leaves_fewer}
use Rattle.space_plan.proofs.cycle_turns.Lefts.{StageLeavesFewer}
use Rattle.space_plan.proofs.cycle_turns.MarkingTurns.{passing_leaves_fewer, scanning_leaves_fewer, shading_leaves_fewer, addressing_leaves_fewer, indexing_leaves_fewer, spreading_leaves_fewer, blackening_leaves_fewer, flipping_leaves_fewer}
use Rattle.space_plan.proofs.cycle_turns.PhaseTurns.{looking_leaves_fewer, advancing_leaves_fewer, cycle_begins_with_most}
use Rattle.space_plan.proofs.cycle_turns.SweepTurns.{sweeping_leaves_fewer, examining_leaves_fewer, freeing_leaves_fewer, returning_leaves_fewer, clearing_leaves_fewer}

-- a step leaves fewer
stage_leaves_fewer : (stage : Stage) → StageLeavesFewer stage
stage_leaves_fewer stages.Looking = looking_leaves_fewer
stage_leaves_fewer (stages.Passing group found) = passing_leaves_fewer group found
stage_leaves_fewer (stages.Scanning scan) = scanning_leaves_fewer scan
stage_leaves_fewer (stages.Shading scan target next) = shading_leaves_fewer scan target next
stage_leaves_fewer (stages.Addressing scan n) = addressing_leaves_fewer scan n
stage_leaves_fewer (stages.Indexing s) = indexing_leaves_fewer s
stage_leaves_fewer (stages.Spreading s target) = spreading_leaves_fewer s target
stage_leaves_fewer (stages.Blackening scan) = blackening_leaves_fewer scan
stage_leaves_fewer stages.Flipping = flipping_leaves_fewer
stage_leaves_fewer (stages.Copying stage) = copying_leaves_fewer stage
stage_leaves_fewer (stages.Sweeping group) = sweeping_leaves_fewer group
stage_leaves_fewer (stages.Examining group dead position counted) = examining_leaves_fewer group dead position counted
stage_leaves_fewer (stages.Freeing group dead counted) = freeing_leaves_fewer group dead counted
stage_leaves_fewer (stages.Returning group counted) = returning_leaves_fewer group counted
stage_leaves_fewer (stages.Clearing group kept) = clearing_leaves_fewer group kept
stage_leaves_fewer (stages.Ending kept) = λ heap state book rule here stepped. absurd (cc stepped)
stage_leaves_fewer stages.Advancing = advancing_leaves_fewer

module _ (heap : Heap) (state : State) where
  -- what the turn at a stage answers
  abbrev answer_at : Stage → Turn
  answer_at stage = (turn_at heap state.collector stage).answer (found_by heap state (turn_at heap state.collector stage).step)

  -- how many turns are left after it
  abbrev left_after : Stage → ℕ
  left_after stage = cycle_left heap (state_after_turn heap state (turn_at heap state.collector stage))

  -- a look that waits finds the collector as it was
  wait_found : (b : Bool) (word seat answered phase : ℕ) → (if b then Stepped else Waits state.collector.looked word state.collector.phase) ≡ Waits seat answered phase
      → (if b then after_counted_look heap state.collector else state.collector) ≡ state.collector
  wait_found true word seat answered phase waits = absurd (cc waits)
  wait_found false word seat answered phase waits = refl

  -- only a look waits, and that leaves all as it was
  wait_leaves_same : (stage : Stage) (seat answered phase : ℕ) → state.collector.stage ≡ stage → answer_at stage ≡ Waits seat answered phase → left_after stage ≡ cycle_left heap state
  wait_leaves_same stages.Looking seat answered phase here waits =
      let word : ℕ = at heap state.words (Answer state.collector.looked) in
      let same : (if has_answered_of state.collector.phase word then after_counted_look heap state.collector else state.collector) ≡ state.collector
      = wait_found (has_answered_of state.collector.phase word) word seat answered phase waits in
      rw (put_of_read_changes_nothing heap state.words (Answer state.collector.looked)) (subst (λ (c : Collector). cycle_left_at heap state.words c.phase c.looked c.stage ≡ cycle_left heap state) (sym same) refl)
  wait_leaves_same _ seat answered phase here waits = absurd (cc waits)

  module _ (book : Book) (rule : Rule heap state book) where
    -- so a turn that ends no cycle leaves as many fewer as it counts
    turn_leaves_fewer : (stage : Stage) → state.collector.stage ≡ stage → (answer : Turn) → answer_at stage ≡ answer → ¬ (ends_cycle answer ≡ true) → counted answer + left_after stage ≤ cycle_left heap state
    turn_leaves_fewer stage here Stepped is goes_on = by _ _ (stage_leaves_fewer stage heap state book rule here is)
      where
        by : (m n : ℕ) → m < n → 1 + m ≤ n
        by m n less = omega (arith, less)
    turn_leaves_fewer stage here (Waits seat answered phase) is goes_on = by _ _ (wait_leaves_same stage seat answered phase here is)
      where
        by : (m n : ℕ) → m ≡ n → 0 + m ≤ n
        by m n same = omega (arith, same)
    turn_leaves_fewer stage here (Ended cycle kept) is goes_on = absurd (goes_on refl)

    pub step_or_wait_leaves_fewer : ¬ IsCycleEnd heap state Turns → turns_of heap state Turns + cycle_left heap (state_after heap state Turns) ≤ cycle_left heap state
    step_or_wait_leaves_fewer goes_on = turn_leaves_fewer state.collector.stage refl (answer_now heap state) refl goes_on

    ended_cycle_has_most : (stage : Stage) → state.collector.stage ≡ stage → ends_cycle (answer_at stage) ≡ true → left_after stage ≡ cycle_most heap
    ended_cycle_has_most (stages.Ending kept) here ends =
        let fits : HasCleared heap state.collector.phase state.collector.looked kept = rw here at rule.machine.collector_fit.at_stage in
        cycle_begins_with_most heap (state_after_turn heap state (turn_at heap state.collector (stages.Ending kept))).words (state.collector.phase + 1) (omega (arith, fits.for_clearing))
    ended_cycle_has_most stages.Looking here ends = by (has_answered_of state.collector.phase (at heap state.words (Answer state.collector.looked))) ends
      where
        by : (b : Bool) → ends_cycle (if b then Stepped else Waits state.collector.looked (at heap state.words (Answer state.collector.looked)) state.collector.phase) ≡ true → left_after stages.Looking ≡ cycle_most heap
        by true is = absurd (false≢true is)
        by false is = absurd (false≢true is)
    ended_cycle_has_most _ here ends = absurd (false≢true ends)

-- so behind an end as many are left as a cycle has at most
pub each_end_leaves_most : EachEndLeavesMost
each_end_leaves_most heap state book rule ends = ended_cycle_has_most heap state book rule state.collector.stage refl ends
