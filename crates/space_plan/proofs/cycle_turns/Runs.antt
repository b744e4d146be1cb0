-- A run's turns, up to the end of a cycle, are no more than were left where it began.
use Rattle.std.proofs.Common.{◌≡◌, ℕ, ◌+◌, ◌≤◌, List, [], ◌∷◌, ◌++◌, refl, sym, subst, arith}
use Rattle.heap_model.specs.Heap.{IsHeap}
use Rattle.heap_model.specs.declared.calls.collector_calls.Turn.{Turn}
use Rattle.heap_model.specs.declared.calls.collector_calls.Turn.TheVariants.{Stepped, Waits, Ended}
use Rattle.core_machine.specs.machine.Opening.{IsOpening}
use Rattle.core_rule.proofs.Terms.{Collector, Heap, State, Event, Begins, BeginsInner, Steps, Turns, state_after, Run, state_after_all, Book}
use Rattle.core_rule.specs.Stands.{Stands}
use Rattle.core_rule.proofs.runs.KeptRuns.{event_keeps, run_keeps}
use Rattle.core_rule.proofs.runs.OpeningStands.{opening_stands}
use Rattle.space_plan.specs.cycle_turns.CycleLeft.{cycle_left_at, cycle_left}
use Rattle.space_plan.specs.cycle_turns.CountedTurns.{answer_now, counted, turns_of, turns_among, LastEndsCycle, NoneEndsBeforeLast}
use Rattle.space_plan.specs.cycle_turns.CycleTurns.{cycle_most, CycleTurns, EachEventLeavesFewer}
use Rattle.space_plan.proofs.cycle_turns.PhaseTurns.{cycle_begins_with_most}
use Rattle.space_plan.proofs.cycle_turns.SeatEvents.{seat_step_raises_nothing}
use Rattle.space_plan.proofs.cycle_turns.Turns.{step_or_wait_leaves_fewer, each_end_leaves_most}

-- an event that ends no cycle leaves as many turns fewer as it counts
pub each_event_leaves_fewer : EachEventLeavesFewer
each_event_leaves_fewer heap state book (Begins number command) rule can goes_on = omega arith
each_event_leaves_fewer heap state book (BeginsInner number inner) rule can goes_on = omega arith
each_event_leaves_fewer heap state book Turns rule can goes_on = step_or_wait_leaves_fewer heap state book rule goes_on
each_event_leaves_fewer heap state book (Steps number) rule can goes_on = by _ _ (seat_step_raises_nothing heap state book rule number can)
  where
    by : (m n : ℕ) → m ≤ n → 0 + m ≤ n
    by m n less = omega (arith, less)

-- each counts one turn at most, and one is always left
counts_one : (heap : Heap) (state : State) (event : Event) → turns_of heap state event ≤ 1
counts_one heap state (Begins number command) = omega arith
counts_one heap state (BeginsInner number inner) = omega arith
counts_one heap state (Steps number) = omega arith
counts_one heap state Turns = by (answer_now heap state)
  where
    by : (answer : Turn) → counted answer ≤ 1
    by Stepped = omega arith
    by (Waits seat answered phase) = omega arith
    by (Ended cycle kept) = omega arith

one_is_left : (heap : Heap) (state : State) → 1 ≤ cycle_left heap state
one_is_left heap state = by _ _
  where
    by : (m rest : ℕ) → 1 ≤ m + 1 + rest
    by m rest = omega arith

-- so they are within what was left
turns_within_left : (heap : Heap) (state : State) (book : Book) (events : List Event) → Stands heap state book → Run heap state events → NoneEndsBeforeLast heap state events
    → turns_among heap state events ≤ cycle_left heap state
turns_within_left heap state book [] stands run stays = omega arith
turns_within_left heap state book (event ∷ []) stands run stays = by _ _ (counts_one heap state event) (one_is_left heap state)
  where
    by : (m n : ℕ) → m ≤ 1 → 1 ≤ n → m + 0 ≤ n
    by m n few some = omega (arith, few, some)
turns_within_left heap state book (event ∷ next ∷ events) stands run stays =
    let first = event_keeps heap state book event stands run.0 in
    by _ _ _ _ (each_event_leaves_fewer heap state book event stands.rule run.0 stays.0) (turns_within_left heap (state_after heap state event) first.book (next ∷ events) first.stands run.1 stays.1)
  where
    by : (m rest left all : ℕ) → m + left ≤ all → rest ≤ left → m + rest ≤ all
    by m rest left all fewer within = omega (arith, fewer, within)

-- behind an end as many are left as a cycle has at most
most_is_left : (heap : Heap) (state : State) (book : Book) (event : Event) (events : List Event) → Stands heap state book → Run heap state (event ∷ events) → LastEndsCycle heap state (event ∷ events)
    → cycle_left heap (state_after_all heap state (event ∷ events)) ≡ cycle_most heap
most_is_left heap state book Turns [] stands run ends = each_end_leaves_most heap state book stands.rule ends
most_is_left heap state book (Begins number command) [] stands run ends = absurd ends
most_is_left heap state book (BeginsInner number inner) [] stands run ends = absurd ends
most_is_left heap state book (Steps number) [] stands run ends = absurd ends
most_is_left heap state book event (next ∷ events) stands run ends =
    let first = event_keeps heap state book event stands run.0 in
    most_is_left heap (state_after heap state event) first.book next events first.stands run.1 ends

-- so many are left at the opening too
most_is_left_by : (heap : Heap) (opening : State) (before : List Event) → IsHeap heap → IsOpening heap opening → Run heap opening before → LastEndsCycle heap opening before
    → cycle_left heap (state_after_all heap opening before) ≡ cycle_most heap
most_is_left_by heap opening [] limits opens run ends =
    subst (λ (c : Collector). cycle_left_at heap opening.words c.phase c.looked c.stage ≡ cycle_most heap) (sym opens.nothing_done) (cycle_begins_with_most heap opening.words 0 refl)
most_is_left_by heap opening (event ∷ before) limits opens run ends =
    let first = opening_stands heap opening limits opens in
    most_is_left heap opening first.book event before first.stands run ends

-- a run is one of its first events, and one of the others
run_in_two : (heap : Heap) (state : State) (before middle : List Event) → Run heap state (before ++ middle) → Run heap state before × Run heap (state_after_all heap state before) middle
run_in_two heap state [] middle run = (tt, run)
run_in_two heap state (event ∷ before) middle run = let rest = run_in_two heap (state_after heap state event) before middle run.1 in ((run.0, rest.0), rest.1)

pub cycle_turns : CycleTurns
cycle_turns heap opening before middle limits opens run ends stays =
    let both = run_in_two heap opening before middle run in
    let stands = run_keeps heap opening before limits opens both.0 in
    by _ _ (turns_within_left heap (state_after_all heap opening before) stands.book middle stands.stands both.1 stays) (most_is_left_by heap opening before limits opens both.0 ends)
  where
    by : (m left : ℕ) → m ≤ left → left ≡ cycle_most heap → m ≤ cycle_most heap
    by m left within is = omega (arith, within, is)
