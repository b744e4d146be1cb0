-- The law: from one end of a cycle to the next one the collector makes so many turns at most, but for looks at seats that are behind.
use Rattle.std.specs.Prelude.{◌≡◌, ℕ, ◌+◌, ◌*◌, ◌≤◌, List, ◌++◌}
use Rattle.heap_model.specs.declared.heap.Heap.{Heap}
use Rattle.heap_model.specs.Heap.{IsHeap}
use Rattle.core_machine.specs.machine.Machine.{State, Event, Turns, Can, state_after, Run, state_after_all}
use Rattle.core_machine.specs.machine.Opening.{IsOpening}
use Rattle.core_rule.specs.Book.{Book}
use Rattle.core_rule.specs.Rule.{Rule}
use Rattle.space_plan.specs.cycle_turns.CountedTurns.{turns_of, turns_among, IsCycleEnd, LastEndsCycle, NoneEndsBeforeLast}
use Rattle.space_plan.specs.cycle_turns.CycleLeft.{cycle_left}

-- the most turns of a cycle, by the heap's groups and seats
abbrev pub cycle_most : Heap → ℕ
cycle_most heap = 16 * heap.groups * heap.groups + 294 * heap.groups + 7 * heap.seats + 8

-- behind the opening or an end of a cycle, whatever the seats do between, so many turns lead to the next end at most
abbrev pub CycleTurns : Type 0
CycleTurns = (heap : Heap) (opening : State) (before middle : List Event) → IsHeap heap → IsOpening heap opening → Run heap opening (before ++ middle)
    → LastEndsCycle heap opening before → NoneEndsBeforeLast heap (state_after_all heap opening before) middle
    → turns_among heap (state_after_all heap opening before) middle ≤ cycle_most heap

-- each event that ends no cycle leaves as many turns fewer as it counts, so a seat's event and a wait leave no more
abbrev pub EachEventLeavesFewer : Type 0
EachEventLeavesFewer = (heap : Heap) (state : State) (book : Book) (event : Event) → Rule heap state book → Can heap state event → ¬ IsCycleEnd heap state event
    → turns_of heap state event + cycle_left heap (state_after heap state event) ≤ cycle_left heap state

-- behind each end of a cycle just the most turns are left
abbrev pub EachEndLeavesMost : Type 0
EachEndLeavesMost = (heap : Heap) (state : State) (book : Book) → Rule heap state book → IsCycleEnd heap state Turns → cycle_left heap (state_after heap state Turns) ≡ cycle_most heap
