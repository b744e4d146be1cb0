-- Which turns of the collector are counted among the events of a run, and which end a cycle.
use Rattle.std.specs.Prelude.{◌≡◌, ℕ, ◌+◌, Bool, true, false, List, [], ◌∷◌}
use Rattle.heap_model.specs.declared.calls.collector_calls.Turn.{Turn}
use Rattle.heap_model.specs.declared.calls.collector_calls.Turn.TheVariants.{Waits, Ended}
use Rattle.heap_model.specs.declared.heap.Heap.{Heap}
use Rattle.core_machine.specs.collector.Collector.{next_turn}
use Rattle.core_machine.specs.machine.Machine.{State, found_by, Event, Turns, state_after}

-- what the collector's next turn answers
abbrev pub answer_now : Heap → State → Turn
answer_now heap state = (next_turn heap state.collector).answer (found_by heap state (next_turn heap state.collector).step)

-- 1 for each turn but one that has found a seat behind
abbrev pub counted : Turn → ℕ
counted (Waits seat answered phase) = 0
counted _ = 1

-- how many turns an event counts: those of the collector alone
abbrev pub turns_of : Heap → State → Event → ℕ
turns_of heap state Turns = counted (answer_now heap state)
turns_of heap state _ = 0

-- how many of the collector's turns are among these events, but for those that have found a seat behind
abbrev pub turns_among : Heap → State → List Event → ℕ
turns_among heap state [] = 0
turns_among heap state (event ∷ events) = turns_of heap state event + turns_among heap (state_after heap state event) events

-- whether the turn ends a cycle
abbrev pub ends_cycle : Turn → Bool
ends_cycle (Ended cycle kept) = true
ends_cycle _ = false

-- the event is a turn that ends a cycle
abbrev pub IsCycleEnd : Heap → State → Event → Type 0
IsCycleEnd heap state Turns = ends_cycle (answer_now heap state) ≡ true
IsCycleEnd heap state _ = ⊥

-- there are no events, or the last one ends a cycle
abbrev pub LastEndsCycle : Heap → State → List Event → Type 0
LastEndsCycle heap state [] = Unit {0}
LastEndsCycle heap state (event ∷ []) = IsCycleEnd heap state event
LastEndsCycle heap state (event ∷ next ∷ events) = LastEndsCycle heap (state_after heap state event) (next ∷ events)

-- no event but perhaps the last one ends a cycle
abbrev pub NoneEndsBeforeLast : Heap → State → List Event → Type 0
NoneEndsBeforeLast heap state [] = Unit {0}
NoneEndsBeforeLast heap state (event ∷ []) = Unit {0}
NoneEndsBeforeLast heap state (event ∷ next ∷ events) = (¬ IsCycleEnd heap state event) × NoneEndsBeforeLast heap (state_after heap state event) (next ∷ events)
