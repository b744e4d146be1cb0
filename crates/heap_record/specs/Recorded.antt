-- What contracts see of a machine with its history, and what calls and turns do to it.
use Rattle.std.specs.Prelude.{◌≡◌, ℕ, ◌+◌, ◌-◌, ◌^◌, ◌≤◌, min, true, List, [], ◌∷◌, ◌++◌, length, filter, Option}
use Rattle.std.specs.List.{AllByRecursion}
use Rattle.heap_model.specs.declared.command.Command.{Command}
use Rattle.heap_model.specs.declared.command.Command.TheVariants.{Leave}
use Rattle.heap_model.specs.declared.entry.Entry.{Entry}
use Rattle.heap_model.specs.declared.entry.Entry.TheVariants.{Said}
use Rattle.heap_model.specs.declared.heap.Heap.{Heap}
use Rattle.heap_model.specs.declared.reply.Reply.{Reply}
use Rattle.heap_model.specs.declared.calls.collect.Inner.{Inner}
use Rattle.heap_model.specs.declared.calls.collector_calls.Turn.{Turn}
use Rattle.heap_model.specs.Heap.{IsHeap}
use Rattle.heap_model.specs.account.Noting.{is_collectors}
use Rattle.heap_model.specs.account.PhaseCounts.{phase}
use Rattle.heap_model.specs.account.Space.{total}
use Rattle.heap_model.specs.calls.CollectorCalls.{CollectorState}
use Rattle.heap_model.specs.calls.CollectorCalls as collectors
use Rattle.core_machine.specs.seat.Commands.{IsRecordCall, IsArrayCall}
use Rattle.core_machine.specs.machine.Calls.{PlaysCall, CountsCall, AnswersNew, AnswersArray, TellsLeave, IsPlaceRefusal, LeavesAll}
use Rattle.core_machine.specs.machine.InnerCalls.{PlaysInner, inner_entries}
use Rattle.core_machine.specs.machine.Machine.{State, seat_at, Event, Turns, Can, Run, next_turn, found_by, state_after, state_after_all, entries, history}
use Rattle.core_machine.specs.machine.Opening.{IsOpening}
use Rattle.core_machine.specs.machine.Value.{MachineValue, spare_of}
use Rattle.core_rule.specs.runs.Laws.{AllIdle}

-- the machine, the entries of all its parties in their order, the same with the answers to the collector's commands that were noted between them, for how many more
-- of the collector's there is room, its turns as far as they are counted, and what the last of them answered
pub record Recorded : Type 0 where
  pub machine : MachineValue
  pub history : List Entry
  pub listed : List Entry
  pub spare : ℕ
  pub turns : ℕ
  pub last_turn : Option Turn

-- such events lead from an opening of the heap to this state, with this history, and no seat has a call in flight
pub record EventsLeadTo (Are : Heap → State → List Event → Type 0) (heap : Heap) (state : State) (told : List Entry) : Type 0 where
  pub limits : IsHeap heap
  pub opening : State
  pub opens : IsOpening heap opening
  pub events : List Event
  pub are : Are heap opening events
  pub run : Run heap opening events
  pub ends : state ≡ state_after_all heap opening events
  pub shown : told ≡ history heap opening events
  pub all_idle : AllIdle state

-- any events that may happen, one after another
abbrev pub AnyEvents : Heap → State → List Event → Type 0
AnyEvents heap opening events = Unit {0}

-- there is room in the collector's own list, and in that of all
pub record HasRoom (machine : MachineValue) (listed spare : ℕ) : Type 0 where
  pub own_room : spare ≤ spare_of machine (length machine.state.seats)
  pub listed_room : spare ≤ listed

-- what contracts see of its collector
abbrev pub collector_of : Recorded → CollectorState
collector_of recorded = record {
  log = filter is_collectors recorded.history;
  spare = recorded.spare;
  phase = phase recorded.history;
  turns = recorded.turns;
  last_turn = recorded.last_turn;
}

-- how many fragments these entries take, or the last number of its type
abbrev pub claimed_by : List Entry → ℕ
claimed_by entries = min (total (λ e. e.taken) entries) (2 ^ 64 - 1)

-- nothing happened: the machine's state, the history and the turns are as before
pub record StandsStill (old new : Recorded) : Type 0 where
  pub heap_stays : new.machine.heap ≡ old.machine.heap
  pub state_stays : new.machine.state ≡ old.machine.state
  pub history_stays : new.history ≡ old.history
  pub listed_stays : new.listed ≡ old.listed
  pub turns_stay : new.turns ≡ old.turns
  pub last_stays : new.last_turn ≡ old.last_turn

-- a whole call was made: its steps and its answer are the machine's, the history has its entries, what it refuses changes nothing, and no turn was made and no room of the collector's
pub record MakesCall (old new : Recorded) (number : ℕ) (command : Command) (reply : Reply) : Type 0 where
  pub same_heap : new.machine.heap ≡ old.machine.heap
  pub call : PlaysCall old.machine.heap old.machine.state new.machine.state number command reply
  pub noted : new.history ≡ old.history ++ (call.before ++ Said number command reply ∷ [])
  pub listed : new.listed ≡ old.listed ++ (call.before ++ Said number command reply ∷ [])
  pub counts : CountsCall (seat_at old.machine.state number) (seat_at new.machine.state number) command
  pub answer : IsRecordCall command → AnswersNew old.machine.heap old.machine.state new.machine.state number command reply
  pub array : IsArrayCall command → AnswersArray old.machine.heap old.machine.state new.machine.state number command reply
  pub leave : command ≡ Leave → TellsLeave old.machine.state new.machine.state number
  pub refused : IsPlaceRefusal reply → LeavesAll old.machine.heap old.machine.state new.machine.state number reply
  pub turns_stay : new.turns ≡ old.turns
  pub last_stays : new.last_turn ≡ old.last_turn
  pub spare : old.spare + length old.history ≤ new.spare + length new.history
  pub no_more : new.spare ≤ old.spare

-- a whole inner call of the machine was made, the history has what it told, and no turn was made and no room of the collector's
pub record MakesInner (old new : Recorded) (number : ℕ) (inner : Inner) : Type 0 where
  pub same_heap : new.machine.heap ≡ old.machine.heap
  pub plays : PlaysInner old.machine.heap old.machine.state new.machine.state number inner
  pub noted : new.history ≡ old.history ++ inner_entries old.machine.heap old.machine.state.words number (seat_at old.machine.state number).answered inner
  pub listed : new.listed ≡ old.listed ++ inner_entries old.machine.heap old.machine.state.words number (seat_at old.machine.state number).answered inner
  pub turns_stay : new.turns ≡ old.turns
  pub last_stays : new.last_turn ≡ old.last_turn
  pub spare : old.spare + length old.history ≤ new.spare + length new.history
  pub no_more : new.spare ≤ old.spare

-- the machine made one turn, as which it answered, and the history has what it told, which is the collector's
pub record MakesTurn (old new : Recorded) (turn : Turn) : Type 0 where
  pub same_heap : new.machine.heap ≡ old.machine.heap
  pub can : Can old.machine.heap old.machine.state Turns
  pub after : new.machine.state ≡ state_after old.machine.heap old.machine.state Turns
  pub noted : new.history ≡ old.history ++ entries old.machine.heap old.machine.state Turns
  pub listed : new.listed ≡ old.listed ++ entries old.machine.heap old.machine.state Turns
  pub answered : turn ≡ (next_turn old.machine.heap old.machine.state.collector).answer (found_by old.machine.heap old.machine.state (next_turn old.machine.heap old.machine.state.collector).step)
  pub own : AllByRecursion (λ entry. is_collectors entry ≡ true) (entries old.machine.heap old.machine.state Turns)
  pub turned : collectors.Turns (collector_of old) (collector_of new) turn
