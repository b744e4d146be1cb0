-- States, events and runs of the machine.
use Rattle.std.specs.Prelude.{◌≡◌, ℕ, ◌<◌, false, List, [], ◌∷◌, ◌++◌, length, slice_index_or, slice_set, Option, Some, None, IsSome}
use Rattle.heap_model.specs.declared.heap.Heap.{Heap}
use Rattle.heap_model.specs.declared.calls.collect.Inner.{Inner}
use Rattle.heap_model.specs.declared.command.Command.{Command}
use Rattle.heap_model.specs.declared.command.Command.TheVariants as commands
use Rattle.heap_model.specs.declared.entry.Entry.{Entry}
use Rattle.heap_model.specs.Command.{IsCommand}
use Rattle.core_machine.specs.declared.point.Point.TheVariants.{Idle, Making, Local, Polling, Leaving}
use Rattle.core_machine.specs.declared.point.Making.TheVariants.{Granting}
use Rattle.core_machine.specs.declared.point.Polling.TheVariants.{Asking}
use Rattle.core_machine.specs.declared.step.Step.{Step}
use Rattle.core_machine.specs.seat.Commands.{IsServed}
use Rattle.core_machine.specs.table.Layout.{at, put}
use Rattle.core_machine.specs.table.Operation.{address_of, word_after}
use Rattle.core_machine.specs.seat.Seat.{Seat, absent_seat, HasNumberLeft}
use Rattle.core_machine.specs.seat.Making.{gather_next}
use Rattle.core_machine.specs.seat.Access.{access_start}
use Rattle.core_machine.specs.seat.Registers.{register_in}
use Rattle.core_machine.specs.seat.Handshake.{leave_point}
use Rattle.core_machine.specs.seat.Looks.{MayMake}
use Rattle.core_machine.specs.seat.Collecting.{inner_point}
use Rattle.core_machine.specs.Moves.{Move, next_move, seat_after}
pub use Rattle.core_machine.specs.collector.Collector.{Collector, TurnMove, next_turn, collector_after}

-- the words of the table, the seats in their order, and the collector
pub record State : Type 0 where
  pub words : List ℕ
  pub seats : List Seat
  pub collector : Collector

-- the seat of this number; one that does nothing where there is none
abbrev pub seat_at : State → ℕ → Seat
seat_at state number = slice_index_or state.seats number absent_seat

-- the word that a step finds
abbrev pub found_by : Heap → State → Step → ℕ
found_by heap state step = at heap state.words (address_of step)

-- the state after a move of a seat: one word and this seat's own data change
abbrev pub state_after_move : Heap → State → ℕ → Move → State
state_after_move heap state number move = record state {
  words = put heap state.words (address_of move.step) (word_after move.step (found_by heap state move.step));
  seats = slice_set state.seats number (seat_after move (found_by heap state move.step));
}

-- the seat where this call begins; a collect, which isn't served, begins nothing
abbrev pub call_start : Heap → Seat → Command → Seat
call_start heap seat (commands.New d fields) = gather_next heap seat
call_start heap seat (commands.Array d cells) = record seat { point = Making Granting }
call_start heap seat (commands.Get d r i) = access_start seat (register_in seat.registers r)
call_start heap seat (commands.Set r i v) = access_start seat (register_in seat.registers r)
call_start heap seat (commands.Cas r i a v) = access_start seat (register_in seat.registers r)
call_start heap seat (commands.Num d n) = record seat { point = Local }
call_start heap seat (commands.Nil d) = record seat { point = Local }
call_start heap seat (commands.Copy d r) = record seat { point = Local }
call_start heap seat (commands.Same a b) = record seat { point = Local }
call_start heap seat (commands.Len r) = access_start seat (register_in seat.registers r)
call_start heap seat commands.Poll = record seat { point = Polling Asking }
call_start heap seat commands.Collect = seat
call_start heap seat commands.Leave = record seat { point = Leaving (leave_point seat.reserve) }

-- the seat with this call in flight
abbrev pub after_begin : Heap → Seat → Command → Seat
after_begin heap seat command = call_start heap (record seat { command = command }) command

-- the command may be begun: no call is in flight, the seat hasn't left, and the command is served and has its numbers
pub record MayBegin (seat : Seat) (command : Command) : Type 0 where
  pub idle : seat.point ≡ Idle
  pub present : seat.left ≡ false
  pub served : IsServed command
  pub in_range : IsCommand command
  pub numbered : HasNumberLeft seat.made seat.sets command

-- the seat with this inner call of a collect in flight
abbrev pub after_inner_begin : Seat → Inner → Seat
after_inner_begin seat inner = record seat { command = commands.Collect; point = inner_point inner }

-- the inner call may be begun: no call is in flight, the seat hasn't left, and what it found allows the call
pub record MayBeginInner (heap : Heap) (number : ℕ) (seat : Seat) (inner : Inner) : Type 0 where
  pub idle : seat.point ≡ Idle
  pub present : seat.left ≡ false
  pub makes : MayMake heap number seat.looks inner

-- the state after a turn of the collector: one word and the collector change
abbrev pub state_after_turn : Heap → State → TurnMove → State
state_after_turn heap state turn = record state {
  words = put heap state.words (address_of turn.step) (word_after turn.step (found_by heap state turn.step));
  collector = collector_after turn (found_by heap state turn.step);
}

-- a seat begins a command or an inner call of a collect, a seat makes its due step, or the collector makes its turn
pub data Event : Type 0 where
  Begins : (number : ℕ) (command : Command) → Event
  BeginsInner : (number : ℕ) (inner : Inner) → Event
  Steps : (number : ℕ) → Event
  Turns : Event

-- the event may happen
abbrev pub Can : Heap → State → Event → Type 0
Can heap state (Begins number command) = (number < length state.seats) × MayBegin (seat_at state number) command
Can heap state (BeginsInner number inner) = (number < length state.seats) × MayBeginInner heap number (seat_at state number) inner
Can heap state (Steps number) = IsSome (next_move heap number (seat_at state number))
Can heap state Turns = (next_turn heap state.collector).may

-- the state after a seat's due move, where it has one
abbrev pub state_after_due : Heap → State → ℕ → Option Move → State
state_after_due heap state number None = state
state_after_due heap state number (Some move) = state_after_move heap state number move

-- the state after the event
abbrev pub state_after : Heap → State → Event → State
state_after heap state (Begins number command) =
    record state { seats = slice_set state.seats number (after_begin heap (seat_at state number) command) }
state_after heap state (BeginsInner number inner) =
    record state { seats = slice_set state.seats number (after_inner_begin (seat_at state number) inner) }
state_after heap state (Steps number) = state_after_due heap state number (next_move heap number (seat_at state number))
state_after heap state Turns = state_after_turn heap state (next_turn heap state.collector)

-- what a due move adds to the history
abbrev pub entries_shown : Heap → State → Option Move → List Entry
entries_shown heap state None = []
entries_shown heap state (Some move) = move.shows state.words (found_by heap state move.step)

-- what the event adds to the history
abbrev pub entries : Heap → State → Event → List Entry
entries heap state (Begins number command) = []
entries heap state (BeginsInner number inner) = []
entries heap state (Steps number) = entries_shown heap state (next_move heap number (seat_at state number))
entries heap state Turns = (next_turn heap state.collector).adds

-- each event may happen after those before it
abbrev pub Run : Heap → State → List Event → Type 0
Run heap state [] = Unit {0}
Run heap state (event ∷ events) = Can heap state event × Run heap (state_after heap state event) events

-- the state after these events
abbrev pub state_after_all : Heap → State → List Event → State
state_after_all heap state [] = state
state_after_all heap state (event ∷ events) = state_after_all heap (state_after heap state event) events

-- what these events add to the history
abbrev pub history : Heap → State → List Event → List Entry
history heap state [] = []
history heap state (event ∷ events) = entries heap state event ++ history heap (state_after heap state event) events
