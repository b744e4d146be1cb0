-- What contracts see of a seat's holder, what it keeps true, and what its step does.
use Rattle.std.specs.Prelude.{◌≡◌, ℕ, ◌+◌, ◌-◌, ◌%◌, ◌^◌, ◌<◌, ◌≤◌, [], length, Some}
use Rattle.atomic_table.specs.Seated.{TableId}
use Rattle.atomic_table.specs.Table.{Me}
use Rattle.heap_model.specs.declared.heap.Heap.{Heap}
use Rattle.heap_model.specs.Heap.{IsHeap}
use Rattle.core_machine.specs.Moves.{due_step}
use Rattle.core_machine.specs.declared.step.Step.{Step}
use Rattle.core_machine.specs.seat.Fits.{Fits}
use Rattle.core_machine.specs.seat.Seat.{Seat}
use Rattle.core_rule.specs.told.Told.{IsAsTold}
use Rattle.heap_table.specs.Begun.{MayHaveBegun, NextHasWord, next_seat}
use Rattle.heap_table.specs.Told.{ToldAtStep}
use Rattle.heap_table.specs.TokenOf.{IsTokenOf}
use Rattle.heap_table.specs.Views.{seat_view}
use Rattle.heap_table.specs.declared.view.View.{View}

-- which table it is of, the table's heap, the seat's number and data, and for how many more entries it has room
pub record SeatHeld : Type 0 where
  pub table : TableId
  pub heap : Heap
  pub number : ℕ
  pub seat : Seat
  pub spare : ℕ

-- the holder's token is of its table, and the seat is the one of the token's view, or has begun a call since
pub record KeepsSeat (shared : TableId) (key : Heap) (mine : TableId) (me : Me (Unit {0}) View) (heap : Heap) (number : ℕ) (seat : Seat) : Type 0 where
  pub of : IsTokenOf shared key mine heap
  pub limits : IsHeap heap
  pub within : number < heap.seats
  pub old : Seat
  pub knows : me ≡ (seat_view number old, [])
  pub begun : MayHaveBegun heap number old seat
  pub fits : Fits heap seat
  pub has_word : NextHasWord heap number old
  pub own : IsAsTold heap number old

-- this step is the seat's due one, and there is room for the entries that it adds
pub record MayStep (held : SeatHeld) (step : Step) : Type 0 where
  pub due : due_step held.heap held.number held.seat ≡ Some step
  pub room : 2 ≤ held.spare

-- the seat made its due step, which found this word; else the holder is as it was, but for the room of new entries, and no room was made
pub record IsStepped (old new : SeatHeld) (found : ℕ) : Type 0 where
  pub table_stays : new.table ≡ old.table
  pub heap_stays : new.heap ≡ old.heap
  pub number_stays : new.number ≡ old.number
  pub seat_is : new.seat ≡ next_seat old.heap old.number old.seat found
  pub room_stays : old.spare + length old.seat.mine ≤ new.spare + length new.seat.mine
  pub no_more : new.spare ≤ old.spare

-- it made that step, and the rule tells what goes with the word found
pub record StepFinds (old new : SeatHeld) (found : ℕ) : Type 0 where
  pub stepped : IsStepped old new found
  pub told : ToldAtStep old.heap old.number old.seat found

-- and these are the fragments that it found free in the group: those whose taken bit was clear
pub record FindsFree (old new : SeatHeld) (free : ℕ) : Type 0 where
  pub found : ℕ
  pub finds : StepFinds old new found
  pub free_is : free ≡ 2 ^ 16 - 1 - found % 2 ^ 16
