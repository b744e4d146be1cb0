-- Where the call in flight stands when gathering or giving back begins.
use Rattle.std.specs.Prelude.{◌≡◌, ℕ, ◌≤◌, List, length}
use Rattle.heap_model.specs.Limits.{most_reserve}
use Rattle.heap_model.specs.Needs.{need_of, spine_need_of}
use Rattle.core_machine.specs.declared.point.Point.TheVariants.{Leaving}
use Rattle.core_machine.specs.seat.Commands.{MakesObject, IsArrayCall}
use Rattle.core_machine.specs.seat.Fits.{IsAtRest}
use Rattle.core_machine.specs.seat.Handshake.{leave_point}
use Rattle.core_machine.specs.seat.Making.{gather_next}
use Rattle.core_machine.specs.seat.Seat.{Seat}
use Rattle.heap_table.specs.SeatHeld.{SeatHeld}

-- the call makes an object of so many fragments, and has gone on to gather them; this is its reserve and its cursor, and it has claimed nothing
pub record BeginsGathering (held : SeatHeld) (reserve : List ℕ) (cursor need : ℕ) : Type 0 where
  pub before : Seat
  pub rests : IsAtRest before
  pub goes_on : held.seat ≡ gather_next held.heap before
  pub makes : MakesObject before.command
  pub need_is : need_of before.command ≡ need
  pub reserve_is : before.reserve ≡ reserve
  pub few : length reserve ≤ most_reserve
  pub cursor_is : before.cursor ≡ cursor
  -- an array's spine words were granted
  pub granted : IsArrayCall before.command → spine_need_of before.command ≤ held.heap.spine

-- the seat is to leave, and this is its reserve
pub record BeginsEmptying (held : SeatHeld) (reserve : List ℕ) : Type 0 where
  pub point_is : held.seat.point ≡ Leaving (leave_point held.seat.reserve)
  pub reserve_is : held.seat.reserve ≡ reserve
