-- A seat between two calls, and what the trait of a seat's calls sees of it.
use Rattle.std.specs.Prelude.{◌≡◌, ◌<◌, All}
use Rattle.heap_model.specs.Limits.{set_limit}
use Rattle.heap_model.specs.calls.SeatLaws.{IsOwn}
use Rattle.heap_model.specs.calls.SeatState.{SeatState}
use Rattle.core_machine.specs.declared.point.Point.TheVariants.{Idle}
use Rattle.core_rule.specs.told.Told.{IsAsTold}
use Rattle.heap_table.specs.Made.{IsSound}
use Rattle.heap_table.specs.SeatHeld.{SeatHeld}

-- what the trait sees: the heap, the seat's number and entries, and for how many more there is room
abbrev pub seat_state : SeatHeld → SeatState
seat_state held = record { heap = held.heap; number = held.number; mine = held.seat.mine; spare = held.spare }

-- the seat has room for more entries, and else is as it was
abbrev pub MakesRoom : SeatHeld → SeatHeld → Type 0
MakesRoom old new = new ≡ record old { spare = new.spare }

-- no call is in flight, each entry of the seat is its own, and it has done fewer sets than there are stamps: so it is with each seat of a heap that opens
pub record IsBetweenCalls (held : SeatHeld) : Type 0 where
  pub idle : held.seat.point ≡ Idle
  pub own : All (IsOwn held.number) held.seat.mine
  pub stamps : held.seat.sets < set_limit

-- and its data fit together, and are what its own list tells
pub record Rests (held : SeatHeld) : Type 0 where
  pub between : IsBetweenCalls held
  pub sound : IsSound held
  pub told : IsAsTold held.heap held.number held.seat
