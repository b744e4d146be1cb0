-- How the seats of a crew leave.
use Rattle.std.specs.Prelude.{◌≡◌, true, List, [], ◌∷◌}
use Rattle.std.specs.List.{AllZip}
use Rattle.heap_model.specs.declared.command.Command.TheVariants.{Leave}
use Rattle.heap_table.specs.SeatHeld.{SeatHeld}
use Rattle.heap_runs.specs.SeatWork.{HasMade}

-- the seat has made one call, and left by it
pub record HasLeft (old new : SeatHeld) : Type 0 where
  pub made : HasMade 1 old new (Leave ∷ [])
  pub left : new.seat.left ≡ true

-- each seat has left, and they stand in the same order
abbrev pub HaveLeft : List SeatHeld → List SeatHeld → Type 0
HaveLeft olds news = AllZip HasLeft olds news
