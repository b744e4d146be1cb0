-- An array's spine gets its place, and the array is stored and born.
use Rattle.std.specs.Prelude.{◌≡◌, ℕ, ◌*◌, ◌≤◌, List, length}
use Rattle.heap_words.specs.declared.name.Name.{Name}
use Rattle.heap_words.specs.declared.spot.Spot.{Spot}
use Rattle.heap_model.specs.declared.command.Command.{Command}
use Rattle.heap_model.specs.declared.command.Command.TheVariants.{Array}
use Rattle.core_machine.specs.calls.Making.{HasSpine, HasStored}
use Rattle.core_machine.specs.declared.point.Making.TheVariants.{Placing}
use Rattle.core_machine.specs.declared.point.Point.TheVariants as points
use Rattle.core_machine.specs.seat.Seat.{spine_need}
use Rattle.heap_table.specs.Made.{Made, FoundIn}
use Rattle.heap_table.specs.SeatHeld.{SeatHeld}

-- the call in flight makes an array of so many cells for this register, which has these fragments; so many spine words were granted to it, which have no place yet
pub record BeginsPlacing (held : SeatHeld) (fragments : List ℕ) (cells words d : ℕ) : Type 0 where
  pub point_is : held.seat.point ≡ points.Making Placing
  pub command_is : held.seat.command ≡ Array d cells
  pub body_is : held.seat.body ≡ fragments
  pub words_are : spine_need held.seat ≡ words
  pub granted : words ≤ held.heap.spine

-- the spine stands where a claim of these steps found the next words free; each of its words was stored there, and names its fragment, and all words of all fragments were stored
pub record IsStored (made : List Made) (command : Command) (name : Name) (fragments : List ℕ) (words : ℕ) : Type 0 where
  pub spine : Spot
  pub spined : HasSpine (FoundIn made) command fragments spine words
  pub stored : HasStored (FoundIn made) command name spine fragments (4 * length fragments)
