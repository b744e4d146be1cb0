-- A call goes through an array's spine to its cell.
use Rattle.std.specs.Prelude.{◌≡◌, ℕ, ◌+◌, ◌/◌, List}
use Rattle.heap_words.specs.Loaded.{payload_in}
use Rattle.heap_words.specs.Spot.{spot_in}
use Rattle.core_machine.specs.declared.point.Access.TheVariants.{LoadingSpot}
use Rattle.core_machine.specs.declared.point.Point.TheVariants as points
use Rattle.core_machine.specs.declared.step.SpineStep.TheVariants.{AddressLoad, WordLoad}
use Rattle.core_machine.specs.declared.step.Step.TheVariants.{Spine}
use Rattle.core_machine.specs.seat.Commands.{field_of}
use Rattle.heap_table.specs.Made.{Made, FoundIn}
use Rattle.heap_table.specs.SeatHeld.{SeatHeld}

-- the call in flight has loaded the meta of an array with this first fragment, which has the call's cell, and is about to load where its spine stands
pub record BeginsLocating (held : SeatHeld) (sentinel index : ℕ) : Type 0 where
  pub point_is : held.seat.point ≡ points.Access LoadingSpot
  pub sentinel_is : held.seat.reached ≡ sentinel
  pub index_is : field_of held.seat.command ≡ index

-- one of these steps found where the spine stands, another the spine word of the cell there, and that names this fragment
pub record IsNamedBySpine (made : List Made) (sentinel index fragment : ℕ) : Type 0 where
  pub address : ℕ
  pub located : FoundIn made (Spine (AddressLoad sentinel)) address
  pub word : ℕ
  pub named : FoundIn made (Spine (WordLoad (spot_in address).half ((spot_in address).offset + index / 4))) word
  pub fragment_is : fragment ≡ payload_in word
