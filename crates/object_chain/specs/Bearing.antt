-- A record is stored and born.
use Rattle.std.specs.Prelude.{◌≡◌, ℕ, ◌+◌, ◌/◌, Bool, All, List, slice_set, slice_index_or}
use Rattle.heap_model.specs.Limits.{group_fragments}
use Rattle.heap_model.specs.declared.command.Command.TheVariants.{New}
use Rattle.heap_model.specs.declared.id.Id.{Id}
use Rattle.heap_model.specs.declared.id.Id.TheVariants.{Made as MadeBy}
use Rattle.core_machine.specs.calls.Kept.{WasMade}
use Rattle.core_machine.specs.calls.Making.{HasBorn}
use Rattle.core_machine.specs.declared.point.Making.TheVariants.{Storing}
use Rattle.core_machine.specs.declared.point.Point.TheVariants as points
use Rattle.core_machine.specs.declared.seat.register.Register.TheVariants.{Object}
use Rattle.core_machine.specs.declared.step.MakingStep.TheVariants.{LastBirth}
use Rattle.core_machine.specs.declared.step.Step.TheVariants.{Making}
use Rattle.core_machine.specs.table.Fragments.{mask_of}
use Rattle.heap_table.specs.Made.{Made, FoundIn}
use Rattle.heap_table.specs.SeatHeld.{SeatHeld}

-- the call in flight makes a record of so many fields for this register, which has these fragments and none of its words yet
pub record BeginsBearing (held : SeatHeld) (fragments : List ℕ) (fields d : ℕ) : Type 0 where
  pub point_is : held.seat.point ≡ points.Making Storing
  pub command_is : held.seat.command ≡ New d fields
  pub body_is : held.seat.body ≡ fragments
  pub none_stored : held.seat.stored ≡ 0

-- these steps bore the fragments, group by group, and those of the last group as the last of the object
pub record IsBorn (made : List Made) (fragments : List ℕ) : Type 0 where
  pub last : List ℕ
  pub before : HasBorn (FoundIn made) last fragments
  pub group : ℕ
  pub black : Bool
  pub of_group : All (λ fragment. fragment / group_fragments ≡ group) last
  pub last_born : WasMade (FoundIn made) (Making (LastBirth group (mask_of last) black))

-- the seat has made one object more, of this id and with these fragments, which its register holds; its reserve is as it was, and no call is in flight
pub record HoldsNewborn (old new : SeatHeld) (d : ℕ) (fragments : List ℕ) (id : Id) : Type 0 where
  pub id_is : id ≡ MadeBy old.number old.seat.made
  pub counted : new.seat.made ≡ old.seat.made + 1
  pub register : new.seat.registers ≡ slice_set old.seat.registers d (Object (slice_index_or fragments 0 0) id)
  pub reserve : new.seat.reserve ≡ old.seat.reserve
  pub over : new.seat.point ≡ points.Idle
