-- How a call has come to its field: by the object's meta, and then by links, or for an array by its spine.
use Rattle.std.specs.Prelude.{◌≡◌, ℕ, zero, suc, ◌+◌, ◌/◌, ◌%◌, ◌<◌, ◌⊎◌, Some, None}
use Rattle.heap_words.specs.declared.spot.Spot.{Spot}
use Rattle.heap_words.specs.Loaded.{link_of, length_of, array_length_of, payload_in}
use Rattle.heap_words.specs.Spot.{spot_in}
use Rattle.heap_model.specs.declared.command.Command.{Command}
use Rattle.core_machine.specs.declared.step.Step.{Step}
use Rattle.core_machine.specs.declared.step.Step.TheVariants as steps
use Rattle.core_machine.specs.declared.step.AccessStep.TheVariants.{WalkLoad}
use Rattle.core_machine.specs.declared.step.SpineStep.TheVariants.{AddressLoad, WordLoad}
use Rattle.core_machine.specs.calls.Kept.{Kept}
use Rattle.core_machine.specs.seat.Access.{row_of, part_of}
use Rattle.core_machine.specs.seat.Commands.{object_of, field_of}
use Rattle.core_machine.specs.seat.Registers.{register_in, register_head}

-- the meta was loaded of the object that the command's register holds
pub record HasOpened (tells : Step → ℕ → Type 0) (command : Command) (before : Kept) (head meta : ℕ) : Type 0 where
  pub holds : register_head (register_in before.registers (object_of command)) ≡ Some head
  pub told : tells (steps.Access (WalkLoad head)) meta

-- so many links were loaded, one after another, and lead from the first fragment to this one
abbrev pub LeadsTo : (Step → ℕ → Type 0) → ℕ → ℕ → ℕ → Type 0
LeadsTo tells zero head reached = reached ≡ head
LeadsTo tells (suc links) head reached =
    (from : ℕ) × (word : ℕ) × LeadsTo tells links head from × tells (steps.Access (WalkLoad from)) word × (reached ≡ link_of word)

-- the way goes by the links of a record that has the field, of which so many are left
pub record GoesByLinks (tells : Step → ℕ → Type 0) (command : Command) (before : Kept) (reached links part : ℕ) : Type 0 where
  pub head : ℕ
  pub meta : ℕ
  pub opened : HasOpened tells command before head meta
  pub a_record : array_length_of meta ≡ None
  pub within : field_of command < length_of meta
  pub passed : ℕ
  pub all : passed + links ≡ row_of (field_of command)
  pub leads : LeadsTo tells passed head reached
  pub part_is : part ≡ part_of (field_of command)

-- the way goes by the spine of an array that has the cell
pub record GoesBySpine (tells : Step → ℕ → Type 0) (command : Command) (before : Kept) (head part : ℕ) : Type 0 where
  pub meta : ℕ
  pub cells : ℕ
  pub opened : HasOpened tells command before head meta
  pub an_array : array_length_of meta ≡ Some cells
  pub within : field_of command < length_of meta
  pub part_is : part ≡ field_of command % 4

-- the place of the spine was loaded
pub record HasLocated (tells : Step → ℕ → Type 0) (command : Command) (before : Kept) (head part : ℕ) (address : Spot) : Type 0 where
  pub way : GoesBySpine tells command before head part
  pub word : ℕ
  pub told : tells (steps.Spine (AddressLoad head)) word
  pub address_is : address ≡ spot_in word

-- the spine word was loaded that names the cell's fragment
pub record HasIndexed (tells : Step → ℕ → Type 0) (command : Command) (before : Kept) (reached part : ℕ) : Type 0 where
  pub head : ℕ
  pub address : Spot
  pub located : HasLocated tells command before head part address
  pub word : ℕ
  pub told : tells (steps.Spine (WordLoad address.half (address.offset + field_of command / 4))) word
  pub reached_is : reached ≡ payload_in word

-- the field was reached: the words that were loaded one after another lead to it
abbrev pub ReachesField : (Step → ℕ → Type 0) → Command → Kept → ℕ → ℕ → Type 0
ReachesField tells command before reached part = GoesByLinks tells command before reached 0 part ⊎ HasIndexed tells command before reached part
