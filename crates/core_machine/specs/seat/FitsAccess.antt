-- What is true of a seat's own data while it reads or writes an object, whatever the words are.
use Rattle.std.specs.Prelude.{◌≡◌, ℕ, ◌<◌, true, false, List, Some, IsSome}
use Rattle.heap_words.specs.declared.spot.Spot.{Spot}
use Rattle.heap_model.specs.declared.command.Command.{Command}
use Rattle.heap_model.specs.declared.command.Command.TheVariants.{Get, Set, Cas, Len}
use Rattle.heap_model.specs.Command.{IsCommand}
use Rattle.core_machine.specs.declared.point.Access.{Access}
use Rattle.core_machine.specs.declared.point.Access.TheVariants.{LoadingMeta, Walking, LoadingSpot, Indexing, Getting, Naming, LoadingOld, ShadingOld, ShadingNew, Swapping, ShadingSide, Replacing}
use Rattle.core_machine.specs.declared.seat.register.Register.{Register}
use Rattle.core_machine.specs.seat.Commands.{object_of, source_of, field_of}
use Rattle.heap_words.specs.Loaded.{head_of}
use Rattle.core_machine.specs.seat.Access.{row_of, has_barrier_of, side_register_of}
use Rattle.core_machine.specs.seat.Registers.{register_in, register_head}
use Rattle.core_machine.specs.seat.Seat.{Seat, no_spot, HasNumberLeft}

-- nothing was reached or loaded
pub record HasNoWay (reached links part : ℕ) (address : Spot) (loaded : ℕ) : Type 0 where
  pub none_reached : reached ≡ 0
  pub no_links : links ≡ 0
  pub no_part : part ≡ 0
  pub no_address : address ≡ no_spot
  pub none_loaded : loaded ≡ 0

-- the seat has nothing reached or loaded
abbrev pub IsNowhere : Seat → Type 0
IsNowhere seat = HasNoWay seat.reached seat.links seat.part seat.address seat.loaded

-- the command is a get
abbrev pub IsGet : Command → Type 0
IsGet (Get d r i) = Unit {0}
IsGet _ = ⊥

-- the command is a set
abbrev pub IsSet : Command → Type 0
IsSet (Set r i v) = Unit {0}
IsSet _ = ⊥

-- the command is a compare and swap
abbrev pub IsCas : Command → Type 0
IsCas (Cas r i a v) = Unit {0}
IsCas _ = ⊥

-- the command works on an object
abbrev pub NamesObject : Command → Type 0
NamesObject (Get d r i) = Unit {0}
NamesObject (Set r i v) = Unit {0}
NamesObject (Cas r i a v) = Unit {0}
NamesObject (Len r) = Unit {0}
NamesObject _ = ⊥

-- the command works on a field
abbrev pub NamesField : Command → Type 0
NamesField (Get d r i) = Unit {0}
NamesField (Set r i v) = Unit {0}
NamesField (Cas r i a v) = Unit {0}
NamesField _ = ⊥

-- the command is in range, a stamp is left for a field that it sets, and the register that the command names holds an object
pub record HoldsObject (registers : List Register) (made sets : ℕ) (command : Command) : Type 0 where
  pub in_range : IsCommand command
  pub numbered : HasNumberLeft made sets command
  pub holds : IsSome (register_head (register_in registers (object_of command)))

-- the seat's call has an object to work on
abbrev pub WorksOnObject : Seat → Type 0
WorksOnObject seat = HoldsObject seat.registers seat.made seat.sets seat.command

-- the way begins at the object's first fragment, and where the field stands isn't known yet
pub record IsAtHead (registers : List Register) (made sets : ℕ) (command : Command) (reached links part loaded : ℕ) : Type 0 where
  pub works : HoldsObject registers made sets command
  pub names : NamesObject command
  pub at_head : register_head (register_in registers (object_of command)) ≡ Some reached
  pub no_links : links ≡ 0
  pub no_part : part ≡ 0
  pub none_loaded : loaded ≡ 0

-- the seat's way begins at its object's first fragment
abbrev pub SeatIsAtHead : Seat → Type 0
SeatIsAtHead seat = IsAtHead seat.registers seat.made seat.sets seat.command seat.reached seat.links seat.part seat.loaded

-- some links of the way to a field have been walked, and some are left
pub record IsOnWay (registers : List Register) (made sets : ℕ) (command : Command) (links part loaded : ℕ) : Type 0 where
  pub works : HoldsObject registers made sets command
  pub names : NamesField command
  pub more : 0 < links
  pub some_done : links < row_of (field_of command)
  pub part_within : part < 4
  pub none_loaded : loaded ≡ 0

-- the seat has links of its way still to walk
abbrev pub SeatIsOnWay : Seat → Type 0
SeatIsOnWay seat = IsOnWay seat.registers seat.made seat.sets seat.command seat.links seat.part seat.loaded

-- the way of a call on a field has no links and has loaded nothing: it goes on by a spine
pub record IsAtSentinel (registers : List Register) (made sets : ℕ) (command : Command) (links part loaded : ℕ) : Type 0 where
  pub works : HoldsObject registers made sets command
  pub names : NamesField command
  pub no_links : links ≡ 0
  pub part_within : part < 4
  pub none_loaded : loaded ≡ 0

-- the seat's way goes on by a spine
abbrev pub SeatIsAtSentinel : Seat → Type 0
SeatIsAtSentinel seat = IsAtSentinel seat.registers seat.made seat.sets seat.command seat.links seat.part seat.loaded

-- no link leads on to the field
pub record IsAtField (links part : ℕ) : Type 0 where
  pub arrived : links ≡ 0
  pub part_within : part < 4

-- the field was reached by a get
abbrev pub SeatIsAtGet : Seat → Type 0
SeatIsAtGet seat = WorksOnObject seat × IsGet seat.command × IsAtField seat.links seat.part

-- the field was reached by a set
abbrev pub SeatIsAtSet : Seat → Type 0
SeatIsAtSet seat = WorksOnObject seat × IsSet seat.command × IsAtField seat.links seat.part

-- the field was reached by a compare and swap, which loads nothing
abbrev pub SeatIsAtCas : Seat → Type 0
SeatIsAtCas seat = WorksOnObject seat × IsCas seat.command × IsAtField seat.links seat.part × (seat.loaded ≡ 0)

-- what is true of the seat's data at each point of access
abbrev pub FitsAccess : Seat → Access → Type 0
FitsAccess seat LoadingMeta = SeatIsAtHead seat
FitsAccess seat Walking = SeatIsOnWay seat
FitsAccess seat LoadingSpot = SeatIsAtSentinel seat
FitsAccess seat Indexing = SeatIsAtSentinel seat
FitsAccess seat Getting = SeatIsAtGet seat × (seat.loaded ≡ 0)
FitsAccess seat Naming = SeatIsAtGet seat × IsSome (head_of seat.loaded)
FitsAccess seat LoadingOld = SeatIsAtSet seat × (has_barrier_of seat ≡ true) × (seat.loaded ≡ 0)
FitsAccess seat ShadingOld = SeatIsAtSet seat × (has_barrier_of seat ≡ true) × IsSome (head_of seat.loaded)
FitsAccess seat ShadingNew =
    SeatIsAtSet seat × (has_barrier_of seat ≡ true) × IsSome (register_head (register_in seat.registers (source_of seat.command)))
FitsAccess seat Swapping = SeatIsAtSet seat × (has_barrier_of seat ≡ false → seat.loaded ≡ 0)
FitsAccess seat (ShadingSide side) = SeatIsAtCas seat × (has_barrier_of seat ≡ true) × IsSome (register_head (side_register_of seat side))
FitsAccess seat Replacing = SeatIsAtCas seat
