-- Where a seat stands on the way to a field.
use Rattle.std.specs.Prelude.{◌≡◌, ℕ, ◌+◌, ◌/◌, ◌%◌, ◌<◌, true, if◌then◌else◌, List, length, Some, IsSome}
use Rattle.heap_model.specs.declared.command.Command.{Command}
use Rattle.heap_model.specs.declared.id.Id.{Id}
use Rattle.heap_model.specs.graph.Graph.{Node}
use Rattle.core_machine.specs.declared.point.Point.{Point}
use Rattle.core_machine.specs.declared.point.Point.TheVariants as points
use Rattle.core_machine.specs.declared.point.Access.{Access}
use Rattle.core_machine.specs.declared.point.Access.TheVariants.{LoadingMeta, Walking, LoadingSpot, Indexing, Getting, Naming, LoadingOld, ShadingOld, ShadingNew, Swapping, ShadingSide, Replacing}
use Rattle.core_machine.specs.declared.seat.register.Register.TheVariants.{Object}
use Rattle.core_machine.specs.seat.Commands.{object_of, field_of}
use Rattle.heap_words.specs.Loaded.{head_of}
use Rattle.core_machine.specs.seat.Access.{row_of, part_of}
use Rattle.core_machine.specs.seat.Registers.{register_in}
use Rattle.core_machine.specs.seat.Seat.{Seat}
use Rattle.core_rule.specs.owners.Owners.{Owner}
use Rattle.core_rule.specs.Book.{fragment_at, id_at}
use Rattle.core_rule.specs.objects.Objects.{IsKept}

-- the call's register holds the object of this number, and the way stands at this row of it
pub record OnWay (made : List Id) (owner : ℕ → Owner) (fragments : ℕ → List ℕ) (seat : Seat) (index row : ℕ) : Type 0 where
  pub below : index < length made
  pub kept : IsKept owner fragments index
  pub holds : register_in seat.registers (object_of seat.command) ≡ Object (fragment_at (fragments index) 0) (id_at made index)
  pub here : seat.reached ≡ fragment_at (fragments index) row

-- the way of a call whose object's length wasn't loaded yet: it stands at the object's first fragment
pub record SetsOut (made : List Id) (owner : ℕ → Owner) (fragments : ℕ → List ℕ) (seat : Seat) : Type 0 where
  pub index : ℕ
  pub way : OnWay made owner fragments seat index 0

-- the row of a record's field, or of an array's cell: behind an array's first fragment there are four cells in each
abbrev pub row_in : Node → ℕ → ℕ
row_in object field = if object.array then field / 4 + 1 else row_of field

-- the word of its fragment in which a field or a cell stands
abbrev pub field_part : Node → ℕ → ℕ
field_part object field = if object.array then field % 4 else part_of field

-- the object has the command's field: so many links lead on to its row, none in an array, and it stands in this word there
pub record FieldAhead (object : Node) (command : Command) (row links part : ℕ) : Type 0 where
  pub within : field_of command < length object.cells
  pub leads : row + links ≡ row_in object (field_of command)
  pub linked : object.array ≡ true → links ≡ 0
  pub there : part ≡ field_part object (field_of command)

-- the way of a call whose object has the field
pub record Finds (nodes : ℕ → Node) (made : List Id) (owner : ℕ → Owner) (fragments : ℕ → List ℕ) (seat : Seat) : Type 0 where
  pub index : ℕ
  pub row : ℕ
  pub way : OnWay made owner fragments seat index row
  pub field : FieldAhead (nodes index) seat.command row seat.links seat.part

-- the way to a cell of an array, of which the first fragment was reached
pub record Locates (nodes : ℕ → Node) (made : List Id) (owner : ℕ → Owner) (fragments : ℕ → List ℕ) (seat : Seat) : Type 0 where
  pub index : ℕ
  pub way : OnWay made owner fragments seat index 0
  pub an_array : (nodes index).array ≡ true
  pub within : field_of seat.command < length (nodes index).cells
  pub there : seat.part ≡ field_of seat.command % 4

-- the object that a set has loaded from its field is a kept one
pub record LoadedKept (made : List Id) (owner : ℕ → Owner) (fragments : ℕ → List ℕ) (seat : Seat) : Type 0 where
  pub index : ℕ
  pub below : index < length made
  pub kept : IsKept owner fragments index
  pub loads : head_of seat.loaded ≡ Some (fragment_at (fragments index) 0)

-- where a set has loaded an object, that is a kept one, up to its swap
abbrev pub OldKept : List Id → (ℕ → Owner) → (ℕ → List ℕ) → Seat → Type 0
OldKept made owner fragments seat = IsSome (head_of seat.loaded) → LoadedKept made owner fragments seat

-- what is true of the way at each point of access
abbrev pub AccessStands : (ℕ → Node) → List Id → (ℕ → Owner) → (ℕ → List ℕ) → Seat → Access → Type 0
AccessStands nodes made owner fragments seat LoadingMeta = SetsOut made owner fragments seat
AccessStands nodes made owner fragments seat Walking = Finds nodes made owner fragments seat
AccessStands nodes made owner fragments seat LoadingSpot = Locates nodes made owner fragments seat
AccessStands nodes made owner fragments seat Indexing = Locates nodes made owner fragments seat
AccessStands nodes made owner fragments seat Getting = Finds nodes made owner fragments seat
AccessStands nodes made owner fragments seat Naming = Unit {0}
AccessStands nodes made owner fragments seat LoadingOld = Finds nodes made owner fragments seat
AccessStands nodes made owner fragments seat ShadingOld = Finds nodes made owner fragments seat × LoadedKept made owner fragments seat
AccessStands nodes made owner fragments seat ShadingNew = Finds nodes made owner fragments seat × OldKept made owner fragments seat
AccessStands nodes made owner fragments seat Swapping = Finds nodes made owner fragments seat × OldKept made owner fragments seat
AccessStands nodes made owner fragments seat (ShadingSide side) = Finds nodes made owner fragments seat
AccessStands nodes made owner fragments seat Replacing = Finds nodes made owner fragments seat

-- what is true of a seat's way at its point
abbrev pub WayStands : (ℕ → Node) → List Id → (ℕ → Owner) → (ℕ → List ℕ) → Seat → Point → Type 0
WayStands nodes made owner fragments seat (points.Access point) = AccessStands nodes made owner fragments seat point
WayStands nodes made owner fragments seat _ = Unit {0}
