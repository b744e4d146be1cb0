-- Which object's fragment a call has reached on its way to a field, by a book.
use Rattle.std.specs.Prelude.{◌≡◌, ℕ, ◌+◌, ◌<◌, true, length, Some, IfSome}
use Rattle.heap_words.specs.Loaded.{head_of}
use Rattle.heap_model.specs.account.Cycles.{graph_of}
use Rattle.heap_model.specs.declared.heap.Heap.{Heap}
use Rattle.heap_model.specs.declared.id.Value.TheVariants as values
use Rattle.heap_model.specs.graph.Graph.{Node}
use Rattle.heap_model.specs.graph.Objects.{register_value}
use Rattle.core_machine.specs.declared.point.Access.{Access}
use Rattle.core_machine.specs.declared.point.Access.TheVariants.{LoadingMeta, Walking, LoadingSpot, Indexing, Getting, Naming, LoadingOld, ShadingOld, ShadingNew, Swapping, ShadingSide, Replacing}
use Rattle.core_machine.specs.declared.seat.register.Register.TheVariants.{Object}
use Rattle.core_machine.specs.machine.Machine.{State, seat_at, found_by}
use Rattle.core_machine.specs.Moves.{due_step}
use Rattle.core_machine.specs.seat.Commands.{object_of, field_of, target_of}
use Rattle.core_machine.specs.seat.Registers.{register_in}
use Rattle.core_machine.specs.seat.Seat.{Seat}
use Rattle.core_machine.specs.table.Decode.{id_of}
use Rattle.core_rule.specs.Book.{Book, fragment_at, id_at}
use Rattle.core_rule.specs.cycle.Flight.{WhileAccess}
use Rattle.core_rule.specs.objects.Objects.{IsKept, node_at}
use Rattle.core_rule.specs.owners.Owners.{Kept}
use Rattle.core_rule.specs.Rule.{Rule}
use Rattle.core_rule.specs.Stands.{Stands}
use Rattle.core_rule.specs.ways.Ways.{row_in, field_part}

-- the object of this number, by the book's history
abbrev pub node_of : Heap → Book → ℕ → Node
node_of heap book object = node_at (graph_of heap book.history) book.made object

-- the call's register holds this object, and the fragment that the call has reached is the object's own, the one of this row in their order
pub record IsOnObject (heap : Heap) (book : Book) (number : ℕ) (seat : Seat) (object row : ℕ) : Type 0 where
  pub below : object < length book.made
  pub holds : register_in seat.registers (object_of seat.command) ≡ Object (fragment_at (book.fragments object) 0) (id_at book.made object)
  pub held : register_value (graph_of heap book.history) number (object_of seat.command) ≡ values.Object (id_at book.made object)
  pub owned : book.owner seat.reached ≡ Kept object row
  pub in_order : seat.reached ≡ fragment_at (book.fragments object) row

-- the object has the call's field, in the word that the seat knows
pub record HasField (object : Node) (seat : Seat) : Type 0 where
  pub within : field_of seat.command < length object.cells
  pub part_is : seat.part ≡ field_part object (field_of seat.command)

-- the call has reached its object's first fragment
pub record ReachesObject (heap : Heap) (book : Book) (number : ℕ) (seat : Seat) : Type 0 where
  pub object : ℕ
  pub on : IsOnObject heap book number seat object 0

-- the call has reached the first fragment of an array that has the cell
pub record ReachesArray (heap : Heap) (book : Book) (number : ℕ) (seat : Seat) : Type 0 where
  pub object : ℕ
  pub on : IsOnObject heap book number seat object 0
  pub an_array : (node_of heap book object).array ≡ true
  pub field : HasField (node_of heap book object) seat

-- the call has reached a fragment of an object that has the field, from which so many links lead on to the field's
pub record ReachesRow (heap : Heap) (book : Book) (number : ℕ) (seat : Seat) (links : ℕ) : Type 0 where
  pub object : ℕ
  pub row : ℕ
  pub on : IsOnObject heap book number seat object row
  pub field : HasField (node_of heap book object) seat
  pub ahead : row + links ≡ row_in (node_of heap book object) (field_of seat.command)

-- the call has reached the field: its fragment, and in that its word
abbrev pub IsFieldPlace : Heap → Book → ℕ → Seat → Type 0
IsFieldPlace heap book number seat = ReachesRow heap book number seat 0

-- the get in flight has loaded a reference to this kept object, which is what its register holds by the history's graph
pub record AwaitsName (heap : Heap) (book : Book) (number : ℕ) (seat : Seat) : Type 0 where
  pub object : ℕ
  pub below : object < length book.made
  pub kept : IsKept book.owner book.fragments object
  pub loads : head_of seat.loaded ≡ Some (fragment_at (book.fragments object) 0)
  pub held : register_value (graph_of heap book.history) number (target_of seat.command) ≡ values.Object (id_at book.made object)

-- what the call has reached at each point of access
abbrev pub ReachesOwn : Heap → Book → ℕ → Seat → Access → Type 0
ReachesOwn heap book number seat LoadingMeta = ReachesObject heap book number seat
ReachesOwn heap book number seat Walking = ReachesRow heap book number seat seat.links
ReachesOwn heap book number seat LoadingSpot = ReachesArray heap book number seat
ReachesOwn heap book number seat Indexing = ReachesArray heap book number seat
ReachesOwn heap book number seat Getting = IsFieldPlace heap book number seat
ReachesOwn heap book number seat Naming = AwaitsName heap book number seat
ReachesOwn heap book number seat LoadingOld = IsFieldPlace heap book number seat
ReachesOwn heap book number seat ShadingOld = IsFieldPlace heap book number seat
ReachesOwn heap book number seat ShadingNew = IsFieldPlace heap book number seat
ReachesOwn heap book number seat Swapping = IsFieldPlace heap book number seat
ReachesOwn heap book number seat (ShadingSide side) = IsFieldPlace heap book number seat
ReachesOwn heap book number seat Replacing = IsFieldPlace heap book number seat

-- in any state for which a book stands each call on an object has reached its own at its point
unfoldable pub EachReachesOwn : Type 0
EachReachesOwn = (heap : Heap) (state : State) (book : Book) (number : ℕ) → Rule heap state book → number < heap.seats
    → WhileAccess (ReachesOwn heap book number (seat_at state number)) (seat_at state number).point

-- some book stands for a state in which the seat is this one, and there the call has reached this at the point
pub record HasReached (heap : Heap) (number : ℕ) (seat : Seat) (point : Access) : Type 0 where
  pub state : State
  pub book : Book
  pub stands : Stands heap state book
  pub here : seat_at state number ≡ seat
  pub reaches : ReachesOwn heap book number seat point

-- where a name is awaited the word found is that of the object
abbrev pub NamesReached : (heap : Heap) (book : Book) (number : ℕ) (seat : Seat) (found : ℕ) (point : Access) → ReachesOwn heap book number seat point → Type 0
NamesReached heap book number seat found Naming awaits = id_of found ≡ id_at book.made awaits.object
NamesReached heap book number seat found _ reaches = Unit {0}

-- so it is where the seat's due step finds this word
pub record ReachesInBook (heap : Heap) (number : ℕ) (seat : Seat) (found : ℕ) (point : Access) : Type 0 where
  pub there : HasReached heap number seat point
  pub finds : IfSome (due_step heap number seat) (λ step. found ≡ found_by heap there.state step)
  pub names : NamesReached heap there.book number seat found point there.reaches
