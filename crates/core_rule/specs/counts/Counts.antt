-- What a seat has of its own is what the history says.
use Rattle.std.specs.Prelude.{◌≡◌, ℕ, ◌+◌, ◌*◌, List, [], ◌∷◌, ◌++◌, length, filter, Some}
use Rattle.heap_model.specs.declared.heap.Heap.{Heap}
use Rattle.heap_model.specs.declared.id.Id.{Id}
use Rattle.heap_model.specs.declared.id.Value.TheVariants as values
use Rattle.heap_model.specs.declared.reply.Reply.TheVariants.{Got}
use Rattle.heap_model.specs.declared.entry.Entry.{Entry}
use Rattle.heap_model.specs.declared.entry.Entry.TheVariants.{Said}
use Rattle.heap_model.specs.graph.Objects.{graph_seat, register_value}
use Rattle.heap_model.specs.graph.Graph.{Graph}
pub use Rattle.heap_model.specs.account.Noting.{is_collectors}
use Rattle.heap_model.specs.account.Space.{fragments_gained, fragments_lost, taken_of, spent_of}
use Rattle.heap_model.specs.account.Effects.{is_of}
use Rattle.core_machine.specs.declared.point.Point.{Point}
use Rattle.core_machine.specs.declared.point.Point.TheVariants as points
use Rattle.core_machine.specs.declared.point.Access.TheVariants.{Naming}
use Rattle.core_machine.specs.seat.Commands.{target_of}
use Rattle.heap_words.specs.Loaded.{head_of, stamp_of}
use Rattle.core_machine.specs.seat.Seat.{Seat}
use Rattle.core_machine.specs.machine.Sums.{sum_upto}
use Rattle.core_rule.specs.Book.{object_head}
use Rattle.core_rule.specs.graph.Registers.{SeenStands, stamps_at}
use Rattle.core_rule.specs.objects.Objects.{NamesKept}
use Rattle.core_rule.specs.owners.Owners.{Owner, taken_bit}
use Rattle.core_rule.specs.hand.Holding.{fragments_in_hand}

-- a get has loaded a reference to a kept object, which the graph's register holds, and the seat's list awaits its reply
pub record IsAwaitingName (g : Graph) (made : List Id) (owner : ℕ → Owner) (fragments : ℕ → List ℕ) (number : ℕ) (seat : Seat) (awaited : List Entry) : Type 0 where
  pub id : Id
  pub kept : NamesKept made owner fragments (values.Object id)
  pub loads : head_of seat.loaded ≡ Some (object_head made fragments id)
  pub held : register_value g number (target_of seat.command) ≡ values.Object id
  pub told : awaited ≡ Said number seat.command (Got (values.Object id) (stamp_of seat.loaded)) ∷ []

-- what the history has of the seat and its own list still awaits: the reply of a get that awaits a name, and else nothing
abbrev pub Awaits : Graph → List Id → (ℕ → Owner) → (ℕ → List ℕ) → ℕ → Seat → Point → List Entry → Type 0
Awaits g made owner fragments number seat (points.Access Naming) awaited = IsAwaitingName g made owner fragments number seat awaited
Awaits g made owner fragments number seat _ awaited = awaited ≡ []

-- the seat's own entries are those of the history, but for what is awaited
pub record OwnList (g : Graph) (history : List Entry) (made : List Id) (owner : ℕ → Owner) (fragments : ℕ → List ℕ) (number : ℕ) (seat : Seat) : Type 0 where
  pub awaited : List Entry
  pub own : seat.mine ++ awaited ≡ filter (is_of number) history
  pub awaits : Awaits g made owner fragments number seat seat.point awaited

-- what the seat has counted of its own is what the graph and the history say
pub record CountsAgree (g : Graph) (history : List Entry) (number : ℕ) (seat : Seat) : Type 0 where
  -- it made as many objects, and did as many sets, as the graph has of it
  pub numbered : seat.made ≡ length (graph_seat g number).objects
  pub stamped : seat.sets ≡ (graph_seat g number).sets
  -- its registers are seen under the graph's stamps
  pub seen : SeenStands g number (stamps_at seat seat.point)
  -- it has left where it has in the graph
  pub leaves : (graph_seat g number).left ≡ seat.left
  -- what it has is what it took and neither gave back nor made into objects
  pub unborn : length seat.reserve + length (fragments_in_hand seat.hand seat.body) + spent_of number history ≡ taken_of number history

-- as many fragments are taken as the history says are in use
abbrev pub AreUsed : Heap → (ℕ → Owner) → List Entry → Type 0
AreUsed heap owner history = sum_upto (16 * heap.groups) (λ f. taken_bit (owner f)) + fragments_lost history ≡ fragments_gained heap history
