-- A seat's registers hold what the graph says, and were seen under its stamps.
use Rattle.std.specs.Prelude.{◌≡◌, ℕ, ◌<◌, ◌^◌, List, map, slice_index_or, slice_set, All}
use Rattle.heap_words.specs.Loaded.{stamp_of}
use Rattle.heap_model.specs.declared.id.Id.{Id}
use Rattle.heap_model.specs.declared.id.Value.{Value}
use Rattle.heap_model.specs.declared.id.Value.TheVariants as values
use Rattle.heap_model.specs.declared.graph.cell.Cell.{Cell}
use Rattle.heap_model.specs.graph.Objects.{graph_seat, register_value}
use Rattle.heap_model.specs.graph.Graph.{Graph}
use Rattle.core_machine.specs.declared.point.Point.{Point}
use Rattle.core_machine.specs.declared.point.Point.TheVariants as points
use Rattle.core_machine.specs.declared.point.Access.TheVariants.{Naming}
use Rattle.core_machine.specs.declared.seat.register.Register.{Register}
use Rattle.core_machine.specs.declared.seat.register.Register.TheVariants as registers
use Rattle.core_machine.specs.seat.Commands.{target_of}
use Rattle.core_machine.specs.seat.Seat.{Seat}
use Rattle.core_rule.specs.owners.Owners.{Owner}
use Rattle.core_rule.specs.Book.{object_head}
use Rattle.core_rule.specs.objects.Objects.{NamesKept}

-- what a register holds is the value: a number, nothing, or a kept object's first fragment with its id
abbrev pub HoldsValue : List Id → (ℕ → Owner) → (ℕ → List ℕ) → Register → Value → Type 0
HoldsValue made owner fragments registers.Nil value = value ≡ values.Nil
HoldsValue made owner fragments (registers.Number n) value = (value ≡ values.Number n) × (n < 2 ^ 30)
HoldsValue made owner fragments (registers.Object head id) value =
    (value ≡ values.Object id) × NamesKept made owner fragments (values.Object id) × (head ≡ object_head made fragments id)

-- the register is that of a get that has loaded a reference and awaits the object's name
abbrev pub IsAwaited : Point → ℕ → ℕ → Type 0
IsAwaited (points.Access Naming) d r = r ≡ d
IsAwaited _ d r = ⊥

-- each register of the seat holds its value in the graph, but for one that is awaited
abbrev pub Registers : Graph → List Id → (ℕ → Owner) → (ℕ → List ℕ) → ℕ → List Register → Point → ℕ → Type 0
Registers g made owner fragments number held point d =
    (r : ℕ) → ¬ IsAwaited point d r → HoldsValue made owner fragments (slice_index_or held r registers.Nil) (register_value g number r)

-- under which stamps the seat's registers are seen: where a get awaits an object's name, its register under that of the loaded field
abbrev pub stamps_at : Seat → Point → List ℕ
stamps_at seat (points.Access Naming) = slice_set seat.seen (target_of seat.command) (stamp_of seat.loaded)
stamps_at seat _ = seat.seen

-- under which stamps the graph has the seat's registers
abbrev pub graph_stamps : Graph → ℕ → List ℕ
graph_stamps g number = map (λ (cell : Cell). cell.stamp) (graph_seat g number).registers

-- these are the graph's stamps, and each has 32 bits
pub record SeenStands (g : Graph) (number : ℕ) (seen : List ℕ) : Type 0 where
  pub stamps : seen ≡ graph_stamps g number
  pub small : All (λ stamp. stamp < 2 ^ 32) seen
