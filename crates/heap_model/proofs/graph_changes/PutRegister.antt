-- A seat's register gets another value: the graph after it.
use Rattle.std.proofs.Common.{◌≡◌, ◌≢◌, ℕ, ◌<◌, false, length, get_or, set, refl, ap, ◌∙◌}
use Rattle.std.proofs.lemmas.List.{get_or-set_same, get_or-set_other}
use Rattle.heap_model.specs.graph.Graph.{GraphSeat, Graph, unset}
use Rattle.heap_model.proofs.graph_changes.GraphSeats.{SeatChanges, seat_changes_of_itself, party_with_seat_is_new, seat_changes_with_seat}
use Rattle.heap_model.specs.declared.graph.cell.Cell.{Cell}
use Rattle.heap_model.specs.graph.Changes.{with_register}
use Rattle.heap_model.specs.graph.Objects.{graph_seat, register_value}

-- nothing of the graph changes but a seat's registers
pub record OnlyRegisters (g now : Graph) (number : ℕ) : Type 0 where
  pub changes : SeatChanges g now number
  pub left : (graph_seat now number).left ≡ (graph_seat g number).left

-- or nothing at all
pub only_registers_of_itself : (g : Graph) (number : ℕ) → OnlyRegisters g g number
only_registers_of_itself g number = record { changes = seat_changes_of_itself g number; left = refl }

module _ (g : Graph) (number d : ℕ) (cell : Cell) (present : (graph_seat g number).left ≡ false) where
  -- the seat with the value and its stamp in its register
  abbrev filled : GraphSeat
  filled = record (graph_seat g number) { registers = set (graph_seat g number).registers d cell }

  pub put_changes_only_registers : OnlyRegisters g (with_register g number d cell) number
  put_changes_only_registers = record { changes = seat_changes_with_seat g number filled present refl refl; left = ap (λ (p : GraphSeat). p.left) (party_with_seat_is_new g number filled present) }

  -- the register holds the value, and the seat's others hold theirs
  pub put_register_holds_value : d < length (graph_seat g number).registers → register_value (with_register g number d cell) number d ≡ cell.value
  put_register_holds_value within = ap (λ (p : GraphSeat). (get_or p.registers d unset).value) (party_with_seat_is_new g number filled present) ∙ ap (λ (register : Cell). register.value) (get_or-set_same (graph_seat g number).registers d cell unset within)

  pub other_registers_stay_by_put : (r : ℕ) → r ≢ d → register_value (with_register g number d cell) number r ≡ register_value g number r
  other_registers_stay_by_put r apart = ap (λ (p : GraphSeat). (get_or p.registers r unset).value) (party_with_seat_is_new g number filled present) ∙ ap (λ (register : Cell). register.value) (get_or-set_other (graph_seat g number).registers d r cell unset apart)
