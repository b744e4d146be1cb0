-- A seat that has the same in two graphs.
use Rattle.std.proofs.Common.{◌≡◌, ℕ, List, length, get_or, ap}
use Rattle.heap_model.specs.graph.Objects.{GraphSeat, graph_seat, register_value}
use Rattle.heap_model.specs.declared.graph.cell.Cell.{Cell}
use Rattle.heap_model.specs.graph.Graph.{Graph, unset}

-- the graph's party has the same registers, and as many objects and sets, and has left where it had
pub record SameParty (g now : Graph) (r : ℕ) : Type 0 where
  pub registers : (graph_seat now r).registers ≡ (graph_seat g r).registers
  pub objects : length (graph_seat now r).objects ≡ length (graph_seat g r).objects
  pub sets : (graph_seat now r).sets ≡ (graph_seat g r).sets
  pub left : (graph_seat now r).left ≡ (graph_seat g r).left

-- so it is where what the graph has of it is the same
pub same_party_of_same_graph : (g now : Graph) (r : ℕ) → graph_seat now r ≡ graph_seat g r → SameParty g now r
same_party_of_same_graph g now r same = record {
  registers = ap (λ (p : GraphSeat). p.registers) same;
  objects = ap (λ (p : GraphSeat). length p.objects) same;
  sets = ap (λ (p : GraphSeat). p.sets) same;
  left = ap (λ (p : GraphSeat). p.left) same;
}

pub register_stays : (g now : Graph) (r : ℕ) → SameParty g now r → (i : ℕ) → register_value now r i ≡ register_value g r i
register_stays g now r same i = ap (λ (rs : List Cell). (get_or rs i unset).value) same.registers
