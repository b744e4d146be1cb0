-- When two graphs agree on a seat: what that is kept by.
use Rattle.std.proofs.Common.{◌≡◌, ◌≢◌, ℕ, false, length, get_or, set, refl, sym, ap, ◌∙◌, subst, inl, inr, arith, length-set}
use Rattle.std.proofs.Math.Seq.{map-set_same}
use Rattle.std.proofs.lemmas.Bool.{cases_eq, cases_lt}
use Rattle.std.proofs.lemmas.List.{get_or-set_same, get_or-set_other, get_or_past}
use Rattle.heap_model.specs.declared.graph.cell.Cell.{Cell}
use Rattle.heap_model.specs.declared.id.Value.TheVariants.{Nil, Number, Object}
use Rattle.heap_model.specs.graph.Graph.{GraphSeat, Graph, Node, fresh}
use Rattle.heap_model.specs.graph.OwnGraphs.{shape_of, AreAlike, AgreeOn}
use Rattle.heap_model.specs.declared.id.Id.TheVariants.{Board, Made}
use Rattle.heap_model.specs.declared.id.Value.{Value}
use Rattle.heap_model.specs.graph.Changes.{with_graph_seat, with_object_cell, with_cell, write}
use Rattle.heap_model.specs.graph.Objects.{graph_seat, absent_graph_seat}

-- a seat is like itself, like each that is like it, and like what is like one that is like it
pub alike_same : (one : GraphSeat) → AreAlike one one
alike_same one = record { registers = refl; objects = refl; sets = refl; left = refl }

pub alike_back : (one other : GraphSeat) → AreAlike one other → AreAlike other one
alike_back one other alike = record { registers = sym alike.registers; objects = sym alike.objects; sets = sym alike.sets; left = sym alike.left }

pub alike_then : (one other third : GraphSeat) → AreAlike one other → AreAlike other third → AreAlike one third
alike_then one other third alike then_ = record {
  registers = alike.registers ∙ then_.registers;
  objects = alike.objects ∙ then_.objects;
  sets = alike.sets ∙ then_.sets;
  left = alike.left ∙ then_.left;
}

-- so with graphs
pub agree_on_reversed : (number : ℕ) (one other : Graph) → AgreeOn number one other → AgreeOn number other one
agree_on_reversed number one other agrees = record { positions = sym agrees.positions; board = sym agrees.board; seat = alike_back _ _ agrees.seat }

pub agree_on_composed : (number : ℕ) (one other third : Graph) → AgreeOn number one other → AgreeOn number other third → AgreeOn number one third
agree_on_composed number one other third agrees then_ =
    record { positions = agrees.positions ∙ then_.positions; board = agrees.board ∙ then_.board; seat = alike_then _ _ _ agrees.seat then_.seat }

pub agree_on_itself : (number : ℕ) (g : Graph) → AgreeOn number g g
agree_on_itself number g = record { positions = refl; board = refl; seat = alike_same (graph_seat g number) }

-- the seat is another one in both, each like the other
pub agree_on_same_seat_change : (number : ℕ) (one other : Graph) (p q : GraphSeat) → AgreeOn number one other → AreAlike p q → AgreeOn number (with_graph_seat one number p) (with_graph_seat other number q)
agree_on_same_seat_change number one other p q agrees alike = record {
  positions = length-set one.seats number p ∙ agrees.positions ∙ sym (length-set other.seats number q);
  board = agrees.board;
  seat = elim (cases_lt number (length one.seats)) [
    | inl there ↦ subst (λ x. AreAlike x (graph_seat (with_graph_seat other number q) number)) (sym (get_or-set_same one.seats number p absent_graph_seat there))
        (subst (AreAlike p) (sym (get_or-set_same other.seats number q absent_graph_seat (omega (arith, there, agrees.positions)))) alike)
    | inr past ↦ subst (λ x. AreAlike x (graph_seat (with_graph_seat other number q) number))
        (sym (get_or_past (set one.seats number p) number absent_graph_seat (omega (arith, past, length-set one.seats number p))))
        (subst (AreAlike absent_graph_seat) (sym (get_or_past (set other.seats number q) number absent_graph_seat (omega (arith, past, agrees.positions, length-set other.seats number q)))) (alike_same absent_graph_seat))
  ];
}

-- another seat is another one in one of them
pub agree_on_with_other_seat : (number other : ℕ) (g : Graph) (p : GraphSeat) → number ≢ other → AgreeOn number g (with_graph_seat g other p)
agree_on_with_other_seat number other g p apart = record {
  positions = sym (length-set g.seats other p);
  board = refl;
  seat = subst (AreAlike (graph_seat g number)) (sym (get_or-set_other g.seats other number p absent_graph_seat apart)) (alike_same (graph_seat g number));
}

-- a cell of an object changes no shape
cell_shape : (object : Node) (i : ℕ) (cell : Cell) → shape_of (with_cell object i cell) ≡ shape_of object
cell_shape object i cell = ap (λ n. record { array = object.array; cells = n }) (length-set object.cells i cell)

cell_alike : (p : GraphSeat) (count i : ℕ) (cell : Cell) → AreAlike p (with_object_cell p count i cell)
cell_alike p count i cell = record {
  registers = refl;
  objects = sym (map-set_same shape_of p.objects count (with_cell (get_or p.objects count (fresh false 0)) i cell) (fresh false 0) (cell_shape (get_or p.objects count (fresh false 0)) i cell));
  sets = refl;
  left = refl;
}

pub agree_on_after_write : (number : ℕ) (g : Graph) (value : Value) (i : ℕ) (cell : Cell) → AgreeOn number g (write g value i cell)
agree_on_after_write number g Nil i cell = agree_on_itself number g
agree_on_after_write number g (Number n) i cell = agree_on_itself number g
agree_on_after_write number g (Object Board) i cell = record { positions = refl; board = sym (cell_shape g.board i cell); seat = alike_same (graph_seat g number) }
agree_on_after_write number g (Object (Made other count)) i cell = elim (cases_eq number other) [
  | inl same ↦ subst (λ n. AgreeOn n g (with_graph_seat g other (with_object_cell (graph_seat g other) count i cell))) (sym same) its
  | inr apart ↦ agree_on_with_other_seat number other g (with_object_cell (graph_seat g other) count i cell) apart
]
  where
    its : AgreeOn other g (with_graph_seat g other (with_object_cell (graph_seat g other) count i cell))
    its = elim (cases_lt other (length g.seats)) [
      | inl there ↦ record {
        positions = sym (length-set g.seats other (with_object_cell (graph_seat g other) count i cell));
        board = refl;
        seat = subst (AreAlike (graph_seat g other)) (sym (get_or-set_same g.seats other (with_object_cell (graph_seat g other) count i cell) absent_graph_seat there))
            (cell_alike (graph_seat g other) count i cell);
      }
      | inr past ↦ record {
        positions = sym (length-set g.seats other (with_object_cell (graph_seat g other) count i cell));
        board = refl;
        seat = subst (AreAlike (graph_seat g other))
            (get_or_past g.seats other absent_graph_seat past
            ∙ sym (get_or_past (set g.seats other (with_object_cell (graph_seat g other) count i cell)) other absent_graph_seat (omega (arith, past, length-set g.seats other (with_object_cell (graph_seat g other) count i cell)))))
            (alike_same (graph_seat g other));
      }
    ]
