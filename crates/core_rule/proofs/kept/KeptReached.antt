-- What is reached is kept.
use Rattle.std.specs.Option.{IsSomeAnd}
use Rattle.std.proofs.Common.{◌≡◌, ℕ, ◌<◌, inl, inr, slice_get, Option, Some, None, refl, sym, ap, ◌∙◌, subst}
use Rattle.std.proofs.lemmas.Bool.{cases_lt}
use Rattle.std.proofs.lemmas.Bool.Decides.{eqb_tells}
use Rattle.std.proofs.lemmas.Option.{slice_get-get_or}
use Rattle.core_rule.proofs.Terms.{Heap, Id, Value, graph_of, Graph, Node, opening, node, register_value, IsRoot, PointsTo, Points, Reaches, from_register, from_cell, Point}
use Rattle.core_rule.proofs.Terms.{Register, State, seat_at, target_of, register_in, Seat, Book, id_at, object_number, IsAwaitingName, NamesKept, node_in, HoldsValue, IsAwaited}
use Rattle.core_rule.proofs.Terms.{Rule}
use Rattle.heap_model.specs.declared.id.Value.TheVariants as values
use Rattle.heap_model.specs.declared.graph.cell.Cell.{Cell}
use Rattle.core_machine.specs.declared.point.Access.TheVariants.{Naming}
use Rattle.core_machine.specs.declared.point.Point.TheVariants as call_points
use Rattle.core_machine.specs.declared.seat.register.Register.TheVariants as registers
use Rattle.core_rule.proofs.sweep_exact.GoneSeats.{gone_stays_after_history, gone_at_opening}
use Rattle.heap_model.proofs.graph_changes.LeftSeats.{left_registers_are_nil}
use Rattle.core_rule.proofs.graph.Numbering.{id_at_own_number}
use Rattle.core_rule.proofs.growth.RegisterIds.{RegisterHolds, root_is_in_register}

-- a cell of an object holds what the object points to
pointing_cell : (o : Option Node) (id : Id) → IsSomeAnd o (λ object. PointsTo object id) → (j : ℕ) × (cell : Cell) × (slice_get (node_in o).cells j ≡ Some cell) × (cell.value ≡ values.Object id)
pointing_cell None id points = absurd points
pointing_cell (Some object) id points = (points.0, points.1, slice_get-get_or object.cells points.0 points.1 points.2 ∙ ap Some (points.3), points.4)

module _ (heap : Heap) (state : State) (book : Book) (rule : Rule heap state book) where
  abbrev g : Graph
  g = graph_of heap book.history

  abbrev IsNamedKept : Id → Type 0
  IsNamedKept id = NamesKept book.made book.owner book.fragments (values.Object id)

  -- what a register with its value holds is kept
  holds_kept : (held : Register) (value : Value) (id : Id) → HoldsValue book.made book.owner book.fragments held value → value ≡ values.Object id → IsNamedKept id
  holds_kept registers.Nil value id holds is = absurd (cc (holds, is))
  holds_kept (registers.Number n) value id holds is = absurd (let number = holds.0 in cc (number, is))
  holds_kept (registers.Object head other) value id holds is = let same : other ≡ id = (let its = holds.0 in cc (its, is)) in subst IsNamedKept same holds.1

  module _ (number r : ℕ) (id : Id) (here : number < heap.seats) (holds : register_value g number r ≡ values.Object id) where
    abbrev seat : Seat
    seat = seat_at state number

    -- and so is what one holds that awaits its object's name
    register_kept : (point : Point) → seat.point ≡ point → IsNamedKept id
    register_kept (call_points.Access Naming) point_is = elim (eqb_tells r (target_of seat.command)) [
      | inl same ↦
          let list = (rule.seats_stand number here).told.list in
          let awaits : IsAwaitingName g book.made book.owner book.fragments number seat list.awaited = rw point_is at list.awaits in
          let both : values.Object awaits.id ≡ values.Object id = sym awaits.held ∙ ap (register_value g number) (sym same.1) ∙ holds in
          let its : awaits.id ≡ id = cc in
          subst IsNamedKept its awaits.kept
      | inr apart ↦ holds_kept (register_in seat.registers r) (register_value g number r) id
          ((rule.seats_stand number here).names.registers r (λ awaited. apart.1 (subst (λ p. IsAwaited p (target_of seat.command) r) point_is awaited))) holds
    ]
    register_kept _ point_is = holds_kept (register_in seat.registers r) (register_value g number r) id
        ((rule.seats_stand number here).names.registers r (λ awaited. subst (λ p. IsAwaited p (target_of seat.command) r) point_is awaited)) holds

  -- what a root is
  root_kept : (id : Id) → IsRoot g id → IsNamedKept id
  root_kept id root =
      let its : RegisterHolds g id = root_is_in_register g id root in
      elim (cases_lt its.number heap.seats) [
        | inl here ↦ register_kept its.number its.register id here its.holds (seat_at state its.number).point refl
        | inr past ↦
            let nil = left_registers_are_nil heap book.history its.number rule.heap_stands.legal.objects
            (gone_stays_after_history (opening heap) its.number book.history rule.heap_stands.legal.objects (gone_at_opening heap its.number past)) its.register in
            absurd (let held = its.holds in cc (nil, held))
      ]

  pub reached_is_named_kept : (id : Id) → Reaches g id → IsNamedKept id
  reached_is_named_kept _ (from_register id made root) = root_kept id root
  reached_is_named_kept _ (from_cell id made holder reached points) =
      let kept = reached_is_named_kept holder reached in
      let i : ℕ = object_number book.made holder in
      let there = pointing_cell (node g (id_at book.made i)) id (subst (λ x. Points g x id) (sym (id_at_own_number book.made holder kept.0)) points) in
      subst (NamesKept book.made book.owner book.fragments) there.3 (rule.heap_stands.objects.named i there.0 kept.0 kept.1 there.1 there.2).0
