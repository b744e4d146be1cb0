-- A call that works on an object: what its seat knows of the graph.
use Rattle.std.proofs.Common.{◌≡◌, ℕ, ◌<◌, List, slice_index_or, ◌∙◌, subst, false}
use Rattle.core_rule.proofs.Terms.{Heap, Id, Value, graph_of, IsPresent, register_value, phase, Register, target_of, object_of, IsAtRest, State, seat_at, Seat, Book, id_at, Owner}
use Rattle.core_rule.proofs.Terms.{IsNear, HoldsValue, IsAwaited, Rule, OnWay}
use Rattle.heap_model.specs.declared.id.Value.TheVariants as values
use Rattle.core_machine.specs.declared.point.Point.TheVariants as points
use Rattle.core_machine.specs.declared.point.Access.{Access}
use Rattle.core_machine.specs.declared.seat.register.Register.TheVariants as registers
use Rattle.core_rule.proofs.entries.AtRest.{seat_fits, in_flight_has_not_left}

-- the register holds the object of the graph's register
held_object : (made : List Id) (owner : ℕ → Owner) (fragments : ℕ → List ℕ) (held : Register) (value : Value) (head : ℕ) (id : Id)
    → held ≡ registers.Object head id → HoldsValue made owner fragments held value → value ≡ values.Object id
held_object made owner fragments held value head id is holds =
    let object : HoldsValue made owner fragments (registers.Object head id) value = subst (λ r. HoldsValue made owner fragments r value) is holds in
    object.0

module _ (heap : Heap) (state : State) (book : Book) (number : ℕ) (rule : Rule heap state book) (here : number < heap.seats)
    (reaching : Access) (point : (seat_at state number).point ≡ points.Access reaching) where
  -- the seat hasn't left
  stays : (seat_at state number).left ≡ false
  stays = in_flight_has_not_left rule number here (λ idle. absurd (cc (point, idle)))

  pub seat_is_present : IsPresent (graph_of heap book.history) number
  seat_is_present = (rule.seats_stand number here).told.counts.leaves ∙ stays

  -- its last answer is to the phase, or to the one before it
  pub answer_is_near_phase : IsNear (phase book.history) (seat_at state number).answered
  answer_is_near_phase = (rule.seats_stand number here).cycle.answers_told.near stays

  -- it has nothing at hand
  pub way_seat_is_at_rest : IsAtRest (seat_at state number)
  way_seat_is_at_rest = rw point at (seat_fits rule number here).at_point

  -- its way's object is that of the graph's register
  pub way_object_is_registers : ((d r : ℕ) → ¬ IsAwaited (seat_at state number).point d r) → (index row : ℕ) → OnWay book.made book.owner book.fragments (seat_at state number) index row
      → register_value (graph_of heap book.history) number (object_of (seat_at state number).command) ≡ values.Object (id_at book.made index)
  way_object_is_registers free index row way =
      let seat : Seat = seat_at state number in
      let r : ℕ = object_of seat.command in
      held_object book.made book.owner book.fragments (slice_index_or seat.registers r registers.Nil) _ _ _ way.holds
      ((rule.seats_stand number here).names.registers r (free (target_of seat.command) r))
