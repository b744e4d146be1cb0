-- A machine at the step of a party, which is a seat's or the collector's. The machine is given by its fields.
use Rattle.std.proofs.Common.{◌≡◌, ℕ, ◌<◌, ◌≤◌, List, length, map, get_or, Option, Some, None, true, eqb, eq-eqb, refl, subst, sym, ap, ◌∙◌, arith}
use Rattle.std.proofs.lemmas.List.{get_or_past}
use Rattle.std.proofs.Math.ListN.{length-map}
use Rattle.core_machine.proofs.Terms.{Heap, Step, due_step, seat_at, absent_seat, Turns, SeatWithRoom, MachineValue, IsMachine}
use Rattle.core_machine.specs.collector.Collector.{Collector, next_turn}
use Rattle.core_machine.specs.machine.Value.{due_of, event_of}
use Rattle.core_machine.proofs.machine_lemmas.Parties.{state_of, value_of, seat_is_partys}
use Rattle.core_machine.proofs.machine_lemmas.Stepping.{not_last}

module _ (heap : Heap) (words : List ℕ) (parties : List SeatWithRoom) (collector : Collector) (room gone : ℕ) (value : MachineValue) (number : ℕ)
    (view : value_of heap words parties collector room gone ≡ value) where
  -- the step that is due of a party that is a seat is the seat's
  pub seat_due : (step : Step) → number < length parties → due_of value.heap value.state number ≡ Some step → due_step value.heap number (seat_at value.state number) ≡ Some step
  seat_due step within due = rw (not_last heap words parties collector room gone value number view within) at due

  -- and the party has it due
  pub seat_is_due : (due : Option Step) → number < length parties → due ≡ due_step value.heap number (seat_at value.state number) → due ≡ due_of value.heap value.state number
  seat_is_due due within is = rw (not_last heap words parties collector room gone value number view within) is

  module _ (past : length parties ≤ number) (within : number ≤ length value.state.seats) where
    -- the number behind those of the seats is the collector's
    pub party_is_last : number ≡ length value.state.seats
    party_is_last =
        let long : length value.state.seats ≡ length parties = rw (← view) (length-map parties (λ (s : SeatWithRoom). s.seat)) in
        omega arith

    last_test : eqb number (length value.state.seats) ≡ true
    last_test = eq-eqb number (length value.state.seats) party_is_last

    -- so its step is a turn
    pub last_event : event_of value.state number ≡ Turns
    last_event = rw last_test refl

    pub last_due : (step : Step) → due_of value.heap value.state number ≡ Some step → (next_turn value.heap value.state.collector).step ≡ step
    last_due step due =
        let same : Some (next_turn value.heap value.state.collector).step ≡ Some step = rw last_test at due in
        cc

    pub turn_is_due : (step : Step) → step ≡ (next_turn heap collector).step → Some step ≡ due_of value.heap value.state number
    turn_is_due step is =
        let seen : step ≡ (next_turn value.heap value.state.collector).step = subst (λ (v : MachineValue). step ≡ (next_turn v.heap v.state.collector).step) view is in
        rw last_test (ap Some seen)

module _ (heap : Heap) (words : List ℕ) (parties : List SeatWithRoom) (collector : Collector) (room gone : ℕ) (value : MachineValue) (number : ℕ)
    (view : value_of heap words parties collector room gone ≡ value) where
  -- what a party that is a seat has due is what its seat has
  pub partys_due : (party : SeatWithRoom) → number < length parties → party ≡ get_or parties number party
      → due_step heap number party.seat ≡ due_step value.heap number (seat_at value.state number)
  partys_due party within here =
      let is = seat_is_partys words parties collector number party within ∙ sym (ap (λ (s : SeatWithRoom). s.seat) here) in
      rw (← view, is) refl

  -- a number past those of the seats has nothing due
  pub none_is_due : length parties ≤ number → None ≡ due_step value.heap number (seat_at value.state number)
  none_is_due past =
      let long = length-map parties (λ (s : SeatWithRoom). s.seat) in
      rw (← view, get_or_past (map (λ (s : SeatWithRoom). s.seat) parties) number absent_seat (omega (arith, long, past))) refl

  -- a party's number is a seat's
  pub party_number_is_seats : number < length parties → IsMachine heap (state_of words parties collector) → number < heap.seats
  party_number_is_seats within machine = omega (arith, length-map parties (λ (s : SeatWithRoom). s.seat), machine.seated)
