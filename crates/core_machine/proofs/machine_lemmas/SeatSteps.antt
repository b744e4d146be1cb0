-- A machine at the step of a seat: what is known before it, and what it leaves. The machine is given by its fields, and the step is due by its value.
use Rattle.std.proofs.Common.{◌≡◌, ℕ, ◌+◌, ◌<◌, ◌≤◌, List, length, get_or, set, Some, subst, sym, ap, arith}
use Rattle.std.proofs.Math.ListN.{length-map}
use Rattle.std.specs.Prelude.{IfSome}
use Rattle.core_machine.proofs.Terms.{Heap, Step, put, InTable, FoundPointsWithin, address_of, word_after, Fits, next_move, due_step, seat_after_due, seat_at, found_by, Steps}
use Rattle.core_machine.proofs.Terms.{state_after, SeatWithRoom, MachineValue, spare_of, KeepsRoom, SpendsRoom, IsMachine}
use Rattle.core_machine.specs.collector.Collector.{Collector}
use Rattle.core_machine.proofs.machine_lemmas.Parties.{state_of, value_of, partys_seat_fits}
use Rattle.core_machine.proofs.machine_lemmas.Stepping.{due_party_is_seat, due_step_in_table, step_finds_within_heap, step_leaves_machine, step_leaves_state, step_spends_room, spare_was_partys}

module _ (heap : Heap) (words : List ℕ) (parties : List SeatWithRoom) (collector : Collector) (room gone : ℕ) (value : MachineValue) (number : ℕ) (step : Step)
    (view : value_of heap words parties collector room gone ≡ value) (by_value : due_step value.heap number (seat_at value.state number) ≡ Some step) where
  due : due_step heap number (seat_at (state_of words parties collector) number) ≡ Some step
  due = subst (λ (v : MachineValue). due_step v.heap number (seat_at v.state number) ≡ Some step) (sym view) by_value

  within : number < length parties
  within = due_party_is_seat heap words parties collector number step due

  -- so it is a seat's
  pub step_is_a_seats : number < length parties
  step_is_a_seats = within

  pub step_is_of_heap : IsMachine heap (state_of words parties collector) → number < heap.seats
  step_is_of_heap machine = omega (arith, within, length-map parties (λ (s : SeatWithRoom). s.seat), machine.seated)

  -- what the value says of the heap and of the word found is so
  pub step_heap : heap ≡ value.heap
  step_heap = ap (λ (v : MachineValue). v.heap) view

  pub step_found : (found : ℕ) → found ≡ found_by heap (state_of words parties collector) step → found ≡ found_by value.heap value.state step
  step_found found is = subst (λ (v : MachineValue). found ≡ found_by v.heap v.state step) view is

  -- its word is in the table
  pub step_word_in_table : IsMachine heap (state_of words parties collector) → InTable heap (address_of step)
  step_word_in_table machine = due_step_in_table heap words parties collector number step machine due

  -- the seat's data fit together
  pub party_seat_fits : (party : SeatWithRoom) → party ≡ get_or parties number party → IsMachine heap (state_of words parties collector) → Fits heap party.seat
  party_seat_fits party here machine = partys_seat_fits heap words parties collector number party within here machine

  -- the word that it finds leads within the heap
  pub seat_finds_within_heap : (party : SeatWithRoom) (found : ℕ) → party ≡ get_or parties number party → IsMachine heap (state_of words parties collector)
      → found ≡ found_by heap (state_of words parties collector) step → IfSome (next_move heap number party.seat) (λ m. FoundPointsWithin heap (address_of m.step) found)
  seat_finds_within_heap party found here machine is =
      step_finds_within_heap heap words parties collector room gone number party party within here step found machine due is

  -- the party has the room that the value says
  pub seat_room : (party : SeatWithRoom) → party ≡ get_or parties number party → 2 ≤ spare_of value number → 1 < party.spare
  seat_room party here room_ =
      let is = spare_was_partys heap words parties collector room gone number party party within here in
      omega (arith, is, rw (← view) at room_)

  -- the party that got room loses no more than its new entries take
  pub seat_step_spends_room : (party next : SeatWithRoom) (now : List ℕ) → party ≡ get_or parties number party
      → next.forgotten ≡ party.forgotten → KeepsRoom party next → SpendsRoom value (value_of heap now (set parties number next) collector room gone) number
  seat_step_spends_room party next now here same own =
      subst (λ (v : MachineValue). SpendsRoom v (value_of heap now (set parties number next) collector room gone) number) view
      (step_spends_room heap words parties collector room gone number party next within here now same own)

  module _ (party next : SeatWithRoom) (found : ℕ) (now : List ℕ) (here : party ≡ get_or parties number party) (is : found ≡ found_by heap (state_of words parties collector) step)
      (now_is : now ≡ put heap words (address_of step) (word_after step found)) (moved_ : next.seat ≡ seat_after_due party.seat (next_move heap number party.seat) found) where
    step_leaves : state_of now (set parties number next) collector ≡ state_after heap (state_of words parties collector) (Steps number)
    step_leaves = step_leaves_state heap words parties collector room gone number party next within here step found now due is now_is moved_

    -- it leaves the state after it
    pub seat_step_leaves_state : state_of now (set parties number next) collector ≡ state_after value.heap value.state (Steps number)
    seat_step_leaves_state = subst (λ (v : MachineValue). state_of now (set parties number next) collector ≡ state_after v.heap v.state (Steps number)) view step_leaves

    -- and a machine
    pub seat_step_leaves_machine : IsMachine heap (state_of words parties collector) → IsMachine heap (state_of now (set parties number next) collector)
    seat_step_leaves_machine machine = step_leaves_machine heap words parties collector room gone number party next within here step now due step_leaves machine
