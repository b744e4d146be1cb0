-- A machine one of whose parties got room. The machine is given by its fields.
use Rattle.std.proofs.Common.{◌≡◌, ◌≢◌, ℕ, ◌<◌, ◌≤◌, List, [], ◌∷◌, ◌++◌, length, drop, map, get_or, set, eq-eqb, refl, subst, sym, ap, ◌∙◌, arith}
use Rattle.std.proofs.lemmas.List.{set-get_or}
use Rattle.std.proofs.Math.ListN.{length-map}
use Rattle.core_machine.proofs.Terms.{Heap, SeatWithRoom, MachineValue, IsMachine, Entry, spare_of, forgotten_of, log_of, recent_of}
use Rattle.core_machine.specs.collector.Collector.{Collector}
use Rattle.core_machine.specs.machine.Value.{CollectorWithRoom}
use Rattle.core_machine.proofs.machine_lemmas.Parties.{state_of, value_of, seat_number_is_partys, each_but_last, last_here}
use Rattle.core_machine.proofs.machine_lemmas.PartySteps.{party_is_last}

module _ (heap : Heap) (words : List ℕ) (parties : List SeatWithRoom) (collector : Collector) (room gone : ℕ) (value : MachineValue)
    (view : value_of heap words parties collector room gone ≡ value) where
  -- a seat's party that is as it was leaves the value
  pub same_party_leaves_value : (number : ℕ) (party next : SeatWithRoom) → party ≡ get_or parties number party → next ≡ party
      → value_of heap words (set parties number next) collector room gone ≡ value
  same_party_leaves_value number party next here same =
      let seats : set parties number next ≡ parties = ap (set parties number) (same ∙ here) ∙ set-get_or parties number party in
      rw seats view

  -- and so does the collector
  pub same_collector_leaves_value : (party next : CollectorWithRoom) → party.collector ≡ collector → party.spare ≡ room → party.forgotten ≡ gone → next ≡ party
      → value_of heap words parties next.collector next.spare next.forgotten ≡ value
  same_collector_leaves_value party next is spare forgotten same = rw (same, is, spare, forgotten) view

  -- a seat's room is its party's
  pub spare_is_partys : (number : ℕ) (party : SeatWithRoom) → number < length parties → party ≡ get_or parties number party → party.spare ≡ spare_of value number
  spare_is_partys number party within here =
      rw (← view) (ap (λ (s : SeatWithRoom). s.spare) here ∙ sym (seat_number_is_partys (λ (s : SeatWithRoom). s.spare) parties room number party within))

  -- and that of the party behind the seats is the collector's
  pub spare_is_collectors : (number : ℕ) → length parties ≤ number → number ≤ length value.state.seats → room ≡ spare_of value number
  spare_is_collectors number past within =
      let long : length value.state.seats ≡ length parties = rw (← view) (length-map parties (λ (s : SeatWithRoom). s.seat)) in
      let is : number ≡ length parties = omega arith in
      rw (← view, is) (sym (last_here (λ (s : SeatWithRoom). s.spare) parties room))

  -- what is shown of that party is what the collector shows
  pub collectors_shown : (number : ℕ) (told : List Entry) → length parties ≤ number → number ≤ length value.state.seats → told ≡ drop gone collector.log → gone ≤ length collector.log
      → (told ≡ recent_of value number) × (forgotten_of value number ≤ length (log_of value number))
  collectors_shown number told past within is some =
      let long : length value.state.seats ≡ length parties = rw (← view) (length-map parties (λ (s : SeatWithRoom). s.seat)) in
      let here : number ≡ length parties = omega arith in
      let last = eq-eqb (length parties) (length (map (λ (s : SeatWithRoom). s.seat) parties)) (sym (length-map parties (λ (s : SeatWithRoom). s.seat))) in
      rw (← view, here, last, last_here (λ (s : SeatWithRoom). s.forgotten) parties gone) (is, some)

  module _ (next : Collector) (left kept : ℕ) (same : next ≡ collector) where
    -- a machine stays one when the collector gets room
    pub collector_room_leaves_machine : IsMachine heap (state_of words parties collector) → IsMachine heap (state_of words parties next)
    collector_room_leaves_machine machine = subst (λ (c : Collector). IsMachine heap (state_of words parties c)) (sym same) machine

    -- its value is the same but for the room
    pub collector_room_leaves_value : kept ≡ gone → value_of heap words parties next left kept ≡ record value { spares = map (λ (s : SeatWithRoom). s.spare) parties ++ left ∷ [] }
    collector_room_leaves_value still = rw (← view, same, still) refl

    -- and where it forgets entries, but for these too
    pub collector_forgets : value_of heap words parties next left kept
        ≡ record value { spares = map (λ (s : SeatWithRoom). s.spare) parties ++ left ∷ []; forgotten = map (λ (s : SeatWithRoom). s.forgotten) parties ++ kept ∷ [] }
    collector_forgets = rw (← view, same) refl

    module _ (number : ℕ) (past : length parties ≤ number) (within : number ≤ length value.state.seats) where
      number_is : number ≡ length parties
      number_is =
          let long : length value.state.seats ≡ length parties = rw (← view) (length-map parties (λ (s : SeatWithRoom). s.seat)) in
          party_is_last heap words parties collector room gone value number view past within ∙ long

      -- the collector has as much as it got
      pub collector_has_room : spare_of (value_of heap words parties next left kept) number ≡ left
      collector_has_room = rw number_is (last_here (λ (s : SeatWithRoom). s.spare) parties left)

      -- no less than it had
      pub collector_gets_room : room ≤ left → spare_of value number ≤ spare_of (value_of heap words parties next left kept) number
      collector_gets_room more =
          let was : spare_of value number ≡ room = rw (← view, number_is) (last_here (λ (s : SeatWithRoom). s.spare) parties room) in
          omega (arith, was, collector_has_room, more)

      -- and has forgotten as many of its entries as its log says
      pub collector_has_forgotten : (forgets : ℕ → ℕ → ℕ) → kept ≡ forgets gone (length collector.log)
          → forgotten_of (value_of heap words parties next left kept) number ≡ forgets (forgotten_of value number) (length (log_of value number))
      collector_has_forgotten forgets is =
          let last = eq-eqb (length parties) (length (map (λ (s : SeatWithRoom). s.seat) parties)) (sym (length-map parties (λ (s : SeatWithRoom). s.seat))) in
          let was : forgotten_of value number ≡ gone = rw (← view, number_is) (last_here (λ (s : SeatWithRoom). s.forgotten) parties gone) in
          let log : log_of value number ≡ collector.log = rw (← view, number_is, last) refl in
          let now : forgotten_of (value_of heap words parties next left kept) number ≡ kept = rw number_is (last_here (λ (s : SeatWithRoom). s.forgotten) parties kept) in
          now ∙ is ∙ ap (λ (n : ℕ). forgets n (length collector.log)) (sym was) ∙ ap (λ (l : List Entry). forgets (forgotten_of value number) (length l)) (sym log)

      -- and the others have what they had
      pub others_keep_room : (other : ℕ) → other ≢ number → spare_of (value_of heap words parties next left kept) other ≡ spare_of value other
      others_keep_room other apart = rw (← view) (each_but_last (λ (s : SeatWithRoom). s.spare) parties room left other (subst (λ (n : ℕ). other ≢ n) number_is apart))
