-- A load that is noted nowhere keeps the rule: the call is over there, or goes on at a point of its own.
use Rattle.std.proofs.Common.{◌≡◌, ℕ, ◌<◌, [], filter, refl, sym, ◌∙◌}
use Rattle.std.proofs.lemmas.List.{append-nil}
use Rattle.core_rule.proofs.Terms.{Heap, is_of, State, seat_at, IsMachine, target_of, IsAtRest, IsSilent, Seat, no_spot, with_entries, call_over, Book, IsAnswered, IsAwaited, Rule}
use Rattle.core_rule.proofs.Terms.{SeatStands}
use Rattle.core_machine.specs.declared.point.Collecting.{Collecting}
use Rattle.core_machine.specs.declared.point.Point.TheVariants as points
use Rattle.core_machine.specs.declared.table.address.Address.{Address}
use Rattle.core_machine.specs.declared.seat.looks.Looks.{Looks}
use Rattle.core_rule.proofs.entries.InFlight.{began_without_entry}
use Rattle.core_rule.proofs.roots.CallRoots.{IsReachedNow}
use Rattle.core_rule.proofs.marking.Marks.{roots_hold_off_way}
use Rattle.core_rule.proofs.budgets.NoneMade.{MakesNone}
use Rattle.core_rule.proofs.steps.Assemble.{Keeps}
use Rattle.core_rule.proofs.graph.SeenStamps.{IsUnnamed, busy_is_unnamed, stamps_are_own}
use Rattle.core_rule.proofs.steps.Loads.{went, seat_in_cycle_after_load, loaded_state, keeps_rule_by_silent_load, keeps_rule_by_ending_load}

module _ (heap : Heap) (state : State) (book : Book) (number : ℕ) (rule : Rule heap state book) (here : number < heap.seats) (a : Address) (looks : Looks)
    (makes : MakesNone (seat_at state number).point) (rest : IsAtRest (seat_at state number)) (silent : IsSilent (seat_at state number)) (busy : ¬ IsAnswered (seat_at state number).point)
    (free : (r : ℕ) → ¬ IsAwaited (seat_at state number).point (target_of (seat_at state number).command) r) (told : (seat_at state number).mine ≡ filter (is_of number) book.history) where
  abbrev seat : Seat
  seat = seat_at state number

  stands : SeatStands heap state.words book number seat
  stands = rule.seats_stand number here

  unnamed : IsUnnamed seat.point
  unnamed = busy_is_unnamed seat.point busy

  -- the call is over
  pub keeps_rule_by_quiet_end : IsMachine heap (loaded_state heap state number a (with_entries (record (call_over seat) { looks = looks }) []))
      → Keeps heap state (loaded_state heap state number a (with_entries (record (call_over seat) { looks = looks }) [])) book book.begun []
  keeps_rule_by_quiet_end = keeps_rule_by_ending_load heap state book number a seat.registers seat.seen looks [] [] rest silent (λ machine.
      let new : Seat = went seat seat.registers seat.seen 0 0 0 no_spot 0 points.Idle looks [] in
      keeps_rule_by_silent_load heap state book number rule here a seat.registers seat.seen 0 0 0 no_spot 0 points.Idle looks [] machine makes tt (sym (stamps_are_own seat seat.point unnamed))
      (λ r unawaited. stands.names.registers r (free r))
      record { awaited = []; own = append-nil new.mine ∙ append-nil seat.mine ∙ told; awaits = refl }
      tt tt
      (began_without_entry book.history number (book.begun number) seat.point points.Idle busy stands.told.began)
      (seat_in_cycle_after_load heap state book number rule here a seat.registers seat.seen 0 0 0 no_spot 0 points.Idle looks [] machine tt)
      (λ marks. roots_hold_off_way (IsReachedNow heap state book) seat new refl tt))

  -- the call goes on at another point of a collect
  pub keeps_rule_by_quiet_move : (point : Collecting) → IsMachine heap (loaded_state heap state number a (with_entries (record seat { point = points.Collecting point; looks = looks }) []))
      → Keeps heap state (loaded_state heap state number a (with_entries (record seat { point = points.Collecting point; looks = looks }) [])) book book.begun []
  keeps_rule_by_quiet_move point machine =
      let next = points.Collecting point in
      let new : Seat = went seat seat.registers seat.seen seat.reached seat.links seat.part seat.address seat.loaded next looks [] in
      keeps_rule_by_silent_load heap state book number rule here a seat.registers seat.seen seat.reached seat.links seat.part seat.address seat.loaded next looks [] machine makes tt (sym (stamps_are_own seat seat.point unnamed))
      (λ r unawaited. stands.names.registers r (free r))
      record { awaited = []; own = append-nil new.mine ∙ append-nil seat.mine ∙ told; awaits = refl }
      tt tt
      (began_without_entry book.history number (book.begun number) seat.point next busy stands.told.began)
      (seat_in_cycle_after_load heap state book number rule here a seat.registers seat.seen seat.reached seat.links seat.part seat.address seat.loaded next looks [] machine tt)
      (λ marks. roots_hold_off_way (IsReachedNow heap state book) seat new refl tt)
