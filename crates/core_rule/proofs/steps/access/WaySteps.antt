-- A load by which a call goes on along its way keeps the rule.
use Rattle.std.proofs.Common.{◌≡◌, ℕ, ◌<◌, [], filter, refl, sym, subst}
use Rattle.std.proofs.lemmas.List.{append-nil}
use Rattle.heap_words.specs.declared.spot.Spot.{Spot}
use Rattle.core_rule.proofs.Terms.{Heap, is_of, target_of, State, seat_at, Seat, IsMachine, Book, Awaits, IsAnswered, node_at, IsAwaited, Rule, AccessStands}
use Rattle.core_machine.specs.declared.table.address.Address.{Address}
use Rattle.core_machine.specs.declared.point.Access.{Access}
use Rattle.core_machine.specs.declared.point.Point.TheVariants as points
use Rattle.core_rule.specs.roots.Roots.{IsInMarking, AtCall, OfRoots}
use Rattle.core_rule.proofs.frames.SeatFrames.{AddressAt}
use Rattle.core_rule.proofs.cycle.Unwatched.{IsUnwatched}
use Rattle.core_rule.proofs.entries.InFlight.{began_without_entry}
use Rattle.core_rule.proofs.entries.SeatLists.{own_list_after_entry}
use Rattle.core_rule.proofs.roots.CallRoots.{IsReachedNow, roots_hold_on_way}
use Rattle.core_rule.proofs.steps.Assemble.{Keeps}
use Rattle.core_rule.proofs.steps.Loads.{seat_in_cycle_after_load, went, loaded_state, keeps_rule_by_silent_load}
use Rattle.core_rule.proofs.graph.SeenStamps.{stamps_stay, busy_is_unnamed, awaits_none_is_unnamed}
use Rattle.core_rule.proofs.graph.ToldGraph.{told_graph}

module _ (heap : Heap) (state : State) (book : Book) (number : ℕ) (rule : Rule heap state book) (here : number < heap.seats)
    (from : Access) (point : (seat_at state number).point ≡ points.Access from)
    (unanswered : ¬ IsAnswered (points.Access from)) (unnamed : (d r : ℕ) → ¬ IsAwaited (points.Access from) d r) where
  busy : ¬ IsAnswered (seat_at state number).point
  busy answered = unanswered (subst IsAnswered point answered)

  -- the (seat_at state number) at another point of access, where it has reached this fragment
  abbrev pub on_way : ℕ → ℕ → ℕ → Spot → Access → Seat
  on_way reached links part address to = went (seat_at state number) (seat_at state number).registers (seat_at state number).seen reached links part address (seat_at state number).loaded (points.Access to) (seat_at state number).looks []

  pub keeps_rule_by_way_load : (a : Address) (reached links part : ℕ) (address : Spot) (to : Access)
      → Awaits (told_graph heap book) book.made book.owner book.fragments number (on_way reached links part address to) (points.Access to) []
      → AccessStands (node_at (told_graph heap book) book.made) book.made book.owner book.fragments (on_way reached links part address to) to
      → AddressAt heap state.words book (on_way reached links part address to) (points.Access to)
      → IsUnwatched (on_way reached links part address to) to
      → (IsInMarking state.collector → OfRoots (IsReachedNow heap state book) (seat_at state number) → AtCall (IsReachedNow heap state book) (on_way reached links part address to) to)
      → IsMachine heap (loaded_state heap state number a (on_way reached links part address to))
      → Keeps heap state (loaded_state heap state number a (on_way reached links part address to)) book book.begun []
  keeps_rule_by_way_load a reached links part address to names way right unwatched comes machine =
      let stands = rule.seats_stand number here in
      let new : Seat = on_way reached links part address to in
      keeps_rule_by_silent_load heap state book number rule here a (seat_at state number).registers (seat_at state number).seen reached links part address (seat_at state number).loaded (points.Access to) (seat_at state number).looks [] machine (rw point tt) tt
      (stamps_stay (seat_at state number) new (points.Access from) (points.Access to) point refl (busy_is_unnamed (points.Access from) unanswered)
      (awaits_none_is_unnamed (told_graph heap book) book.made book.owner book.fragments number new (points.Access to) names) refl)
      (λ r unawaited. stands.names.registers r (λ awaited. unnamed (target_of (seat_at state number).command) r (subst (λ p. IsAwaited p (target_of (seat_at state number).command) r) point awaited)))
      (own_list_after_entry (told_graph heap book) book.made book.owner book.fragments number (seat_at state number) book.history busy stands.told.list (told_graph heap book) book.history new [] [] [] refl refl (sym (append-nil (filter (is_of number) book.history))) names)
      way right
      (began_without_entry book.history number (book.begun number) (seat_at state number).point (points.Access to) busy stands.told.began)
      (seat_in_cycle_after_load heap state book number rule here a (seat_at state number).registers (seat_at state number).seen reached links part address (seat_at state number).loaded (points.Access to) (seat_at state number).looks [] machine unwatched)
      (λ marks roots. roots_hold_on_way (IsReachedNow heap state book) (seat_at state number) new to refl refl (comes marks roots) roots)
