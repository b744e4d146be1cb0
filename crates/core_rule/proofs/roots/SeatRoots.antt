-- Where nothing is grey, each seat's roots are marked: those of a seat that has answered the phase, and one that has left has none.
use Rattle.std.proofs.Common.{◌≡◌, ◌≢◌, ℕ, ◌<◌, Bool, true, false, IfSome, refl, sym, ◌∙◌, subst, arith}
use Rattle.core_rule.proofs.Terms.{ShadingSide, Replacing, Heap, phase, IsMarking, LoadingMeta, Walking, Indexing, Getting, LoadingOld, ShadingOld, ShadingNew, Swapping, Point, State, seat_at, FitsWay}
use Rattle.core_rule.proofs.Terms.{Seat, head_of, Book, Grey, IsMarked, ShadedStands, WhileAccess, IsReached, Rule, HasMarked}
use Rattle.core_machine.specs.declared.point.Access.TheVariants.{LoadingSpot, Naming}
use Rattle.core_machine.specs.declared.point.Point.TheVariants as points
use Rattle.core_rule.specs.roots.Roots.{AtCall, OfRoots}
use Rattle.core_rule.proofs.entries.AtRest.{seat_fits, in_flight_has_not_left}
use Rattle.core_rule.proofs.marking.Ended.{reached_is_marked}
use Rattle.core_rule.proofs.roots.GoneRoots.{roots_hold_when_gone}
use Rattle.core_rule.proofs.marking.Marks.{roots_hold_still}

module _ (heap : Heap) (state : State) (book : Book) (rule : Rule heap state book) (marks : IsMarking heap.seats state.collector.phase state.collector.looked)
    (goes_on : ¬ HasMarked state.collector.stage) (none : (f : ℕ) → book.colour f ≢ Grey) (number : ℕ) (here : number < heap.seats) where
  abbrev seat : Seat
  seat = seat_at state number

  abbrev Marked : ℕ → Type 0
  Marked = IsMarked book.colour

  -- a seat that is there has answered the phase
  pub seat_answered_the_phase : seat.left ≡ false → seat.answered ≡ phase book.history
  seat_answered_the_phase present =
      let told = (rule.seats_stand number here).cycle.answers_told in
      sym told.told ∙ rule.collector_stands.looked number (omega (arith, here, marks.all)) here (told.leaves ∙ present)

  roots_there : seat.left ≡ false → OfRoots Marked seat
  roots_there present =
      roots_hold_still (IsReached heap state.words book.owner book.colour) Marked (reached_is_marked heap state.words book.owner book.colour none) seat
      (rule.marks_stand.roots number here (record { phase = marks.for_marking; goes_on = goes_on }) (seat_answered_the_phase present ∙ sym rule.collector_stands.phase_told))

  -- its roots are marked
  pub all_roots_are_marked : OfRoots Marked seat
  all_roots_are_marked = by seat.left refl
    where
      by : (left : Bool) → seat.left ≡ left → OfRoots Marked seat
      by true left = roots_hold_when_gone heap state book number rule here left Marked
      by false present = roots_there present

  -- and so is what it has loaded
  nothing_loaded : seat.loaded ≡ 0 → IfSome (head_of seat.loaded) Marked
  nothing_loaded zero = subst (λ word. IfSome (head_of word) Marked) (sym zero) tt

  loaded_by_point : (point : Point) → seat.point ≡ point → FitsWay seat point → WhileAccess (AtCall Marked seat) point → WhileAccess (ShadedStands book.colour seat) point → IfSome (head_of seat.loaded) Marked
  loaded_by_point (points.Access LoadingMeta) is fits call shaded = nothing_loaded fits.none_loaded
  loaded_by_point (points.Access Walking) is fits call shaded = nothing_loaded fits.none_loaded
  loaded_by_point (points.Access LoadingSpot) is fits call shaded = nothing_loaded fits.none_loaded
  loaded_by_point (points.Access Indexing) is fits call shaded = nothing_loaded fits.none_loaded
  loaded_by_point (points.Access Getting) is fits call shaded = nothing_loaded fits.1
  loaded_by_point (points.Access Naming) is fits call shaded = call
  loaded_by_point (points.Access LoadingOld) is fits call shaded = nothing_loaded fits.2
  loaded_by_point (points.Access ShadingOld) is fits call shaded = call.1
  loaded_by_point (points.Access ShadingNew) is fits call shaded = shaded
  loaded_by_point (points.Access Swapping) is fits call shaded =
      let answered = seat_answered_the_phase (in_flight_has_not_left rule number here (λ idle. absurd (cc (idle, is)))) in
      let third = marks.for_marking in
      let same = rule.collector_stands.phase_told in
      (shaded (record { from = omega (arith, answered, third, same); upto = omega (arith, answered, third, same) })).0
  loaded_by_point (points.Access (ShadingSide side)) is fits call shaded = nothing_loaded fits.0.3
  loaded_by_point (points.Access Replacing) is fits call shaded = nothing_loaded fits.3
  loaded_by_point points.Idle is fits call shaded = nothing_loaded fits.none_loaded
  loaded_by_point (points.Making point) is fits call shaded = nothing_loaded fits.none_loaded
  loaded_by_point points.Local is fits call shaded = nothing_loaded fits.none_loaded
  loaded_by_point (points.Polling point) is fits call shaded = nothing_loaded fits.none_loaded
  loaded_by_point (points.Collecting point) is fits call shaded = nothing_loaded fits.none_loaded
  loaded_by_point (points.Leaving point) is fits call shaded = nothing_loaded fits.none_loaded

  pub loaded_is_marked : IfSome (head_of seat.loaded) Marked
  loaded_is_marked =
      let third = marks.for_marking in
      let same = rule.collector_stands.phase_told in
      loaded_by_point seat.point refl (seat_fits rule number here).way_at_point all_roots_are_marked.call
      ((rule.seats_stand number here).cycle.flight.shaded (record { from = omega (arith, third, same); upto = omega (arith, third, same) }))
