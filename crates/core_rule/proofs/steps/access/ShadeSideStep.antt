-- Shading a value of a compare and swap keeps the rule.
use Rattle.std.specs.Prelude.{unwrap_or}
use Rattle.std.proofs.Common.{◌≡◌, ℕ, ◌<◌, true, [], ◌++◌, Option, Some, None, IsSome, refl, subst, slice_set}
use Rattle.core_rule.proofs.Terms.{graph_of, phase, register_value, Graph, Heap, State, Book, Rule, ShadingSide, Replacing, Side, side_of, side_register_of, seat_at, has_barrier_of, register_head, Seat, ReadsSpine}
use Rattle.core_rule.proofs.Terms.{IsMachine, Colour, IsMarked, IsSideMarked, IsBetween, ShadedStands, WhileAccess, node_at, Finds}
use Rattle.core_machine.specs.declared.point.Access.{Access}
use Rattle.core_machine.specs.declared.point.Point.TheVariants as points
use Rattle.core_machine.specs.declared.point.Side.TheVariants.{Expected, New}
use Rattle.core_machine.specs.seat.FitsAccess.{SeatIsAtCas}
use Rattle.core_machine.specs.seat.Access.{after_side, offer_point_of}
use Rattle.core_machine.specs.seat.AccessMoves.{shade_side_move}
use Rattle.core_rule.specs.roots.Roots.{IsInMarking, OfRoots}
use Rattle.core_rule.proofs.steps.Assemble.{Keeps, StepKeeps, seat_fits}
use Rattle.core_rule.proofs.steps.BarrierSteps.{keeps_rule_by_leading_shade, registers_hold_values}
use Rattle.core_rule.proofs.book.BookGoing.{IsNamed, by_register}
use Rattle.core_rule.proofs.ways.LoadedObjects.{KeptHead, referred_is_kept_head, held_value_refers}
use Rattle.core_rule.proofs.ways.OnwardWays.{finds_at_point}
use Rattle.core_rule.proofs.lists.Options.{if_some_goes_on, if_some_of_the_one, if_some_of_none, holds_of_some}
use Rattle.core_rule.proofs.looks.Origins.{ComesFrom}
use Rattle.core_rule.proofs.looks.Ways.{StaysFound}
use Rattle.core_rule.proofs.roots.CallRoots.{IsReachedNow, roots_hold_at_call}
use Rattle.core_rule.proofs.colours.ShadeColours.{with_mark, mark_marks_fragment, mark_keeps_marked}
use Rattle.core_rule.proofs.steps.ShadeStep.{shading, words_shaded}
use Rattle.core_rule.proofs.steps.StepKinds.{StepKind, spares, step_kind_of_way, on_words_of_plain_step}
use Rattle.core_rule.proofs.colours.OneBit.{lower_bit_stays}

-- where the value that it puts into the field goes next
offer_point_cases : (P : Access → Type 0) (head : Option ℕ) → (head ≡ None → P Replacing) → (IsSome head → P (ShadingSide New)) → P (offer_point_of head)
offer_point_cases P None compares shades = compares refl
offer_point_cases P (Some f) compares shades = shades refl

whole : (o : Option ℕ) → IsSome o → o ≡ Some (unwrap_or o 0)
whole None some = absurd (cc)
whole (Some x) some = refl

module _ (side : Side) (heap : Heap) (state : State) (book : Book) (number : ℕ) (rule : Rule heap state book) (here : number < heap.seats)
    (point : (seat_at state number).point ≡ points.Access (ShadingSide side)) where
  abbrev seat : Seat
  seat = seat_at state number

  abbrev g : Graph
  g = graph_of heap book.history

  abbrev f : ℕ
  f = unwrap_or (register_head (side_register_of seat side)) 0

  fits : SeatIsAtCas seat × (has_barrier_of seat ≡ true) × IsSome (register_head (side_register_of seat side))
  fits = rw point at (seat_fits rule number here).way_at_point

  finds : Finds (node_at g book.made) book.made book.owner book.fragments seat
  finds = rw point at (rule.seats_stand number here).names.way

  reads : ReadsSpine heap state.words (node_at g book.made) book.owner book.fragments book.spines book.spine_owner seat
  reads = rw point at (rule.seats_stand number here).names.address

  some_head : register_head (side_register_of seat side) ≡ Some f
  some_head = whole (register_head (side_register_of seat side)) fits.2

  head : KeptHead book.made book.owner book.fragments f
  head = referred_is_kept_head book.made book.owner book.fragments (register_value g number (side_of side seat.command)) f
      (held_value_refers book.made book.owner book.fragments (side_register_of seat side) (register_value g number (side_of side seat.command))
      (registers_hold_values heap state book number rule here (ShadingSide side) point (λ answered. answered) (λ d r awaited. awaited) (side_of side seat.command)) f some_head)

  abbrev coloured : ℕ → Colour
  coloured = with_mark book.colour f

  -- the value is marked then, and so is one that was
  side_marked : IsSideMarked coloured seat side
  side_marked = if_some_of_the_one (IsMarked coloured) (register_head (side_register_of seat side)) f some_head (mark_marks_fragment book.colour f)

  still_marked : (other : Side) → IsSideMarked book.colour seat other → IsSideMarked coloured seat other
  still_marked other = if_some_goes_on (IsMarked book.colour) (IsMarked coloured) (mark_keeps_marked book.colour f) (register_head (side_register_of seat other))

  -- the call goes on at this point
  abbrev shaded_seat : Access → Seat
  shaded_seat next = shading seat seat.shaded (points.Access next)

  abbrev GoesTo : Access → Type 0
  GoesTo next = IsMachine heap (record state { words = words_shaded heap state book number rule here f head.index head.kept head.is; seats = slice_set state.seats number (shaded_seat next) })
      → Keeps heap state (record state { words = words_shaded heap state book number rule here f head.index head.kept head.is; seats = slice_set state.seats number (shaded_seat next) }) book book.begun []

  comes : IsInMarking state.collector → seat.answered ≡ state.collector.phase → IsReachedNow heap state book f
  comes marks answered = holds_of_some (IsReachedNow heap state book) (register_head (side_register_of seat side)) f some_head ((rule.marks_stand.roots number here marks answered).registers (side_of side seat.command))

  reached : IsInMarking state.collector → OfRoots (IsReachedNow heap state book) seat → IsReachedNow heap state book seat.reached
  reached marks roots = roots_hold_at_call (IsReachedNow heap state book) seat (ShadingSide side) point roots

  named : IsNamed heap state book f
  named = by_register number (side_of side seat.command) (held_value_refers book.made book.owner book.fragments (side_register_of seat side) (register_value g number (side_of side seat.command))
      (registers_hold_values heap state book number rule here (ShadingSide side) point (λ answered. answered) (λ d r awaited. awaited) (side_of side seat.command)) f some_head)

  at_next : (next : Access) → Finds (node_at g book.made) book.made book.owner book.fragments (shaded_seat next)
  at_next next = finds_at_point (node_at g book.made) book.made book.owner book.fragments seat seat.loaded next (seat.mine ++ []) finds

  goes_to_replacing : (IsBetween 1 5 (phase book.history) → IsSideMarked coloured seat Expected × IsSideMarked coloured seat New) → GoesTo Replacing
  goes_to_replacing shaded =
      keeps_rule_by_leading_shade heap state book number rule here (ShadingSide side) point (λ answered. answered) (λ d r awaited. awaited) f head fits.1 Replacing (λ s. refl) reads (at_next Replacing)
      (λ making snapped. tt) (λ making on. shaded making) comes reached named

  goes_to_new : (IsBetween 1 5 (phase book.history) → IsSideMarked coloured seat Expected) → GoesTo (ShadingSide New)
  goes_to_new shaded =
      keeps_rule_by_leading_shade heap state book number rule here (ShadingSide side) point (λ answered. answered) (λ d r awaited. awaited) f head fits.1 (ShadingSide New) (λ s. refl) reads (at_next (ShadingSide New))
      (λ making snapped. tt) shaded comes reached named

-- shading the value that it expects keeps the rule
shade_expected_keeps : StepKeeps (points.Access (ShadingSide Expected)) (λ heap number seat. shade_side_move seat Expected)
shade_expected_keeps heap state book number rule here point =
    let seat : Seat = seat_at state number in
    let marked = side_marked Expected heap state book number rule here point in
    offer_point_cases (GoesTo Expected heap state book number rule here point) (register_head (side_register_of seat New))
    (λ none. goes_to_replacing Expected heap state book number rule here point (λ making. (marked, if_some_of_none (IsMarked (coloured Expected heap state book number rule here point)) (register_head (side_register_of seat New)) none)))
    (λ some. goes_to_new Expected heap state book number rule here point (λ making. marked))

-- and so does shading the one that it puts there
shade_new_side_keeps : StepKeeps (points.Access (ShadingSide New)) (λ heap number seat. shade_side_move seat New)
shade_new_side_keeps heap state book number rule here point =
    let seat : Seat = seat_at state number in
    let was : IsBetween 1 5 (phase book.history) → IsSideMarked book.colour seat Expected
    = subst (λ x. IsBetween 1 5 (phase book.history) → WhileAccess (ShadedStands book.colour seat) x) point (rule.seats_stand number here).cycle.flight.shaded in
    goes_to_replacing New heap state book number rule here point
    (λ making. (still_marked New heap state book number rule here point Expected (was making), side_marked New heap state book number rule here point))

pub shade_side_keeps : (side : Side) → StepKeeps (points.Access (ShadingSide side)) (λ heap number seat. shade_side_move seat side)
shade_side_keeps Expected = shade_expected_keeps
shade_side_keeps New = shade_new_side_keeps

side_stays_found : (seat : Seat) (side : Side) → StaysFound seat (after_side seat side)
side_stays_found s Expected = offer_point_cases (λ p. StaysFound s (record s { point = points.Access p })) (register_head (side_register_of s New)) (λ none. record { looks = refl; elsewhere = tt }) (λ some. record { looks = refl; elsewhere = tt })
side_stays_found s New = record { looks = refl; elsewhere = tt }

side_comes_from : (seat : Seat) (side : Side) → ComesFrom (points.Access (ShadingSide side)) (after_side seat side).point
side_comes_from s Expected = offer_point_cases (λ p. ComesFrom (points.Access (ShadingSide Expected)) (points.Access p)) (register_head (side_register_of s New)) (λ none. tt) (λ some. tt)
side_comes_from s New = tt

-- all that is asked of it
pub step_kind_of_shading_side : (side : Side) → StepKind (points.Access (ShadingSide side))
step_kind_of_shading_side side = step_kind_of_way (points.Access (ShadingSide side)) (λ heap number seat. shade_side_move seat side) (λ heap number seat. refl) (λ e. cc e) (λ heap number seat. tt) (λ heap number seat words found. refl) record {
  keeps = shade_side_keeps side;
  stays = λ heap number seat found point_is. side_stays_found seat side;
  comes = λ heap number seat found. side_comes_from seat side;
  words = on_words_of_plain_step (points.Access (ShadingSide side)) (λ heap number seat. shade_side_move seat side) (λ heap number seat. refl) (λ heap number seat is. is) (λ heap number seat low. low)
      (λ heap state book rule number here. spares _ refl (λ word i above below. lower_bit_stays word 32 _ i below));
  found = λ heap state book number stands here point_is. tt;
}
