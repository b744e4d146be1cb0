-- A seat without a call in flight has nothing of one, so the end of a call that left it so need write nothing there.
use Rattle.std.proofs.Common.{◌≡◌, sym, subst}
use Rattle.core_machine.proofs.Terms.{Heap, Seat}
use Rattle.core_machine.specs.declared.point.Point.TheVariants.{Idle}
use Rattle.core_machine.specs.seat.Fits.{Fits, FitsAnswer, FitsPoint, FitsWay, IsAtRest, IsSilent}
use Rattle.core_machine.specs.seat.FitsAccess.{IsNowhere}
use Rattle.core_machine.specs.seat.Seat.{HasNoCall}

-- a seat that fits together and stands nowhere in a call has nothing of one
pub rest_is_over : (heap : Heap) (seat : Seat) → Fits heap seat → seat.point ≡ Idle → HasNoCall seat
rest_is_over heap seat fits idle =
    let rest : IsAtRest seat = subst (FitsPoint heap seat) idle fits.at_point in
    let way : IsNowhere seat = subst (FitsWay seat) idle fits.way_at_point in
    let silent : IsSilent seat = subst (FitsAnswer seat) idle fits.answer_at_point in
    sym (λ i. record seat {
      hand = rest.empty_hand i;
      body = rest.no_body i;
      stored = rest.none_stored i;
      tried = rest.none_tried i;
      given = rest.none_given i;
      used = rest.no_spine.none_used i;
      spine = rest.no_spine.no_place i;
      listed = rest.no_spine.none_listed i;
      point = idle i;
      reached = way.none_reached i;
      links = way.no_links i;
      part = way.no_part i;
      address = way.no_address i;
      loaded = way.none_loaded i;
      asked = silent.none_asked i;
      shaded = silent.none_shaded i;
    })
