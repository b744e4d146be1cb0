use Rattle.std.proofs.Common.{◌≡◌, List, length, sym, subst, ap, arith}
use Rattle.seat_berth.specs.Berths.{AreInPlace}
use Rattle.seat_berth.specs.Parties.{HelperSeen}
use Rattle.seat_berth.proofs.InPlace.{next_in_place}
use Rattle.seat_berth.proofs.berths.Berths.push.Goals as goal

pub invariant_of-self-2 : goal.invariant_of-self-2
invariant_of-self-2 c =
    let same : length c.self.inside.helpers.items ≡ length c.args.self.now = ap (λ (l : List HelperSeen). length l) c.self.view_is in
    subst (λ (l : List HelperSeen). AreInPlace 0 l) (sym c.in_ok-push.ensures.items)
    (next_in_place 0 c.self.inside.helpers.items c.args.helper c.self.invariant (omega (arith, c.requires, same)))
