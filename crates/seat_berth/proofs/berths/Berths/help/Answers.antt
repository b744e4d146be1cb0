use Rattle.std.proofs.Common.{◌≡◌, ◌<◌, List, length, set, subst, sym, rules}
use Rattle.seat_berth.specs.Berths.{HelpsOne}
use Rattle.seat_berth.specs.Parties.{HelperSeen}
use Rattle.seat_berth.proofs.InPlace.{still_in_place, helps_one}
use Rattle.seat_berth.proofs.berths.Berths.help.Goals as goal

pub invariant_of-self : goal.invariant_of-self
invariant_of-self c = still_in_place 0 c.self.inside.helpers.items c.from-place.result c.index_mut.result.now c.help.new.self c.self.invariant c.index_mut.ensures.value c.help.ensures.same.1

pub returns : goal.returns
returns c =
    let berths = c.self.inside.helpers.items in
    let within : c.from-place.result < length c.self.inside.helpers.items = search rules in
    let at_place = helps_one berths c.from-place.result c.index_mut.result.now c.help.new.self c.help.result c.self.invariant c.index_mut.ensures.value within c.help.ensures.helps in
    subst (λ number. HelpsOne c.args.self.now (set berths c.from-place.result c.help.new.self) number c.help.result) c.from-place.ensures
    (subst (λ (l : List HelperSeen). HelpsOne l (set berths c.from-place.result c.help.new.self) c.from-place.result c.help.result) c.self.view_is at_place)
