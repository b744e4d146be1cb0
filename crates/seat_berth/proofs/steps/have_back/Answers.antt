use Rattle.std.proofs.Common.{◌∙◌, arith}
use Rattle.seat_berth.specs.Views.{owner_by}
use Rattle.seat_berth.proofs.Emptied.{back_with}
use Rattle.seat_berth.proofs.Owning.{allows_try, back_slot, parked_empty}
use Rattle.seat_berth.proofs.steps.have_back.Goals as goal

pub compare_exchange-requires : goal.compare_exchange-requires
compare_exchange-requires c =
    (c.requires.of.table, omega (arith, c.requires.of.words), allows_try c.args.place.now.key c.args.place.now.table_id.slots c.args.token.now.id c.args.token.now.me c.requires.owner c.requires.parked)

pub exchange-slot-requires : goal.exchange-slot-requires
exchange-slot-requires c =
    (c.compare_exchange.ensures.0 ∙ c.requires.of.table, back_slot c.args.token.now.me c.compare_exchange.new.seat.me c.compare_exchange.result (search) c.compare_exchange.ensures.2)

pub returns-clause-back : goal.returns-clause-back
returns-clause-back c = back_with c.args.token.now.me c.compare_exchange.new.seat.me c.exchange-slot.new.seat.me c.in-Some.seat (parked_empty c.args.token.now.id c.args.token.now.me c.requires.owner c.requires.parked) (search) c.exchange-slot.ensures.3 c.compare_exchange.result (search) c.compare_exchange.ensures.2
