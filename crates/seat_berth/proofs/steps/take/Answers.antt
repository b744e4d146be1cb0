use Rattle.std.proofs.Common.{◌∙◌, arith, subst, sym}
use Rattle.seat_berth.specs.Views.{helper_by}
use Rattle.seat_berth.proofs.Emptied.{taken_with}
use Rattle.seat_berth.proofs.Helping.{allows_take_of, taken_slot}
use Rattle.seat_berth.proofs.steps.take.Goals as goal

pub compare_exchange-requires : goal.compare_exchange-requires
compare_exchange-requires g c = (
  c.requires.of.table,
  omega (arith, c.requires.of.words),
  allows_take_of g.H.HomeName.home c.args.place.now.key c.requires.home c.args.place.now.table_id.slots c.args.token.now.id c.args.token.now.me (helper_by c.args.token.now.me.0) c.requires.helper.knows c.requires.helper.free,
)

pub exchange-slot-requires : goal.exchange-slot-requires
exchange-slot-requires g c =
    (c.compare_exchange.ensures.0 ∙ c.requires.of.table, taken_slot g.H.HomeName.home c.args.token.now.me c.compare_exchange.new.seat.me c.compare_exchange.result (search) c.compare_exchange.ensures.2)

pub returns-clause-taken : goal.returns-clause-taken
returns-clause-taken g c = taken_with c.args.token.now.me c.compare_exchange.new.seat.me c.exchange-slot.new.seat.me c.in-Some.seat (search) (search) c.exchange-slot.ensures.3 g.H.HomeName.home c.compare_exchange.result (search) c.compare_exchange.ensures.2
