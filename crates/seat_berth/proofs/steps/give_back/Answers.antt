use Rattle.std.proofs.Common.{◌∙◌, arith}
use Rattle.seat_berth.specs.Views.{helper_by}
use Rattle.seat_berth.proofs.Helping.{allows_give, filled_by_helper}
use Rattle.seat_berth.proofs.steps.give_back.Goals as goal

pub store-requires : goal.store-requires
store-requires c =
    let of = c.requires.of in
    let may = c.requires.may in (
      c.exchange-slot.ensures.0 ∙ of.table,
      omega (arith, of.words),
      allows_give c.args.place.now.key c.args.place.now.table_id.slots c.exchange-slot.new.seat.id c.exchange-slot.new.seat.me (helper_by c.args.token.now.me.0) may.taken c.args.seat
          (c.exchange-slot.ensures.3 ∙ filled_by_helper c.args.token.now.me c.args.seat may.knows) may.has may.answered of.slots,
    )
