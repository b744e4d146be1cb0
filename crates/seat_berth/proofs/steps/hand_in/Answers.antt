use Rattle.std.proofs.Common.{◌∙◌, arith}
use Rattle.seat_berth.specs.Views.{owner_by}
use Rattle.seat_berth.proofs.Owning.{allows_park, filled_by_owner}
use Rattle.seat_berth.proofs.steps.hand_in.Goals as goal

pub store-requires : goal.store-requires
store-requires c =
    let of = c.requires.of in (
      c.exchange-slot.ensures.0 ∙ of.table,
      omega (arith, of.words),
      allows_park c.args.place.now.key c.args.place.now.table_id.slots c.exchange-slot.new.seat.id (c.exchange-slot.ensures.1 ∙ c.requires.owner.first)
          c.exchange-slot.new.seat.me (owner_by c.args.token.now.me.0) c.args.seat (c.exchange-slot.ensures.3 ∙ filled_by_owner c.args.token.now.id c.args.token.now.me c.args.seat c.requires.owner c.requires.away)
          c.requires.away c.requires.home of.slots,
    )
