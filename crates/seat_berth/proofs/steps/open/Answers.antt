use Rattle.std.proofs.Common.{arith}
use Rattle.seat_berth.proofs.Owning.{allows_open}
use Rattle.seat_berth.proofs.steps.open.Goals as goal

pub store-requires : goal.store-requires
store-requires c = (c.requires.of.table, omega (arith, c.requires.of.words), allows_open c.args.place.now.key c.args.place.now.table_id.slots c.args.token.now.id c.requires.first.0 c.args.token.now.me c.requires.first.1)
