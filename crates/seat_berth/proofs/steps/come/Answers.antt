use Rattle.std.proofs.Common.{arith}
use Rattle.seat_berth.proofs.Helping.{allows_come}
use Rattle.seat_berth.proofs.steps.come.Goals as goal

pub load_new_seat-token-requires : goal.load_new_seat-token-requires
load_new_seat-token-requires c = (omega (arith, c.requires.words), allows_come c.args.place.now.key c.args.place.now.table_id.slots)
