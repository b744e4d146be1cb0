use Rattle.mutator_seat.proofs.Replied.{each_reply_is_to_command}
use Rattle.mutator_seat.proofs.seat.Seat.reply_to.Goals as goal

pub returns-clause-kind : goal.returns-clause-kind
returns-clause-kind g c = each_reply_is_to_command c.args.self.now c.call.new.self c.args.command.now c.call.result c.call.ensures
