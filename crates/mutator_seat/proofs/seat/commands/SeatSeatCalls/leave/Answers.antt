use Rattle.heap_model.specs.declared.command.Command.TheVariants.{Leave}
use Rattle.heap_model.specs.declared.reply.Reply.TheVariants.{Done}
use Rattle.mutator_seat.proofs.Entries.{call_adds_its_entries, left_keeps_nothing}
use Rattle.mutator_seat.proofs.Replied.{done_call_is_made}
use Rattle.mutator_seat.proofs.seat.commands.SeatSeatCalls.leave.Goals as goal

pub returns-clause-added : goal.returns-clause-added
returns-clause-added g c = call_adds_its_entries c.args.self.now c.call.new.self Leave Done (done_call_is_made c.args.self.now c.call.new.self Leave c.call.result tt c.call.ensures)

pub returns-clause-given_back : goal.returns-clause-given_back
returns-clause-given_back g c = left_keeps_nothing c.args.self.now c.call.new.self (done_call_is_made c.args.self.now c.call.new.self Leave c.call.result tt c.call.ensures)

pub returns-clause-call : goal.returns-clause-call
returns-clause-call g c = done_call_is_made c.args.self.now c.call.new.self Leave c.call.result tt c.call.ensures
