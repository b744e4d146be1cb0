use Rattle.heap_model.specs.declared.command.Command.TheVariants.{Num}
use Rattle.heap_model.specs.declared.reply.Reply.TheVariants.{Done}
use Rattle.mutator_seat.proofs.Entries.{call_adds_its_entries}
use Rattle.mutator_seat.proofs.Replied.{done_call_is_made}
use Rattle.mutator_seat.proofs.seat.commands.SeatSeatCalls.num.Goals as goal

pub returns-clause-added : goal.returns-clause-added
returns-clause-added g c = call_adds_its_entries c.args.self.now c.call.new.self (Num c.args.d c.args.n) Done (done_call_is_made c.args.self.now c.call.new.self (Num c.args.d c.args.n) c.call.result tt c.call.ensures)

pub returns-clause-call : goal.returns-clause-call
returns-clause-call g c = done_call_is_made c.args.self.now c.call.new.self (Num c.args.d c.args.n) c.call.result tt c.call.ensures
