use Rattle.std.proofs.Common.{sym, subst}
use Rattle.heap_model.specs.declared.command.Command.TheVariants.{Poll}
use Rattle.heap_model.specs.declared.reply.Reply.TheVariants.{Phase}
use Rattle.mutator_seat.specs.Calls.{MakesCall}
use Rattle.mutator_seat.proofs.Entries.{call_adds_its_entries}
use Rattle.mutator_seat.proofs.seat.commands.SeatSeatCalls.poll.Goals as goal

pub returns-clause-added : goal.returns-clause-added
returns-clause-added g c = call_adds_its_entries c.args.self.now c.reply_to.new.self Poll (Phase c.phase_of.result) (subst (MakesCall c.args.self.now c.reply_to.new.self Poll) (sym c.phase_of.ensures) c.reply_to.ensures.call)

pub returns-clause-call : goal.returns-clause-call
returns-clause-call g c = subst (MakesCall c.args.self.now c.reply_to.new.self Poll) (sym c.phase_of.ensures) c.reply_to.ensures.call
