use Rattle.std.proofs.Common.{sym, subst}
use Rattle.heap_model.specs.declared.command.Command.TheVariants.{Same}
use Rattle.heap_model.specs.calls.SeatReplies.{same_reply}
use Rattle.mutator_seat.specs.Calls.{MakesCall}
use Rattle.mutator_seat.proofs.Entries.{call_adds_its_entries}
use Rattle.mutator_seat.proofs.Fields.{same_where_values_equal}
use Rattle.mutator_seat.proofs.seat.commands.SeatSeatCalls.same.Goals as goal

pub returns-clause-added : goal.returns-clause-added
returns-clause-added g c = call_adds_its_entries c.args.self.now c.reply_to.new.self (Same c.args.a c.args.b) (same_reply c.equal_of.result) (subst (MakesCall c.args.self.now c.reply_to.new.self (Same c.args.a c.args.b)) (sym c.equal_of.ensures) c.reply_to.ensures.call)

pub returns-clause-same : goal.returns-clause-same
returns-clause-same g c = same_where_values_equal c.args.self.now c.reply_to.new.self c.args.a c.args.b c.equal_of.result (subst (MakesCall c.args.self.now c.reply_to.new.self (Same c.args.a c.args.b)) (sym c.equal_of.ensures) c.reply_to.ensures.call)

pub returns-clause-call : goal.returns-clause-call
returns-clause-call g c = subst (MakesCall c.args.self.now c.reply_to.new.self (Same c.args.a c.args.b)) (sym c.equal_of.ensures) c.reply_to.ensures.call
