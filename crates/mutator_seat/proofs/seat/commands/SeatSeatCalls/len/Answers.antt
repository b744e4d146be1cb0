use Rattle.std.proofs.Common.{sym, subst}
use Rattle.heap_model.specs.declared.command.Command.TheVariants.{Len}
use Rattle.heap_model.specs.calls.SeatReplies.{len_reply}
use Rattle.mutator_seat.specs.Calls.{MakesCall}
use Rattle.mutator_seat.proofs.Entries.{call_adds_its_entries}
use Rattle.mutator_seat.proofs.Fields.{len_refused_without_object, len_is_own_length}
use Rattle.mutator_seat.proofs.seat.commands.SeatSeatCalls.len.Goals as goal

pub returns-clause-added : goal.returns-clause-added
returns-clause-added g c = call_adds_its_entries c.args.self.now c.reply_to.new.self (Len c.args.r) (len_reply c.length_of.result) (subst (MakesCall c.args.self.now c.reply_to.new.self (Len c.args.r)) (sym c.length_of.ensures) c.reply_to.ensures.call)

pub returns-clause-no_object : goal.returns-clause-no_object
returns-clause-no_object g c = len_refused_without_object c.args.self.now c.reply_to.new.self c.args.r c.length_of.result (subst (MakesCall c.args.self.now c.reply_to.new.self (Len c.args.r)) (sym c.length_of.ensures) c.reply_to.ensures.call)

pub returns-clause-own : goal.returns-clause-own
returns-clause-own g c = len_is_own_length c.args.self.now c.reply_to.new.self c.args.r c.length_of.result (subst (MakesCall c.args.self.now c.reply_to.new.self (Len c.args.r)) (sym c.length_of.ensures) c.reply_to.ensures.call)

pub returns-clause-call : goal.returns-clause-call
returns-clause-call g c = subst (MakesCall c.args.self.now c.reply_to.new.self (Len c.args.r)) (sym c.length_of.ensures) c.reply_to.ensures.call
