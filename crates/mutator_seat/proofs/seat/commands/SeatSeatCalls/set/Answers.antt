use Rattle.std.proofs.Common.{sym, subst}
use Rattle.heap_model.specs.declared.command.Command.TheVariants.{Set}
use Rattle.heap_model.specs.calls.SeatReplies.{set_reply}
use Rattle.mutator_seat.specs.Calls.{MakesCall}
use Rattle.mutator_seat.proofs.Entries.{call_adds_its_entries}
use Rattle.mutator_seat.proofs.Fields.{set_refused_without_object, set_refused_past_end}
use Rattle.mutator_seat.proofs.seat.commands.SeatSeatCalls.set.Goals as goal

pub returns-clause-added : goal.returns-clause-added
returns-clause-added g c = call_adds_its_entries c.args.self.now c.reply_to.new.self (Set c.args.r c.args.i c.args.v) (set_reply c.stamp_of.result) (subst (MakesCall c.args.self.now c.reply_to.new.self (Set c.args.r c.args.i c.args.v)) (sym c.stamp_of.ensures) c.reply_to.ensures.call)

pub returns-clause-no_object : goal.returns-clause-no_object
returns-clause-no_object g c = set_refused_without_object c.args.self.now c.reply_to.new.self c.args.r c.args.i c.args.v c.stamp_of.result (subst (MakesCall c.args.self.now c.reply_to.new.self (Set c.args.r c.args.i c.args.v)) (sym c.stamp_of.ensures) c.reply_to.ensures.call)

pub returns-clause-no_field : goal.returns-clause-no_field
returns-clause-no_field g c = set_refused_past_end c.args.self.now c.reply_to.new.self c.args.r c.args.i c.args.v c.stamp_of.result (subst (MakesCall c.args.self.now c.reply_to.new.self (Set c.args.r c.args.i c.args.v)) (sym c.stamp_of.ensures) c.reply_to.ensures.call)

pub returns-clause-call : goal.returns-clause-call
returns-clause-call g c = subst (MakesCall c.args.self.now c.reply_to.new.self (Set c.args.r c.args.i c.args.v)) (sym c.stamp_of.ensures) c.reply_to.ensures.call
