use Rattle.std.proofs.Common.{sym, subst}
use Rattle.heap_model.specs.declared.command.Command.TheVariants.{Cas}
use Rattle.heap_model.specs.calls.SeatReplies.{cas_reply}
use Rattle.mutator_seat.specs.Calls.{MakesCall}
use Rattle.mutator_seat.proofs.Entries.{call_adds_its_entries}
use Rattle.mutator_seat.proofs.Fields.{cas_refused_without_object, cas_refused_past_end, cas_finds_by_swap}
use Rattle.mutator_seat.proofs.seat.commands.SeatSeatCalls.cas.Goals as goal

pub returns-clause-added : goal.returns-clause-added
returns-clause-added g c = call_adds_its_entries c.args.self.now c.reply_to.new.self (Cas c.args.r c.args.i c.args.a c.args.v) (cas_reply c.swapped_of.result) (subst (MakesCall c.args.self.now c.reply_to.new.self (Cas c.args.r c.args.i c.args.a c.args.v)) (sym c.swapped_of.ensures) c.reply_to.ensures.call)

pub returns-clause-no_object : goal.returns-clause-no_object
returns-clause-no_object g c = cas_refused_without_object c.args.self.now c.reply_to.new.self c.args.r c.args.i c.args.a c.args.v c.swapped_of.result (subst (MakesCall c.args.self.now c.reply_to.new.self (Cas c.args.r c.args.i c.args.a c.args.v)) (sym c.swapped_of.ensures) c.reply_to.ensures.call)

pub returns-clause-no_field : goal.returns-clause-no_field
returns-clause-no_field g c = cas_refused_past_end c.args.self.now c.reply_to.new.self c.args.r c.args.i c.args.a c.args.v c.swapped_of.result (subst (MakesCall c.args.self.now c.reply_to.new.self (Cas c.args.r c.args.i c.args.a c.args.v)) (sym c.swapped_of.ensures) c.reply_to.ensures.call)

pub returns-clause-call : goal.returns-clause-call
returns-clause-call g c = subst (MakesCall c.args.self.now c.reply_to.new.self (Cas c.args.r c.args.i c.args.a c.args.v)) (sym c.swapped_of.ensures) c.reply_to.ensures.call

pub returns-clause-found : goal.returns-clause-found
returns-clause-found g c = cas_finds_by_swap c.args.self.now c.reply_to.new.self c.args.r c.args.i c.args.a c.args.v c.swapped_of.result (subst (MakesCall c.args.self.now c.reply_to.new.self (Cas c.args.r c.args.i c.args.a c.args.v)) (sym c.swapped_of.ensures) c.reply_to.ensures.call)
