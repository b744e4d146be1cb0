use Rattle.std.proofs.Common.{sym, subst}
use Rattle.heap_model.specs.declared.command.Command.TheVariants.{Array}
use Rattle.heap_model.specs.calls.SeatReplies.{array_reply}
use Rattle.mutator_seat.specs.Calls.{MakesCall}
use Rattle.mutator_seat.proofs.Entries.{call_adds_its_entries, array_gets_next_id, refused_array_lacks_space}
use Rattle.mutator_seat.proofs.seat.commands.SeatSeatCalls.new_array.Goals as goal

pub returns-clause-added : goal.returns-clause-added
returns-clause-added g c = call_adds_its_entries c.args.self.now c.reply_to.new.self (Array c.args.d c.args.cells) (array_reply c.array_of.result) (subst (MakesCall c.args.self.now c.reply_to.new.self (Array c.args.d c.args.cells)) (sym c.array_of.ensures) c.reply_to.ensures.call)

pub returns-clause-made : goal.returns-clause-made
returns-clause-made g c = array_gets_next_id c.args.self.now c.reply_to.new.self c.args.d c.args.cells c.array_of.result (subst (MakesCall c.args.self.now c.reply_to.new.self (Array c.args.d c.args.cells)) (sym c.array_of.ensures) c.reply_to.ensures.call)

pub returns-clause-full : goal.returns-clause-full
returns-clause-full g c = refused_array_lacks_space c.args.self.now c.reply_to.new.self c.args.d c.args.cells c.array_of.result (subst (MakesCall c.args.self.now c.reply_to.new.self (Array c.args.d c.args.cells)) (sym c.array_of.ensures) c.reply_to.ensures.call)

pub returns-clause-call : goal.returns-clause-call
returns-clause-call g c = subst (MakesCall c.args.self.now c.reply_to.new.self (Array c.args.d c.args.cells)) (sym c.array_of.ensures) c.reply_to.ensures.call
