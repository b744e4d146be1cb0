use Rattle.std.proofs.Common.{sym, subst}
use Rattle.heap_model.specs.declared.command.Command.TheVariants.{New}
use Rattle.heap_model.specs.calls.SeatReplies.{record_reply}
use Rattle.mutator_seat.specs.Calls.{MakesCall}
use Rattle.mutator_seat.proofs.Entries.{call_adds_its_entries, record_gets_next_id, refused_record_lacks_fragments}
use Rattle.mutator_seat.proofs.seat.commands.SeatSeatCalls.new_record.Goals as goal

pub returns-clause-added : goal.returns-clause-added
returns-clause-added g c = call_adds_its_entries c.args.self.now c.reply_to.new.self (New c.args.d c.args.fields) (record_reply c.record_of.result) (subst (MakesCall c.args.self.now c.reply_to.new.self (New c.args.d c.args.fields)) (sym c.record_of.ensures) c.reply_to.ensures.call)

pub returns-clause-made : goal.returns-clause-made
returns-clause-made g c = record_gets_next_id c.args.self.now c.reply_to.new.self c.args.d c.args.fields c.record_of.result (subst (MakesCall c.args.self.now c.reply_to.new.self (New c.args.d c.args.fields)) (sym c.record_of.ensures) c.reply_to.ensures.call)

pub returns-clause-full : goal.returns-clause-full
returns-clause-full g c = refused_record_lacks_fragments c.args.self.now c.reply_to.new.self c.args.d c.args.fields c.record_of.result (subst (MakesCall c.args.self.now c.reply_to.new.self (New c.args.d c.args.fields)) (sym c.record_of.ensures) c.reply_to.ensures.call)

pub returns-clause-call : goal.returns-clause-call
returns-clause-call g c = subst (MakesCall c.args.self.now c.reply_to.new.self (New c.args.d c.args.fields)) (sym c.record_of.ensures) c.reply_to.ensures.call
