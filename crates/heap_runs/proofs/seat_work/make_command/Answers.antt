use Rattle.std.proofs.Common.{[], ◌∷◌, sym, subst}
use Rattle.heap_model.specs.declared.command.Command.{Command}
use Rattle.heap_runs.specs.SeatWork.{GoesOn}
use Rattle.heap_runs.proofs.CommandsOn.{goes_on_after_collect}
use Rattle.heap_runs.proofs.seat_work.make_command.Goals as goal

pub returns-in-Collect : goal.returns-in-Collect
returns-in-Collect g c =
    subst (λ (command : Command). GoesOn c.args.patience c.args.seat.now c.collect_call.new.seat (command ∷ [])) (sym c.in-Collect.is)
    (goes_on_after_collect c.args.patience c.args.seat.now c.collect_call.new.seat c.in_ok-collect_call.field-0 c.in_ok-collect_call.ensures.answers c.requires.may.present)
