use Rattle.std.proofs.Common.{refl, arith}
use Rattle.heap_runs.proofs.CommandsOn.{goes_on_one_command}
use Rattle.heap_runs.proofs.seat_work.make_all.Goals as goal

pub loop-n-preserved : goal.loop-n-preserved
loop-n-preserved g c =
    goes_on_one_command c.args.patience c.args.seat.now c.loop-n.seat c.make_command.new.seat c.args.script.now c.loop-n.n _ _ (omega arith) refl c.loop-n.invariant c.in_ok-make_command.ensures
