use Rattle.std.proofs.Common.{refl, sym, subst}
use Rattle.heap_runs.specs.SeatWork.{GoesOn, MayWork}
use Rattle.heap_runs.proofs.CommandsOn.{goes_then}
use Rattle.script_crew.specs.Runs.{clears, with_polls}
use Rattle.script_crew.proofs.Calls.{may_make_front, may_make_behind, clears_of_script, behind_clears}
use Rattle.script_crew.proofs.Running.{is_run}
use Rattle.script_crew.proofs.job_run.run_job.Goals as goal

pub clear_registers-requires-clause-may : goal.clear_registers-requires-clause-may
clear_registers-requires-clause-may g c = may_make_front c.args.seat.now clears (with_polls c.args.job.now.commands.items) clears_of_script c.requires.may

pub make_commands-requires-clause-may : goal.make_commands-requires-clause-may
make_commands-requires-clause-may g c κs within =
    let commands = c.args.job.now.commands.items in
    subst (λ cs. MayWork c.clear_registers.new.seat (with_polls cs)) (sym c.as_slice.ensures.value)
    (may_make_behind c.args.seat.now c.clear_registers.new.seat clears (with_polls commands) (behind_clears (with_polls commands) c.requires.may.each) c.requires.may c.in_ok-clear_registers.ensures)

pub returns-clause-seat : goal.returns-clause-seat
returns-clause-seat g c =
    let made = subst (λ cs. GoesOn 1 c.clear_registers.new.seat c.make_commands.new.seat (with_polls cs)) c.as_slice.ensures.value c.in_ok-make_commands.ensures in
    goes_then 1 c.args.seat.now c.clear_registers.new.seat c.make_commands.new.seat clears (with_polls c.args.job.now.commands.items) c.in_ok-clear_registers.ensures made

pub returns-clause-ran : goal.returns-clause-ran
returns-clause-ran g c =
    let made = subst (λ cs. GoesOn 1 c.clear_registers.new.seat c.make_commands.new.seat (with_polls cs)) c.as_slice.ensures.value c.in_ok-make_commands.ensures in
    is_run c.args.job.now c.args.seat.now c.clear_registers.new.seat c.make_commands.new.seat _ c.in_ok-clear_registers.ensures made refl c.number.ensures c.in_ok-from.ensures c.in_ok-to.ensures
