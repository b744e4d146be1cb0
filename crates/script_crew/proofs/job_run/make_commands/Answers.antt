use Rattle.std.proofs.Common.{◌∷◌, [], ◌++◌, take, get_or, refl, sym, subst, arith}
use Rattle.std.proofs.lemmas.List.{length-append}
use Rattle.heap_model.specs.declared.command.Command.TheVariants.{New, Poll}
use Rattle.heap_runs.specs.SeatWork.{GoesOn}
use Rattle.heap_runs.proofs.CommandsOn.{goes_then}
use Rattle.script_crew.specs.Runs.{with_polls}
use Rattle.script_crew.proofs.Calls.{may_make_next, polled_at, polls_left, polls_more}
use Rattle.script_crew.proofs.Running.{none_made}
use Rattle.script_crew.proofs.job_run.make_commands.Goals as goal

pub loop-command-init : goal.loop-command-init
loop-command-init g c = none_made c.args.seat.now c.requires.may.present

pub make_command-requires-clause-may : goal.make_command-requires-clause-may
make_command-requires-clause-may g c =
    let commands = c.args.commands.now in
    let k = c.loop-command.command-index in
    may_make_next c.args.seat.now c.loop-command.seat (with_polls commands) (with_polls (take k commands)) _ c.requires.may c.loop-command.invariant (omega (arith, polls_left commands k c.loop-command-test.true))
    (polled_at commands k _ c.loop-command-test.true c.requires.may.each)

pub make_command-requires-in-loop-command-clause-may : goal.make_command-requires-in-loop-command-clause-may
make_command-requires-in-loop-command-clause-may g c =
    let commands = c.args.commands.now in
    let k = c.loop-command.command-index in
    let made = with_polls (take k commands) in
    let command = get_or commands k (New 0 0) in
    let one = goes_then 1 c.args.seat.now c.loop-command.seat c.make_command.new.seat made (command ∷ []) c.loop-command.invariant c.in_ok-make_command.ensures in
    may_make_next c.args.seat.now c.make_command.new.seat (with_polls commands) (made ++ command ∷ []) Poll c.requires.may one (omega (arith, polls_left commands k c.loop-command-test.true, length-append made (command ∷ []))) (tt, λ e. cc e)

pub loop-command-preserved : goal.loop-command-preserved
loop-command-preserved g c =
    let commands = c.args.commands.now in
    let k = c.loop-command.command-index in
    let made = with_polls (take k commands) in
    let one = goes_then 1 c.args.seat.now c.loop-command.seat c.make_command.new.seat made (_ ∷ []) c.loop-command.invariant c.in_ok-make_command.ensures in
    subst (GoesOn 1 c.args.seat.now c.make_command-in-loop-command.new.seat) (sym (polls_more commands k _ _ c.loop-command-test.true refl))
    (goes_then 1 c.args.seat.now c.make_command.new.seat c.make_command-in-loop-command.new.seat (made ++ _ ∷ []) (Poll ∷ []) one c.in_ok-make_command-2.ensures)
