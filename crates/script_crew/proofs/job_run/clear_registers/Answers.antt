use Rattle.std.proofs.Common.{◌≡◌, ◌+◌, ◌-◌, ◌∷◌, [], ◌++◌, map, sym, ap, subst, ◌∙◌, arith}
use Rattle.std.specs.List.{range_with_len}
use Rattle.std.proofs.lemmas.List.{length-map}
use Rattle.std.proofs.lemmas.List.FromFn.{length-range_with_len, map-range_with_len_more}
use Rattle.heap_model.specs.declared.command.Command.{Command}
use Rattle.heap_model.specs.declared.command.Command.TheVariants.{Nil}
use Rattle.heap_runs.specs.SeatWork.{GoesOn}
use Rattle.heap_runs.proofs.CommandsOn.{goes_then}
use Rattle.script_crew.specs.Runs.{clears}
use Rattle.script_crew.proofs.Calls.{may_make_next}
use Rattle.script_crew.proofs.Running.{none_made}
use Rattle.script_crew.proofs.job_run.clear_registers.Goals as goal

pub loop-d-init : goal.loop-d-init
loop-d-init g c = none_made c.args.seat.now c.requires.may.present

pub make_command-requires-clause-may : goal.make_command-requires-clause-may
make_command-requires-clause-may g c =
    let d = c.loop-d.d in
    may_make_next c.args.seat.now c.loop-d.seat clears (map Nil (range_with_len 1 (d - 1))) (Nil d) c.requires.may c.loop-d.invariant
    (omega (arith, length-map {B = Command} (range_with_len 1 (d - 1)) Nil, length-range_with_len 1 (d - 1), c.loop-d.auto.d, c.loop-d-test.true)) ((omega (arith, c.loop-d.auto.d), omega (arith, c.loop-d-test.true)), λ e. cc e)

pub loop-d-preserved : goal.loop-d-preserved
loop-d-preserved g c =
    let d = c.loop-d.d in
    let before = map Nil (range_with_len 1 (d - 1)) in
    let next : d - 1 + 1 ≡ d + 1 - 1 = omega (arith, c.loop-d.auto.d) in
    let more : before ++ Nil d ∷ [] ≡ map Nil (range_with_len 1 (d + 1 - 1)) = sym (map-range_with_len_more Nil 1 (d - 1) d (omega (arith, c.loop-d.auto.d))) ∙ ap (λ k. map Nil (range_with_len 1 k)) next in
    subst (GoesOn 1 c.args.seat.now c.make_command.new.seat) more (goes_then 1 c.args.seat.now c.loop-d.seat c.make_command.new.seat before (Nil d ∷ []) c.loop-d.invariant c.in_ok-make_command.ensures)

pub returns : goal.returns
returns g c =
    let last : c.loop-d.d - 1 ≡ 15 = omega (arith, c.loop-d-test.false, c.loop-d.auto.d-end) in
    subst (λ k. GoesOn 1 c.args.seat.now c.loop-d.seat (map Nil (range_with_len 1 k))) last c.loop-d.invariant
