use Rattle.std.proofs.Common.{ap}
use Rattle.std.proofs.lemmas.Result.{IfOk-weaker}
use Rattle.collector_turns.specs.Collector.{CollectorValue}
use Rattle.script_crew.proofs.OpenedCrew.{opened_crew}
use Rattle.schism_program.proofs.CrewRuns.{opened_has_run}
use Rattle.schism_program.proofs.crewing.ran_jobs.Goals as goal

pub run_crew-requires-clause-crew : goal.run_crew-requires-clause-crew
run_crew-requires-clause-crew g c κs within =
    let made = c.in_ok-holders in
    opened_crew c.args.heap made.collector made.holders.items c.in_ok-seats.seats.items c.make-2.result made.ensures.heap made.ensures.numbers made.ensures.each c.in_ok-seats.ensures c.make-2.ensures

pub returns : goal.returns
returns g c =
    let made = c.in_ok-holders in
    IfOk-weaker c.run_crew.result _ _
    (λ ran whole. opened_has_run c.args.heap made.collector c.make-2.result made.holders.items c.in_ok-seats.seats.items c.args.jobs.now ran made.ensures.heap made.ensures.known made.ensures.each c.in_ok-seats.ensures
    (ap (λ (value : CollectorValue). value.holder) c.make-2.ensures) whole)
    c.run_crew.ensures
