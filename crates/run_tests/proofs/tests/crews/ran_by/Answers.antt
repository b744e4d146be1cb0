use Rattle.std.proofs.Common.{refl}
use Rattle.script_crew.proofs.OpenedCrew.{opened_crew}
use Rattle.run_tests.proofs.Opened.{fresh_collector}
use Rattle.run_tests.proofs.tests.crews.ran_by.Goals as goal

pub run_crew-requires-clause-crew : goal.run_crew-requires-clause-crew
run_crew-requires-clause-crew g c κs within =
    let made = c.in_ok-seats in
    let holder = made.collector.holder in
    let fresh = fresh_collector made.collector made.ensures.fresh in
    opened_crew c.args.heap holder made.seats.items made.seats.items made.collector made.ensures.heap made.ensures.numbers made.ensures.each refl fresh
