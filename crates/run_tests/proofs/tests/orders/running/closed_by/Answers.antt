use Rattle.std.proofs.Common.{◌<◌, ◌≤◌, List, [], Vec, Global, length, map, refl, ◌∙◌, arith}
use Rattle.std.specs.Prelude.{All}
use Rattle.std.proofs.lemmas.List.{length-map}
use Rattle.std.proofs.lemmas.List.Elements.{All-map}
use Rattle.heap_model.specs.declared.command.Command.{Command}
use Rattle.heap_runs.specs.SeatWork.{IsOfScript}
use Rattle.heap_runs.proofs.OpenedSeats.{seats_may_run}
use Rattle.run_tests.proofs.Opened.{fresh_collector}
use Rattle.run_tests.proofs.tests.orders.running.closed_by.Goals as goal

-- the commands in a list of them
abbrev items : Vec Command Global → List Command
items script = script.items

pub run_seats-requires-clause-may : goal.run_seats-requires-clause-may
run_seats-requires-clause-may g c κs within =
    let made = c.in_ok-seats in
    let holder = made.collector.holder in
    let fresh = fresh_collector made.collector made.ensures.fresh in
    let scripts = c.args.scripts.now in
    let lists = map items scripts in
    let many = length-map scripts items ∙ c.requires.seated in
    let shorts = All-map (λ (l : List Command). length l ≤ 20) items scripts c.requires.short in
    let eaches = All-map (λ (l : List Command). All IsOfScript l) items scripts c.requires.each in
    seats_may_run c.args.heap lists holder made.seats.items made.ensures.heap made.ensures.numbers made.ensures.each made.seats.items made.collector refl fresh many
    (λ number below.
    let there : number < length lists = omega (arith, below, many) in
    (omega (arith, shorts number [] there), eaches number [] there))
