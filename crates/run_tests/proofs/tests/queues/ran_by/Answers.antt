use Rattle.std.proofs.Common.{◌≡◌, List, Vec, Global, length, map, refl, sym, ap, subst, ◌∙◌}
use Rattle.std.specs.Prelude.{All}
use Rattle.std.proofs.lemmas.Bool.{leb-true}
use Rattle.heap_queue.specs.declared.queue_command.QueueCommand.{QueueCommand}
use Rattle.heap_queue.specs.Running.{IsQueueScript}
use Rattle.heap_queue.proofs.OpenedQueue.{opened_queue}
use Rattle.heap_queue.proofs.ScriptLines.{length-seat_scripts}
use Rattle.run_tests.proofs.Opened.{fresh_collector}
use Rattle.run_tests.proofs.tests.queues.ran_by.Goals as goal

pub run_queue-requires-clause-may : goal.run_queue-requires-clause-may
run_queue-requires-clause-may g c κs within =
    let script = c.args.script.now in
    let made = c.in_ok-seats in
    let holder = made.collector.holder in
    let fresh = fresh_collector made.collector made.ensures.fresh in
    let commands = λ (all : List (Vec QueueCommand Global)). map (λ (one : Vec QueueCommand Global). one.items) all in
    let same : commands c.as_slice.result.now ≡ commands c.in_ok-scripts.scripts.items = ap commands c.as_slice.ensures.value in
    opened_queue script.heap holder made.seats.items made.seats.items made.collector (commands c.as_slice.result.now) made.ensures.heap made.ensures.numbers made.ensures.each refl
    fresh (ap (length {A = List QueueCommand}) (same ∙ c.in_ok-scripts.ensures.told) ∙ length-seat_scripts script) (subst (All IsQueueScript) (sym same) c.in_ok-scripts.ensures.fit)
    (leb-true 2 script.heap.board c.requires.taken)
