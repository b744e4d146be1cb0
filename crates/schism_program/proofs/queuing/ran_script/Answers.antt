use Rattle.std.proofs.Common.{List, Vec, Global, length, map, ap, subst, sym, ◌∙◌}
use Rattle.std.specs.Prelude.{All}
use Rattle.std.proofs.lemmas.Result.{IfOk-weaker}
use Rattle.collector_turns.specs.Collector.{CollectorValue}
use Rattle.heap_queue.specs.declared.queue_command.QueueCommand.{QueueCommand}
use Rattle.heap_queue.specs.Running.{IsQueueScript}
use Rattle.heap_queue.proofs.OpenedQueue.{opened_queue}
use Rattle.heap_queue.proofs.ScriptLines.{length-seat_scripts}
use Rattle.schism_program.proofs.QueueRuns.{board_of_queue, opened_has_run}
use Rattle.schism_program.proofs.queuing.ran_script.Goals as goal

-- the commands in a list of them
abbrev items : Vec QueueCommand Global → List QueueCommand
items script = script.items

pub run_queue-requires-clause-may : goal.run_queue-requires-clause-may
run_queue-requires-clause-may g c κs within =
    let script = c.args.script.now in
    let made = c.in_ok-holders in
    let same = ap (map items) c.as_slice.ensures.value in
    opened_queue script.heap made.collector made.holders.items c.in_ok-seats.seats.items c.make-2.result (map items c.as_slice.result.now) made.ensures.heap made.ensures.numbers made.ensures.each c.in_ok-seats.ensures c.make-2.ensures
    (ap (length {A = List QueueCommand}) (same ∙ c.in_ok-scripts.ensures.told) ∙ length-seat_scripts script) (subst (All IsQueueScript) (sym same) c.in_ok-scripts.ensures.fit) (board_of_queue script c.requires)

pub returns-clause-ran : goal.returns-clause-ran
returns-clause-ran g c =
    let script = c.args.script.now in
    let made = c.in_ok-holders in
    IfOk-weaker c.run_queue.result _ _
    (λ ran whole. opened_has_run script made.collector c.make-2.result (map items c.as_slice.result.now) ran made.ensures.heap made.ensures.known
    (ap (λ (value : CollectorValue). value.holder) c.make-2.ensures) (ap (map items) c.as_slice.ensures.value ∙ c.in_ok-scripts.ensures.told) whole)
    c.run_queue.ensures.ran
