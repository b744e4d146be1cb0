use Rattle.heap_runs.proofs.Calling.{callable_is_still_there}
use Rattle.heap_runs.proofs.Standing.{book_stands_for_run}
use Rattle.heap_runs.proofs.machine_heap.MachineHeap.call_run.Goals as goal

pub returns-in_ok-reply-in-Collect-clause-answers : goal.returns-in_ok-reply-in-Collect-clause-answers
returns-in_ok-reply-in-Collect-clause-answers c = record {
  once = λ apart. absurd (apart c.in-Collect.is);
  collects = λ _. c.in_ok-reply-in-Collect.ensures.answers;
}

pub collect-requires : goal.collect-requires
collect-requires c =
    let whole = c.args.self.now in
    record { present = callable_is_still_there whole c.args.seat c.args.command.now (book_stands_for_run c.law_every_run.ensures.run whole.machine.heap whole.machine.state whole.history c.known.ensures) c.known.ensures c.requires.may }
