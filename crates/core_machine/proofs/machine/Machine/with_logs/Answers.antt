use Rattle.core_machine.proofs.machine_lemmas.Opens.{opened_is_machine}
use Rattle.core_machine.proofs.machine.Machine.with_logs.Goals as goal

pub invariant_of-result : goal.invariant_of-result
invariant_of-result g c =
    opened_is_machine c.args.heap c.in_ok-words.words.items _ c.opening.result.collector c.requires c.in_ok-words.ensures.length c.in_ok-words.ensures.wide c.in_ok-words.ensures.open c.in_ok-seats.ensures c.opening.ensures.collector
