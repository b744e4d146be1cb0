-- The laws of the queue.
use Rattle.heap_queue.proofs.QueueLaws.{effects_are_legal, each_finds_queue, agains_are_foreign, each_is_done_alone}
use Rattle.heap_queue.proofs.laws.law_queue.Goals as goal

pub returns-clause-legal : goal.returns-clause-legal
returns-clause-legal c = effects_are_legal

pub returns-clause-found : goal.returns-clause-found
returns-clause-found c = each_finds_queue

pub returns-clause-foreign : goal.returns-clause-foreign
returns-clause-foreign c = agains_are_foreign

pub returns-clause-alone : goal.returns-clause-alone
returns-clause-alone c = each_is_done_alone
