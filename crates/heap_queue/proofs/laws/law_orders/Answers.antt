-- That every legal order of a queue's logs is one of its histories, and that these logs go on by whole calls.
use Rattle.heap_queue.proofs.QueueLaws.{orders_are_histories}
use Rattle.heap_queue.proofs.WholeCalls.{calls_lead_on}
use Rattle.heap_queue.proofs.laws.law_orders.Goals as goal

pub returns-clause-orders : goal.returns-clause-orders
returns-clause-orders c = orders_are_histories

pub returns-clause-calls : goal.returns-clause-calls
returns-clause-calls c = calls_lead_on
