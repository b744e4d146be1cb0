use Rattle.script_text.proofs.Texts.{GivesOnly-from_read}
use Rattle.heap_queue.specs.QueueText.{IsQueueText, first_queue_fault}
use Rattle.heap_queue.proofs.QueueTexts.{first_queue_fault-none, same_queue_script}
use Rattle.heap_queue.proofs.queue_script.read_queue.Goals as goal

pub returns-clause-only : goal.returns-clause-only
returns-clause-only c =
    let text = c.args.text.now in
    GivesOnly-from_read (IsQueueText text) (first_queue_fault text) _ (same_queue_script text) (first_queue_fault-none text) c.read.ensures.found c.read.ensures.fault
