-- A queue's seats, which are handed the scripts of a text, run it on the table that opened.
use Rattle.std.proofs.Common.{◌≡◌, ◌≤◌, List, ap, subst, ◌∙◌}
use Rattle.std.proofs.lemmas.Bool.{leb-true}
use Rattle.heap_table.specs.CollectorHeld.{CollectorHeld}
use Rattle.heap_table.specs.Known.{CollectorKnown, opening_known}
use Rattle.collector_turns.specs.Collector.{CollectorValue}
use Rattle.heap_queue.specs.declared.queue_command.QueueCommand.{QueueCommand}
use Rattle.heap_queue.specs.declared.queue_run.QueueRan.{QueueRan}
use Rattle.heap_queue.specs.declared.queue_script.QueueScript.{QueueScript}
use Rattle.heap_queue.specs.RunText.{HasRunQueue}
use Rattle.heap_queue.specs.Running.{IsQueueRan}
use Rattle.heap_queue.specs.SeatScripts.{IsOfQueue, seat_scripts}

-- the board has room for the queue's ends
pub board_of_queue : (script : QueueScript) → IsOfQueue script → 2 ≤ script.heap.board
board_of_queue script is = leb-true 2 script.heap.board is.taken

-- what was run is run on the table that was made
pub opened_has_run : (script : QueueScript) (made : CollectorHeld) (collector : CollectorValue) (scripts : List (List QueueCommand)) (ran : QueueRan) → made.heap ≡ script.heap
    → made.known ≡ record (opening_known script.heap) { handed = script.heap.seats } → collector.holder ≡ made → scripts ≡ seat_scripts script → IsQueueRan scripts collector ran → HasRunQueue script.heap (seat_scripts script) ran
opened_has_run script made collector scripts ran heap_is known_is holder_is same whole = record {
  collector = collector;
  of_heap = ap (λ (h : CollectorHeld). h.heap) holder_is ∙ heap_is;
  opened = ap (λ (h : CollectorHeld). h.known.collector.log) holder_is ∙ ap (λ (known : CollectorKnown). known.collector.log) known_is;
  whole = subst (λ (l : List (List QueueCommand)). IsQueueRan l collector ran) same whole;
}
