use Rattle.std.proofs.Common.{codes}
use Rattle.script_text.specs.Words.{heap_line}
use Rattle.heap_queue.specs.QueueText.{queue_preamble}
use Rattle.heap_queue.proofs.WrittenLines.{written_full_is_whole}
use Rattle.heap_queue.proofs.rendering.render_full.Goals as goal

pub returns : goal.returns
returns c =
    written_full_is_whole (codes "queue 1") (heap_line (queue_preamble c.args.heap)) (codes "full need 1 found 0") _ _ _
    c.in_ok-text.ensures.items c.in_ok-push_heap_line.ensures c.in_ok-extend_from_slice.ensures.items
