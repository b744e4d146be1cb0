use Rattle.std.proofs.Common.{◌++◌, ◌∷◌, [], ◌∙◌, codes, map, ap}
use Rattle.script_text.specs.Words.{heap_line}
use Rattle.heap_queue.specs.QueueLines.{call_line, left_in, left_line}
use Rattle.heap_queue.specs.QueueText.{queue_preamble}
use Rattle.heap_queue.proofs.WrittenLines.{written_queue_is_whole}
use Rattle.heap_queue.proofs.rendering.render_queue.Goals as goal

pub returns : goal.returns
returns c =
    let calls = c.args.calls.now in
    written_queue_is_whole (codes "queue 1") (heap_line (queue_preamble c.args.heap)) (left_line (left_in calls)) (codes "end used 0") (map call_line calls) _ _ _ _ _
    c.in_ok-text.ensures.items c.in_ok-push_heap_line.ensures c.in_ok-push_calls.ensures (c.in_ok-push_left.ensures ∙ ap (λ n. c.push_calls.new.text.items ++ (left_line n ++ 10 ∷ [])) c.left_in.ensures) c.in_ok-extend_from_slice.ensures.items
