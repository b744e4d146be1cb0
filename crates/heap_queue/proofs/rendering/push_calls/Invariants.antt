use Rattle.std.proofs.Common.{◌≡◌, ◌++◌, map, take}
use Rattle.script_text.specs.Text.{text_of}
use Rattle.heap_queue.specs.QueueLines.{call_line}
use Rattle.heap_queue.proofs.rendering.push_calls.Given as goal

-- the lines so far
abbrev pub invariant-loop-call : goal.invariant-loop-call
invariant-loop-call l = l.text.items ≡ l.initial.text.items ++ text_of (map call_line (take l.call-index l.calls))
