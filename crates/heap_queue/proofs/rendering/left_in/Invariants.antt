use Rattle.std.proofs.Common.{◌≡◌, ◌≤◌, take, count_by}
use Rattle.heap_queue.specs.QueueLines.{has_put, has_taken}
use Rattle.heap_queue.proofs.rendering.left_in.Given as goal

-- the counts so far
abbrev pub invariant-loop-call : goal.invariant-loop-call
invariant-loop-call l = record {
  puts : l.puts ≡ count_by (λ call. has_put call.told) (take l.call-index l.calls);
  takes : l.takes ≡ count_by (λ call. has_taken call.told) (take l.call-index l.calls);
  few_puts : l.puts ≤ l.call-index;
  few_takes : l.takes ≤ l.call-index;
}
