use Rattle.std.proofs.Common.{◌≡◌, ◌+◌, true, length, All, IfOk}
use Rattle.locked_heap.specs.declared.progress.Progress.{Progress}
use Rattle.locked_heap.proofs.working.work_seats.Given as goal

-- those whose answers were looked at have left, and so have the others that don't lack memory
abbrev pub invariant-loop-progress : goal.invariant-loop-progress
invariant-loop-progress g l = record {
  each_once : length l.came.items + length l.progress-iterator.rest.items ≡ length l.initial.progress-iterator.rest.items;
  gone : All (λ (progress : Progress). progress.gone ≡ true) l.came.items;
  others : All (λ came. IfOk came (λ (progress : Progress). progress.gone ≡ true)) l.progress-iterator.rest.items;
}
