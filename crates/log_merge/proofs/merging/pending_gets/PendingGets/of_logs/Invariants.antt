use Rattle.std.proofs.Common.{◌≡◌, count_by, map, sum_by, take}
use Rattle.log_merge.specs.declared.merging.pending_gets.PendingGet.{PendingGet}
use Rattle.log_merge.specs.PendingGets.{is_kind, pending_count}
use Rattle.log_merge.specs.Registers.{gets_in, opening_registers}
use Rattle.log_merge.proofs.merging.pending_gets.PendingGets.of_logs.Given as goal

abbrev pub invariant-loop-log : goal.invariant-loop-log
invariant-loop-log l = (kind : PendingGet) → pending_count l.gets kind ≡ sum_by (λ log. count_by (is_kind kind) (gets_in opening_registers log)) (map (λ log. log.items) (take l.log-index l.logs))
