use Rattle.std.proofs.Common.{◌≡◌, ◌+◌, count_by, drop}
use Rattle.log_merge.specs.declared.merging.pending_gets.PendingGet.{PendingGet}
use Rattle.log_merge.specs.PendingGets.{is_kind, pending_count}
use Rattle.log_merge.specs.Registers.{gets_in, opening_registers}
use Rattle.log_merge.proofs.merging.pending_gets.PendingGets.add_log.Given as goal

abbrev pub invariant-loop-entry : goal.invariant-loop-entry
invariant-loop-entry l = (kind : PendingGet) → pending_count l.self kind + count_by (is_kind kind) (gets_in l.registers.values (drop l.entry-index l.log))
    ≡ pending_count l.initial.self kind + count_by (is_kind kind) (gets_in opening_registers l.log)
