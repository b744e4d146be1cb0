use Rattle.std.proofs.Common.{◌≡◌, take}
use Rattle.std.specs.List.{filter}
use Rattle.heap_model.specs.account.Noting.{is_collectors}
use Rattle.library_tests.proofs.tests.merges.collector_log.Given as goal

abbrev pub invariant-loop-entry : goal.invariant-loop-entry
invariant-loop-entry l = l.log.items ≡ filter is_collectors (take l.entry-index l.entries)
