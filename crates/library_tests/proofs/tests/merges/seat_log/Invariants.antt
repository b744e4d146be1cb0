use Rattle.std.proofs.Common.{◌≡◌, take}
use Rattle.std.specs.List.{filter}
use Rattle.heap_model.specs.account.Effects.{is_of}
use Rattle.library_tests.proofs.tests.merges.seat_log.Given as goal

abbrev pub invariant-loop-entry : goal.invariant-loop-entry
invariant-loop-entry l = l.log.items ≡ filter (is_of l.number) (take l.entry-index l.entries)
