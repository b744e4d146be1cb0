use Rattle.std.proofs.Common.{◌≡◌, map}
use Rattle.std.specs.List.{filter, range_with_len}
use Rattle.heap_model.specs.account.Effects.{is_of}
use Rattle.library_tests.proofs.tests.merges.logs_of.Given as goal

abbrev pub invariant-loop-number : goal.invariant-loop-number
invariant-loop-number l = map (λ log. log.items) l.logs.items ≡ map (λ number. filter (is_of number) l.entries) (range_with_len 0 l.number)
