use Rattle.std.proofs.Common.{ℕ, ◌<◌}
use Rattle.heap_model.specs.account.Books.{IsUpToDate}
use Rattle.heap_model.proofs.account.Account.all_answered.Given as goal

abbrev pub invariant-loop-seat : goal.invariant-loop-seat
invariant-loop-seat l = (number : ℕ) → number < l.seat → IsUpToDate l.self number
