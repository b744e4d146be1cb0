use Rattle.std.proofs.Common.{◌≡◌, ℕ, ◌<◌, false, length, slice_index_or}
use Rattle.heap_model.specs.account.Noting.{is_behind_now}
use Rattle.heap_model.proofs.account.Account.behind_now.Given as goal

abbrev pub invariant-loop-seat : goal.invariant-loop-seat
invariant-loop-seat l = (length l.behind ≡ 16) × ((number : ℕ) → number < l.seat → slice_index_or l.behind number false ≡ is_behind_now l.self.all l.self.seats number)
