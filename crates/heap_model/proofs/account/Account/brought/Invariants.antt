use Rattle.std.proofs.Common.{◌≡◌, ◌*◌, ◌≤◌, ◌^◌, sum_by}
use Rattle.std.specs.List.{range_with_len}
use Rattle.heap_model.specs.account.SeatBooks.{account_at}
use Rattle.heap_model.specs.account.Preparing.{brought_by}
use Rattle.heap_model.proofs.account.Account.brought.Given as goal

abbrev pub invariant-loop-seat : goal.invariant-loop-seat
invariant-loop-seat l = (l.sum ≡ sum_by (λ number. brought_by (account_at l.self.seats number)) (range_with_len 0 l.seat)) × (l.sum ≤ 2 ^ 64 * l.seat)
