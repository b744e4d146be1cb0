use Rattle.std.proofs.Common.{◌≡◌, ◌+◌, sum_by, ap, ◌∙◌, sym, arith}
use Rattle.std.specs.List.{range_with_len}
use Rattle.heap_model.specs.account.SeatBooks.{account_at}
use Rattle.heap_model.specs.account.Preparing.{brought_by}
use Rattle.heap_model.proofs.account_lemmas.CycleLemmas.{sum-range-more}
use Rattle.heap_model.proofs.account.Account.brought.Goals as goal

pub loop-seat-preserved : goal.loop-seat-preserved
loop-seat-preserved c =
    let sum : c.loop-seat.sum ≡ sum_by (λ number. brought_by (account_at c.args.self.now.seats number)) (range_with_len 0 c.loop-seat.seat) = c.loop-seat.invariant.0 in (
      ap (λ n. n + c.brought_by-sum.result) sum ∙ ap (λ n. sum_by (λ number. brought_by (account_at c.args.self.now.seats number)) (range_with_len 0 c.loop-seat.seat) + n) c.brought_by-sum.ensures.number
          ∙ sym (sum-range-more (λ number. brought_by (account_at c.args.self.now.seats number)) c.loop-seat.seat),
      omega arith,
    )
