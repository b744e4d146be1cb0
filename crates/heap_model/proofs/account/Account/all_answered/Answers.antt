use Rattle.std.proofs.Common.{rules, arith, ap}
use Rattle.heap_model.specs.account.Books.{Books}
use Rattle.heap_model.proofs.account_lemmas.Telling.{answered_in_history, up_to_date_in_books}
use Rattle.heap_model.proofs.account.Account.all_answered.Goals as goal

pub returns-then-not-has_answered : goal.returns-then-not-has_answered
returns-then-not-has_answered c history t =
    (λ w. absurd (cc w), λ all. absurd (cc (c.has_answered.ensures.1 (up_to_date_in_books c.args.self.now history c.loop-seat.seat t (omega (arith, ap (λ (b : Books). b.heap.seats) c.self.view_is)) (all c.loop-seat.seat (omega (arith, ap (λ (b : Books). b.heap.seats) c.self.view_is)))))))

pub returns : goal.returns
returns c history t = (λ w number lt present. answered_in_history c.args.self.now history number t lt (c.loop-seat.invariant number (omega (arith, ap (λ (b : Books). b.heap.seats) c.self.view_is))) present, λ all. search rules)
