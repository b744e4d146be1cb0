-- What the seats have when a cycle begins, they bring into it.
use Rattle.std.proofs.Common.{◌≡◌, ℕ, zero, suc, ◌+◌, ◌<◌, ◌≤◌, List, ap, sym, ◌∙◌, arith, cond, sum_by}
use Rattle.std.specs.List.{range_with_len}
use Rattle.core_rule.proofs.Terms.{brings, all_bring, effect_of, is_of, taken_of, spent_of, is_reply_to, Entry, Heap, sum_upto}
use Rattle.heap_model.proofs.account_lemmas.CycleLemmas.{sum-range-more}
use Rattle.heap_model.proofs.account_lemmas.Windows.{sum_of_window_sections}
use Rattle.core_machine.proofs.table_lemmas.Free.{sum_upto-none}
use Rattle.core_rule.proofs.lists.SumLemmas.{sum-suc, sum_le}

-- a sum over the first numbers, as a list and by counting up
pub range_sum_is_counted_sum : (n : ℕ) (f : ℕ → ℕ) → sum_by f (range_with_len 0 n) ≡ sum_upto n f
range_sum_is_counted_sum zero f = sym (sum_upto-none f)
range_sum_is_counted_sum (suc n) f =
    let one : suc n ≡ n + 1 = omega arith in
    ap (λ k. sum_by f (range_with_len 0 k)) one ∙ sum-range-more f n ∙ ap (λ s. s + f n) (range_sum_is_counted_sum n f) ∙ sym (sum-suc n f)

-- what a seat has taken and not spent, it brings
brings_unspent : (number own : ℕ) (history : List Entry) → own + spent_of number history ≡ taken_of number history → own ≤ brings number history
brings_unspent number own history has =
    let taken = sum_of_window_sections (is_reply_to number) (λ e. cond (is_of number e) (effect_of e).taken 0) history in
    let given = sum_of_window_sections (is_reply_to number) (λ e. cond (is_of number e) (effect_of e).given 0) history in
    let born = sum_of_window_sections (is_reply_to number) (λ e. cond (is_of number e) (effect_of e).born 0) history in
    omega (arith, has, taken, given, born)

module _ (heap : Heap) (history : List Entry) (own : ℕ → ℕ) (has : (q : ℕ) → q < heap.seats → own q + spent_of q history ≡ taken_of q history) where
  -- and so all do
  pub own_sum_within_all_bring : sum_upto heap.seats own ≤ all_bring heap history
  own_sum_within_all_bring =
      let each : sum_upto heap.seats own ≤ sum_upto heap.seats (λ q. brings q history) = sum_le heap.seats own (λ q. brings q history) (λ q below. brings_unspent q (own q) history (has q below)) in
      omega (arith, each, range_sum_is_counted_sum heap.seats (λ q. brings q history))
