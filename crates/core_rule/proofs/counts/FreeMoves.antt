-- What is free once fragments went to another owner.
use Rattle.std.proofs.Common.{◌≡◌, ℕ, suc, ◌+◌, ◌*◌, ◌/◌, ◌%◌, ◌<◌, ◌≤◌, ◌-◌, List, length, ◌∙◌, subst, arith}
use Rattle.core_rule.proofs.Terms.{Heap, tally, sum_upto, free_in, free_in_all, free_in_passed, Owner, free_bit}
use Rattle.core_machine.proofs.table_lemmas.Free.{sum_of_same_functions, sum_of_nothing_is_zero}
use Rattle.core_rule.proofs.lists.SumLemmas.{sum-suc, sum_le, sum_plus, sum_in_two_summands, sum_blocks, sum_wrapped}
use Rattle.core_rule.proofs.lists.Tallies.{sum_of_tallies_is_length}

-- a sum over more is no less
sum_front : (m k : ℕ) (f : ℕ → ℕ) → sum_upto m f ≤ sum_upto (m + k) f
sum_front m k f = omega (arith, sum_in_two_summands m k f)

module _ (heap : Heap) (owner now : ℕ → Owner) where
  -- where no fragment comes free, no more is free in the groups that were passed
  pub free_in_passed_falls : ((f : ℕ) → free_bit (now f) ≤ free_bit (owner f)) → (cursor tried : ℕ) → free_in_passed heap now cursor tried ≤ free_in_passed heap owner cursor tried
  free_in_passed_falls less cursor tried = sum_le tried (λ j. free_in now ((cursor + j) % heap.groups)) (λ j. free_in owner ((cursor + j) % heap.groups)) (λ j below.
      sum_le 16 (λ i. free_bit (now (16 * ((cursor + j) % heap.groups) + i))) (λ i. free_bit (owner (16 * ((cursor + j) % heap.groups) + i))) (λ i small. less (16 * ((cursor + j) % heap.groups) + i)))

  -- where the same fragments are free, as many are
  pub free_count_same : ((f : ℕ) → free_bit (now f) ≡ free_bit (owner f)) → free_in_all heap now ≡ free_in_all heap owner
  free_count_same same = sum_of_same_functions (16 * heap.groups) (λ f. free_bit (now f)) (λ f. free_bit (owner f)) (λ f below. same f)

  -- where the fragments of a list come free, at most as many more are
  pub free_in_passed_grows_within : (fs : List ℕ) → ((f : ℕ) → free_bit (now f) ≡ free_bit (owner f) + tally f fs) → ((f : ℕ) → 1 ≤ tally f fs → f < 16 * heap.groups)
      → (cursor tried : ℕ) → cursor < heap.groups → tried ≤ heap.groups → free_in_passed heap now cursor tried ≤ free_in_passed heap owner cursor tried + length fs
  free_in_passed_grows_within fs gained below cursor tried within few =
      let extra : ℕ → ℕ = λ g. sum_upto 16 (λ i. tally (16 * g + i) fs) in
      let summands : free_in_passed heap now cursor tried ≡ free_in_passed heap owner cursor tried + sum_upto tried (λ j. extra ((cursor + j) % heap.groups))
      = sum_plus tried (λ j. free_in now ((cursor + j) % heap.groups)) (λ j. free_in owner ((cursor + j) % heap.groups)) (λ j. extra ((cursor + j) % heap.groups)) (λ j less.
      sum_plus 16 (λ i. free_bit (now (16 * ((cursor + j) % heap.groups) + i))) (λ i. free_bit (owner (16 * ((cursor + j) % heap.groups) + i))) (λ i. tally (16 * ((cursor + j) % heap.groups) + i) fs)
      (λ i small. gained (16 * ((cursor + j) % heap.groups) + i))) in
      let all : sum_upto heap.groups (λ j. extra ((cursor + j) % heap.groups)) ≡ length fs
      = sum_wrapped heap.groups cursor extra within ∙ sum_blocks 16 heap.groups (λ f. tally f fs) ∙ sum_of_tallies_is_length (16 * heap.groups) fs below in
      let front : sum_upto tried (λ j. extra ((cursor + j) % heap.groups)) ≤ sum_upto heap.groups (λ j. extra ((cursor + j) % heap.groups))
      = sum_within tried heap.groups (λ j. extra ((cursor + j) % heap.groups)) few in
      omega (arith, summands, all, front)
    where
      sum_within : (m n : ℕ) (f : ℕ → ℕ) → m ≤ n → sum_upto m f ≤ sum_upto n f
      sum_within m n f less = let sum : m + (n - m) ≡ n = omega arith in subst (λ k. sum_upto m f ≤ sum_upto k f) sum (sum_front m (n - m) f)

-- the group that is claimed has nothing free then
pub free_in_passed_after_claim : (heap : Heap) (now : ℕ → Owner) (cursor tried : ℕ) → ((f : ℕ) → f / 16 ≡ (cursor + tried) % heap.groups → free_bit (now f) ≡ 0)
    → free_in_passed heap now cursor (tried + 1) ≡ free_in_passed heap now cursor tried
free_in_passed_after_claim heap now cursor tried none =
    let next : tried + 1 ≡ suc tried = omega arith in
    let last : free_in now ((cursor + tried) % heap.groups) ≡ 0
    = sum_of_nothing_is_zero 16 (λ i. free_bit (now (16 * ((cursor + tried) % heap.groups) + i))) (λ i below. none (16 * ((cursor + tried) % heap.groups) + i) (omega arith)) in
    rw (next, sum-suc tried (λ j. free_in now ((cursor + j) % heap.groups)), last) (omega arith)
