-- How often a number stands in a list.
use Rattle.std.proofs.Common.{◌≡◌, ◌≢◌, ℕ, zero, suc, ◌+◌, ◌<◌, ◌≤◌, inl, inr, List, [], ◌∷◌, ◌++◌, length, take, drop, refl, arith}
use Rattle.std.proofs.lemmas.Bool.Decides.{eqb_tells}
use Rattle.core_rule.proofs.Terms.{tally, sum_upto, one_at}
use Rattle.core_machine.proofs.table_lemmas.Free.{sum_of_nothing_is_zero}
use Rattle.core_rule.proofs.lists.SumLemmas.{sum-suc, sum_plus}

-- whether two numbers are the same, as a number
pub one_at_same_is_one : (x f : ℕ) → x ≡ f → one_at x f ≡ 1
one_at_same_is_one x f same = grind (arith, same)

pub one_at_other_is_none : (x f : ℕ) → x ≢ f → one_at x f ≡ 0
one_at_other_is_none x f ne = grind (arith, ne)

pub one_at_within_one : (x f : ℕ) → one_at x f ≤ 1
one_at_within_one x f = grind arith

pub one_at_some_is_same : (x f : ℕ) → 1 ≤ one_at x f → x ≡ f
one_at_some_is_same x f some = grind (arith, some)

-- of joined lists, and of a list that is cut
pub tally-append : (f : ℕ) (xs ys : List ℕ) → tally f (xs ++ ys) ≡ tally f xs + tally f ys
tally-append f [] ys = omega arith
tally-append f (x ∷ xs) ys = omega (arith, tally-append f xs ys)

pub tally_of_taken_and_dropped : (f k : ℕ) (xs : List ℕ) → tally f (take k xs) + tally f (drop k xs) ≡ tally f xs
tally_of_taken_and_dropped f zero xs = omega arith
tally_of_taken_and_dropped f (suc k) [] = omega arith
tally_of_taken_and_dropped f (suc k) (x ∷ xs) = omega (arith, tally_of_taken_and_dropped f k xs)

pub sum_of_outside_is_none : (n x : ℕ) → n ≤ x → sum_upto n (λ f. one_at x f) ≡ 0
sum_of_outside_is_none n x above = sum_of_nothing_is_zero n (λ f. one_at x f) (λ f below. one_at_other_is_none x f (λ e. omega (arith, e)))

-- one number below n is counted once
pub sum_of_inside_is_one : (n x : ℕ) → x < n → sum_upto n (λ f. one_at x f) ≡ 1
sum_of_inside_is_one zero x below = omega arith
sum_of_inside_is_one (suc n) x below = rw (sum-suc n (λ f. one_at x f)) (elim (eqb_tells x n) as (λ _. sum_upto n (λ f. one_at x f) + one_at x n ≡ 1) [
  | inl e ↦ omega (arith, sum_of_outside_is_none n x (omega (arith, e.1)), one_at_same_is_one x n e.1)
  | inr e ↦ omega (arith, sum_of_inside_is_one n x (omega (arith, e.1)), one_at_other_is_none x n e.1)
])

-- the numbers below n that stand in the list are as many as it has, where it has no others
pub sum_of_tallies_is_length : (n : ℕ) (fs : List ℕ) → ((f : ℕ) → 1 ≤ tally f fs → f < n) → sum_upto n (λ f. tally f fs) ≡ length fs
sum_of_tallies_is_length n [] below = sum_of_nothing_is_zero n (λ f. tally f []) (λ f less. refl)
sum_of_tallies_is_length n (x ∷ xs) below =
    let first : sum_upto n (λ f. one_at x f) ≡ 1 = sum_of_inside_is_one n x (below x (omega (arith, one_at_same_is_one x x refl))) in
    let rest : sum_upto n (λ f. tally f xs) ≡ length xs = sum_of_tallies_is_length n xs (λ f there. below f (omega (arith, there))) in
    let both : sum_upto n (λ f. tally f (x ∷ xs)) ≡ sum_upto n (λ f. one_at x f) + sum_upto n (λ f. tally f xs)
    = sum_plus n (λ f. tally f (x ∷ xs)) (λ f. one_at x f) (λ f. tally f xs) (λ f less. refl) in
    omega (arith, first, rest, both)
