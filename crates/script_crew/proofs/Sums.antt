-- Sums over the views of passes, read by the position of a pass.
use Rattle.std.proofs.Common.{◌≡◌, ◌≢◌, ℕ, zero, suc, ◌+◌, ◌≤◌, List, [], ◌∷◌, length, set, sym, refl, ap, arith}
use Rattle.std.specs.Prelude.{sum_by}
use Rattle.std.proofs.lemmas.List.Sums.{sum_by-cons}
use mathlib.Core.Option.{some, some-injective, some-ne-none}
use lib.ListN.{get_elem?}

-- where each counts one, the sum is the length
pub sum_by-one : (xs : List ℕ) → sum_by (λ _. 1) xs ≡ length xs
sum_by-one [] = refl
sum_by-one (x ∷ xs) = let one : ℕ → ℕ = λ _. 1 in omega (arith, sum_by-cons one x xs, sum_by-one xs)

module _ {X : Type 0} where
  -- once one of them is changed
  pub sum_by-set_at : (f : X → ℕ) (all : List X) (port : ℕ) (old new : X) → get_elem? all port ≡ some old → sum_by f (set all port new) + f old ≡ sum_by f all + f new
  sum_by-set_at f [] port old new at = absurd (some-ne-none old (sym at))
  sum_by-set_at f (x ∷ xs) zero old new at = omega (arith, sum_by-cons f new xs, sum_by-cons f x xs, ap f (some-injective x old at))
  sum_by-set_at f (x ∷ xs) (suc port) old new at = omega (arith, sum_by-cons f x (set xs port new), sum_by-cons f x xs, sum_by-set_at f xs port old new at)

  -- each is at most the sum
  pub at-le-sum_by : (f : X → ℕ) (all : List X) (port : ℕ) (one : X) → get_elem? all port ≡ some one → f one ≤ sum_by f all
  at-le-sum_by f [] port one at = absurd (some-ne-none one (sym at))
  at-le-sum_by f (x ∷ xs) zero one at = omega (arith, sum_by-cons f x xs, ap f (some-injective x one at))
  at-le-sum_by f (x ∷ xs) (suc port) one at = omega (arith, sum_by-cons f x xs, at-le-sum_by f xs port one at)

  -- two of them are at most the sum
  pub pair-le-sum_by : (f : X → ℕ) (all : List X) (port other : ℕ) (one two : X) → get_elem? all port ≡ some one → get_elem? all other ≡ some two → other ≢ port → f one + f two ≤ sum_by f all
  pair-le-sum_by f [] port other one two at there apart = absurd (some-ne-none one (sym at))
  pair-le-sum_by f (x ∷ xs) zero zero one two at there apart = absurd (apart refl)
  pair-le-sum_by f (x ∷ xs) zero (suc other) one two at there apart = omega (arith, sum_by-cons f x xs, ap f (some-injective x one at), at-le-sum_by f xs other two there)
  pair-le-sum_by f (x ∷ xs) (suc port) zero one two at there apart = omega (arith, sum_by-cons f x xs, ap f (some-injective x two there), at-le-sum_by f xs port one at)
  pair-le-sum_by f (x ∷ xs) (suc port) (suc other) one two at there apart =
      omega (arith, sum_by-cons f x xs, pair-le-sum_by f xs port other one two at there (λ same. apart (ap suc same)))

  -- where a measure is 0 of each, so is the sum
  sum_by-none : (f : X → ℕ) (all : List X) → ((port : ℕ) (one : X) → get_elem? all port ≡ some one → f one ≡ 0) → sum_by f all ≡ 0
  sum_by-none f [] none = refl
  sum_by-none f (x ∷ xs) none = omega (arith, sum_by-cons f x xs, none 0 x refl, sum_by-none f xs (λ port one at. none (suc port) one at))

  -- where a measure is 0 of all others, the sum is that of this one
  pub sum_by-lone : (f : X → ℕ) (all : List X) (port : ℕ) (one : X) → get_elem? all port ≡ some one
      → ((other : ℕ) (two : X) → get_elem? all other ≡ some two → other ≢ port → f two ≡ 0) → sum_by f all ≡ f one
  sum_by-lone f [] port one at none = absurd (some-ne-none one (sym at))
  sum_by-lone f (x ∷ xs) zero one at none =
      omega (arith, sum_by-cons f x xs, ap f (some-injective x one at), sum_by-none f xs (λ other two there. none (suc other) two there (λ same. absurd (omega arith))))
  sum_by-lone f (x ∷ xs) (suc port) one at none =
      omega (
        arith,
        sum_by-cons f x xs,
        none 0 x refl (λ same. absurd (omega arith)),
        sum_by-lone f xs port one at (λ other two there apart. none (suc other) two there (λ same. apart (omega arith))),
      )
