-- Lists with the same measures are the same but for the order.
use Rattle.std.proofs.Common.{◌≡◌, ℕ, suc, ◌-◌, ◌<◌, ◌⊎◌, List, [], ◌∷◌, length, get_or, remove, ⊎_elim, arith}
use Rattle.std.specs.Prelude.{IsPermutation, sum_by}
use Rattle.std.proofs.lemmas.Bool.{cases_order}
use Rattle.std.proofs.lemmas.List.Sorted.{IsPermutation-refl, IsPermutation-sym, IsPermutation-trans, IsPermutation-cons, IsPermutation-remove, sum_by-IsPermutation}
use Rattle.std.proofs.lemmas.List.Sums.{sum_by-cons}

-- this counts how often a number stands in a list
abbrev is_one : ℕ → ℕ → ℕ
is_one x z = (1 - (x - z)) - (z - x)

one_of_itself : (x : ℕ) → is_one x x ≡ 1
one_of_itself x = omega arith

-- what is counted stands somewhere
stands_at : (x : ℕ) (ys : List ℕ) → 0 < sum_by (is_one x) ys → (k : ℕ) × (k < length ys) × (x ≡ get_or ys k x)
stands_at x [] some = absurd (omega (arith, some))
stands_at x (y ∷ ys) some = ⊎_elim (λ (same : x ≡ y). (0, omega arith, same)) (λ (apart : (x < y) ⊎ (y < x)).
    let other : is_one x y ≡ 0 = ⊎_elim (λ (less : x < y). omega (arith, less)) (λ (less : y < x). omega (arith, less)) apart in
    let later = stands_at x ys (omega (arith, some, sum_by-cons (is_one x) y ys, other)) in
    (suc later.0, omega (arith, later.1), later.2)) (cases_order x y)

pub permutation_from_measures : (xs ys : List ℕ) → ((measure : ℕ → ℕ) → sum_by measure xs ≡ sum_by measure ys) → IsPermutation xs ys
permutation_from_measures [] [] same = IsPermutation-refl []
permutation_from_measures [] (y ∷ ys) same = let one : ℕ → ℕ = λ _. 1 in absurd (omega (arith, same one, sum_by-cons one y ys))
permutation_from_measures (x ∷ xs) ys same =
    let some : 0 < sum_by (is_one x) ys = omega (arith, same (is_one x), sum_by-cons (is_one x) x xs, one_of_itself x) in
    let at = stands_at x ys some in
    let rest = remove ys at.0 in
    let moved : IsPermutation ys (x ∷ rest) = IsPermutation-remove ys at.0 x at.1 at.2 in
    let still = permutation_from_measures xs rest (λ measure. omega (arith, same measure, sum_by-cons measure x xs, sum_by-IsPermutation measure ys (x ∷ rest) moved, sum_by-cons measure x rest)) in
    IsPermutation-trans (x ∷ xs) (x ∷ rest) ys (IsPermutation-cons x xs rest still) (IsPermutation-sym ys (x ∷ rest) moved)
