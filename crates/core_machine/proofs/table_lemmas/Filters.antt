-- How much a filter keeps.
use Rattle.std.proofs.Common.{ℕ, ◌≤◌, Bool, List, [], ◌∷◌, length, filter, arith, eq-eqb, eqb, get_or, inl, inr, suc, true, zero, ◌≡◌, ◌<◌, ◌/◌}
use Rattle.std.proofs.lemmas.Bool.Decides.{eqb_tells}
use Rattle.core_machine.proofs.Terms.{out_of_group, outside_group}

-- a filter keeps no more than there is
pub length-filter_le : (p : ℕ → Bool) (xs : List ℕ) → length (filter p xs) ≤ length xs
length-filter_le p [] = omega arith
length-filter_le p (x ∷ xs) = let rest = length-filter_le p xs in grind arith

-- without the group of one of them, the fragments are fewer
pub outside_group_is_shorter : (group : ℕ) (fragments : List ℕ) (i : ℕ) → i < length fragments → get_or fragments i 0 / 16 ≡ group
    → length (outside_group group fragments) < length fragments
outside_group_is_shorter group [] i within is = absurd (omega arith)
outside_group_is_shorter group (fragment ∷ more) zero within is =
    let in_ : eqb (fragment / 16) group ≡ true = eq-eqb (fragment / 16) group is in
    let few = length-filter_le (out_of_group group) more in
    rw in_ (omega arith)
outside_group_is_shorter group (fragment ∷ more) (suc i) within is =
    let rest = outside_group_is_shorter group more i (omega arith) is in
    elim (eqb_tells (fragment / 16) group) as (λ _. length (outside_group group (fragment ∷ more)) < suc (length more)) [
      | inl here ↦ rw here.0 (omega arith)
      | inr there ↦ rw there.0 (omega arith)
    ]
