-- Lists with one more element at their end.
use Rattle.std.proofs.Common.{◌≡◌, List, [], ◌∷◌, ◌++◌, ◌⊎◌, inl, inr, refl}

not_empty : {A : Type 0} (xs : List A) (x : A) → [] ≡ xs ++ x ∷ [] → ⊥
not_empty [] x e = cc
not_empty (y ∷ xs) x e = cc

-- the last elements of equal lists are equal
pub equal_snocs_equal_last : {A : Type 0} (xs ys : List A) (x y : A) → xs ++ x ∷ [] ≡ ys ++ y ∷ [] → x ≡ y
equal_snocs_equal_last [] [] x y e = cc
equal_snocs_equal_last [] (b ∷ ys) x y e = absurd (not_empty ys y (cc))
equal_snocs_equal_last (a ∷ xs) [] x y e = absurd (not_empty xs x (cc))
equal_snocs_equal_last (a ∷ xs) (b ∷ ys) x y e = equal_snocs_equal_last xs ys x y (cc)

-- a front of a list with one more element is the whole list, or a front of the list without that
pub front_of_snoc_cases : {A : Type 0} (front rest xs : List A) (x : A) → xs ++ x ∷ [] ≡ front ++ rest → (front ≡ xs ++ x ∷ []) ⊎ ((fewer : List A) × (xs ≡ front ++ fewer))
front_of_snoc_cases [] rest xs x e = inr (xs, refl)
front_of_snoc_cases (a ∷ []) rest [] x e = inl (cc)
front_of_snoc_cases (a ∷ b ∷ front) rest [] x e = absurd (no_two (cc))
  where
    no_two : [] ≡ b ∷ (front ++ rest) → ⊥
    no_two h = cc
front_of_snoc_cases (a ∷ front) rest (y ∷ xs) x e =
    let same : a ≡ y = cc in
    let tail : xs ++ x ∷ [] ≡ front ++ rest = cc in
    elim (front_of_snoc_cases front rest xs x tail) [
      | inl whole ↦ inl (cc)
      | inr fewer ↦ inr (fewer.0, cc)
    ]
