-- The head and the tail of a list.
use Rattle.std.proofs.Common.{zero, suc, ◌⊎◌, inl, inr, List, [], ◌∷◌, ◌≡◌, AllPairs, Contains, refl, subst, arith}
use Rattle.std.proofs.lemmas.List.Elements.{Contains-append_right}

-- an element of a list is its head, or stands in its tail
pub contains_cases : {A : Type 0} (x : A) (xs : List A) (other : A) → Contains (x ∷ xs) other → (x ≡ other) ⊎ Contains xs other
contains_cases x xs other (zero, lt, e) = inl e
contains_cases x xs other (suc k, lt, e) = inr (k, omega (arith, lt), e)

pub contains_head : {A : Type 0} (x : A) (xs : List A) → Contains (x ∷ xs) x
contains_head x xs = (0, omega arith, refl)

pub contains_tail : {A : Type 0} (x : A) (xs : List A) (other : A) → Contains xs other → Contains (x ∷ xs) other
contains_tail x xs other h = Contains-append_right (x ∷ []) xs other h

pub pairs_tail : {A : Type 0} (R : A → A → Type 0) (x : A) (xs : List A) → AllPairs R (x ∷ xs) → AllPairs R xs
pairs_tail R x xs h i j d lt within = h (suc i) (suc j) d (omega (arith, lt)) (omega (arith, within))

pub pairs_head : {A : Type 0} (R : A → A → Type 0) (x : A) (xs : List A) (other : A) → AllPairs R (x ∷ xs) → Contains xs other → R x other
pairs_head R x xs other h c = subst (R x) c.2 (h 0 (suc c.0) other (omega arith) (omega (arith, c.1)))
