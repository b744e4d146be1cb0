-- Where a list is cut at its first element that passes a test.
use Rattle.std.proofs.Common.{◌≡◌, ℕ, ◌+◌, ◌≤◌, Bool, true, false, List, [], ◌∷◌, take, drop, length, Some, None, refl, cond, not, nat_lt, arith, position}
use Rattle.std.specs.List.{slice_split, position_or_len, onto_first}
use Rattle.std.proofs.lemmas.List.{drop-drop}
use Rattle.std.proofs.lemmas.List.Splits.{slice_split_first}
use Rattle.std.proofs.lemmas.Option.{cond_some}
use Rattle.std.proofs.lemmas.Bool.{ltb-true, ltb-false}

-- the first part ends at the first element that passes
pub slice_split-Some : (p : ℕ → Bool) (xs : List ℕ) (i : ℕ) → position p xs ≡ Some i → slice_split p xs ≡ take i xs ∷ slice_split p (drop 1 (drop i xs))
slice_split-Some p xs i e =
    let found = cond_some (nat_lt (position_or_len p xs) (length xs)) (position_or_len p xs) i e in
    rw (← found.1, drop-drop 1 (position_or_len p xs) xs) (slice_split_first p xs 0 (ltb-true _ _ found.0))

whole : (p : ℕ → Bool) (xs : List ℕ) → length xs ≤ position_or_len p xs → slice_split p xs ≡ xs ∷ []
whole p [] h = refl
whole p (x ∷ xs) h =
    let P : Bool → Type 0 = λ b. length (x ∷ xs) ≤ cond (not b) (1 + position_or_len p xs) 0 → cond b ([] ∷ slice_split p xs) (onto_first x (slice_split p xs)) ≡ (x ∷ xs) ∷ [] in
    let parts : (b : Bool) → P b = λ b. elim b as P [ true ↦ λ h. absurd (omega arith) | false ↦ λ h. rw (whole p xs (omega arith)) refl ] in
    parts (p x) h

-- where none passes, the list is the one part
pub slice_split-None : (p : ℕ → Bool) (xs : List ℕ) → position p xs ≡ None → slice_split p xs ≡ xs ∷ []
slice_split-None p xs e =
    let P : Bool → Type 0 = λ b. cond b (Some (position_or_len p xs)) None ≡ None → b ≡ false in
    let none : (b : Bool) → P b = λ b. elim b as P [ true ↦ λ e. cc | false ↦ λ e. refl ] in
    whole p xs (ltb-false _ _ (none (nat_lt (position_or_len p xs) (length xs)) e))
