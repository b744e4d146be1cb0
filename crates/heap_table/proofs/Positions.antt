-- Positions of lists: which stand, and what a longer list has at them.
use Rattle.std.proofs.Common.{zero, suc, ◌≡◌, ℕ, ◌<◌, ◌≤◌, List, [], ◌∷◌, ◌++◌, length, replicate, Some, None, refl, sym, arith}
use mathlib.Core.Option.{some, none, some-injective, some-ne-none}
use lib.ListN.{get_elem?}

module _ {A : Type 0} where
  -- what stands somewhere stands within its list
  pub position_within_list : (l : List A) (i : ℕ) (a : A) → get_elem? l i ≡ some a → i < length l
  position_within_list [] i a e = absurd (some-ne-none a (sym e))
  position_within_list (x ∷ xs) zero a e = omega arith
  position_within_list (x ∷ xs) (suc i) a e = let below = position_within_list xs i a e in omega arith

  -- a longer list has the same there
  pub get_stays_by_append : (l m : List A) (i : ℕ) → i < length l → get_elem? (l ++ m) i ≡ get_elem? l i
  get_stays_by_append [] m i below = absurd (omega arith)
  get_stays_by_append (x ∷ l) m zero below = refl
  get_stays_by_append (x ∷ l) m (suc i) below = get_stays_by_append l m i (omega arith)

  -- past the end nothing stands
  pub get_past_end_is_none : (l : List A) (i : ℕ) → length l ≤ i → get_elem? l i ≡ none
  get_past_end_is_none [] i past = refl
  get_past_end_is_none (x ∷ l) zero past = absurd (omega arith)
  get_past_end_is_none (x ∷ l) (suc i) past = get_past_end_is_none l i (omega arith)

  -- a list without elements is empty
  pub list_without_elements_is_empty : (l : List A) → ¬ (0 < length l) → l ≡ []
  list_without_elements_is_empty [] empty = refl
  list_without_elements_is_empty (x ∷ l) empty = absurd (empty (omega arith))

  pub equal_somes_equal_values : (a b : A) → some (Some a) ≡ some (Some b) → a ≡ b
  equal_somes_equal_values a b e = inside (some-injective _ _ e)
    where
      inside : Some a ≡ Some b → a ≡ b
      inside f = cc

  -- among positions that are all empty none is full
  pub all_empty_none_full : (n i : ℕ) (a : A) → get_elem? (replicate n None) i ≡ some (Some a) → ⊥
  all_empty_none_full zero i a e = some-ne-none _ (sym e)
  all_empty_none_full (suc n) zero a e = let f = some-injective _ _ e in cc f
  all_empty_none_full (suc n) (suc i) a e = all_empty_none_full n i a e
