-- Lists whose elements stand in an order, joined and parted.
use Rattle.std.proofs.Common.{◌≡◌, ℕ, zero, suc, ◌+◌, ◌/◌, ◌<◌, ◌≤◌, inl, inr, List, [], ◌∷◌, ◌++◌, length, get_or, All, AllPairs, refl, sym, ap, ◌∙◌, arith}
use Rattle.std.proofs.lemmas.Bool.Decides.{eqb_tells}
use Rattle.std.proofs.lemmas.Grind.{get_or_default_zero}
use Rattle.std.proofs.lemmas.List.{get_or_append_left, length-append}
use Rattle.std.proofs.lemmas.List.Elements.{All-append, All-weaker, All-head, All-tail}
use Rattle.std.proofs.lemmas.List.Kept.{AllPairs-cons}
use Rattle.core_rule.proofs.Terms.{inside_group, outside_group, tally, fragment_at}
use Rattle.core_rule.proofs.lists.Members.{element_is_tallied, position_of, element_stands_at_position, equal_elements_same_position}
use Rattle.core_rule.proofs.lists.GroupLists.{zero_where_not_positive}

module _ (R : ℕ → ℕ → Type 0) where
  pairs_head : (x : ℕ) (xs : List ℕ) → AllPairs R (x ∷ xs) → All (R x) xs
  pairs_head x xs pairs i d below = pairs zero (suc i) d (omega arith) (omega (arith, below))

  pairs_tail : (x : ℕ) (xs : List ℕ) → AllPairs R (x ∷ xs) → AllPairs R xs
  pairs_tail x xs pairs i j d less below = pairs (suc i) (suc j) d (omega (arith, less)) (omega (arith, below))

  pub pairs_of_front : (xs ys : List ℕ) → AllPairs R (xs ++ ys) → AllPairs R xs
  pairs_of_front xs ys pairs i j d less below =
      rw (← get_or_append_left xs ys d i (omega (arith, less, below)), ← get_or_append_left xs ys d j below)
      (pairs i j d less (rw (length-append xs ys) (omega (arith, below))))

  pub pairs_of_append : (P Q : ℕ → Type 0) → ((x y : ℕ) → P x → Q y → R x y) → (xs ys : List ℕ) → All P xs → All Q ys → AllPairs R xs → AllPairs R ys → AllPairs R (xs ++ ys)
  pairs_of_append P Q cross [] ys first second front back = back
  pairs_of_append P Q cross (x ∷ xs) ys first second front back =
      AllPairs-cons R x (xs ++ ys)
      (All-append (R x) xs ys (pairs_head x xs front) (All-weaker Q (R x) (λ y is. cross x y (first zero 0 (omega arith)) is) ys second))
      (pairs_of_append P Q cross xs ys (λ i d below. first (suc i) d (omega (arith, below))) second (pairs_tail x xs front) back)

  -- by reads with the default 0
  pub pairs_by_zero_reads : (xs : List ℕ) → ((i j : ℕ) → i < j → j < length xs → R (get_or xs i 0) (get_or xs j 0)) → AllPairs R xs
  pairs_by_zero_reads xs pairs i j d less below =
      rw (get_or_default_zero xs i d (omega (arith, less, below)), get_or_default_zero xs j d below) (pairs i j less below)

-- all of one claim
pub pairs_of_any : (R : ℕ → ℕ → Type 0) (P : ℕ → Type 0) → ((x y : ℕ) → P x → P y → R x y) → (xs : List ℕ) → All P xs → AllPairs R xs
pairs_of_any R P each xs all i j d less below = each _ _ (all i d (omega (arith, less, below))) (all j d below)

module _ (g : ℕ) where
  -- a list of one group's fragments is all in it
  all_in : (xs : List ℕ) → All (λ f. f / 16 ≡ g) xs → inside_group g xs ≡ xs
  all_in [] each = refl
  all_in (x ∷ xs) each = elim (eqb_tells (x / 16) g) as (λ _. inside_group g (x ∷ xs) ≡ x ∷ xs) [
    | inl here ↦ rw here.0 (ap (λ ys. x ∷ ys) (all_in xs (All-tail (λ f. f / 16 ≡ g) x xs each)))
    | inr away ↦ absurd (away.1 (All-head (λ f. f / 16 ≡ g) x xs each))
  ]

  none_out : (xs : List ℕ) → All (λ f. f / 16 ≡ g) xs → outside_group g xs ≡ []
  none_out [] each = refl
  none_out (x ∷ xs) each = elim (eqb_tells (x / 16) g) as (λ _. outside_group g (x ∷ xs) ≡ []) [
    | inl here ↦ rw here.0 (none_out xs (All-tail (λ f. f / 16 ≡ g) x xs each))
    | inr away ↦ absurd (away.1 (All-head (λ f. f / 16 ≡ g) x xs each))
  ]

  -- where all behind one of the group's are of the group, these are the list's last ones
  pub inside_group_stands_last : (xs : List ℕ) → AllPairs (λ f h. f / 16 ≡ g → h / 16 ≡ g) xs → outside_group g xs ++ inside_group g xs ≡ xs
  inside_group_stands_last [] pairs = refl
  inside_group_stands_last (x ∷ xs) pairs = elim (eqb_tells (x / 16) g) as (λ _. outside_group g (x ∷ xs) ++ inside_group g (x ∷ xs) ≡ x ∷ xs) [
    | inl here ↦
        let behind : All (λ f. f / 16 ≡ g) xs = λ i d below. pairs_head (λ f h. f / 16 ≡ g → h / 16 ≡ g) x xs pairs i d below here.1 in
        rw (here.0, none_out xs behind, all_in xs behind) refl
    | inr away ↦ rw away.0 (ap (λ ys. x ∷ ys) (inside_group_stands_last xs (pairs_tail (λ f h. f / 16 ≡ g → h / 16 ≡ g) x xs pairs)))
  ]

-- what stands behind one that isn't of the front isn't either
pub behind_front_not_in_front : (front rest body : List ℕ) (k m : ℕ) → body ≡ front ++ rest → ((f : ℕ) → tally f body ≤ 1) → k < m → m < length body
    → tally (fragment_at body k) front ≡ 0 → tally (fragment_at body m) front ≡ 0
behind_front_not_in_front front rest body k m parted once behind below away = zero_where_not_positive (tally (fragment_at body m) front) (λ there.
    let position = element_stands_at_position (fragment_at body m) front there in
    let long : length body ≡ length front + length rest = ap length parted ∙ length-append front rest in
    let read : (i : ℕ) → i < length front → get_or body i 0 ≡ get_or front i 0 = λ i less. ap (λ xs. get_or xs i 0) parted ∙ get_or_append_left front rest 0 i less in
    let same : position_of (fragment_at body m) front ≡ m
    = equal_elements_same_position body (position_of (fragment_at body m) front) m once (omega (arith, long, position.0)) below (read _ position.0 ∙ position.1) in
    let less : k < length front = omega (arith, same, position.0, behind) in
    let some : 1 ≤ tally (get_or front k 0) front = element_is_tallied front k less in
    let none : tally (get_or front k 0) front ≡ 0 = ap (λ f. tally f front) (sym (read k less)) ∙ away in
    omega (arith, some, none))
