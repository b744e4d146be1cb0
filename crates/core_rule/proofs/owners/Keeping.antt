-- A new object gets its fragments, which its maker had.
use Rattle.std.proofs.Common.{◌≡◌, ◌≢◌, ℕ, ◌<◌, ◌≤◌, ◌==◌, if◌then◌else◌, nat_lt, ◌⊎◌, inl, inr, List, length, sym, ap, ◌∙◌, subst, arith}
use Rattle.std.proofs.lemmas.Bool.Decides.{nat_tests}
use Rattle.core_rule.proofs.Terms.{tally, fragment_at, Owner, Kept, Dead}
use Rattle.core_rule.proofs.owners.Handed.{none_or_some}
use Rattle.core_rule.proofs.lists.Members.{position_of, element_is_tallied, element_stands_at_position, position_of_element_is_position}

-- the fragments of the body are kept by the object of this number
abbrev pub kept_by : ℕ → List ℕ → (ℕ → Owner) → ℕ → Owner
kept_by n body owner f = if nat_lt 0 (tally f body) then Kept n (position_of f body) else owner f

-- the object of this number has these fragments
abbrev pub with_object : (ℕ → List ℕ) → ℕ → List ℕ → ℕ → List ℕ
with_object fragments n body i = if i == n then body else fragments i

-- the new object has them, the others their own
pub new_object_has_body : (fragments : ℕ → List ℕ) (n : ℕ) (body : List ℕ) → with_object fragments n body n ≡ body
new_object_has_body fragments n body = grind (arith, nat_tests)

pub old_object_keeps_fragments : (fragments : ℕ → List ℕ) (n : ℕ) (body : List ℕ) (i : ℕ) → i ≢ n → with_object fragments n body i ≡ fragments i
old_object_keeps_fragments fragments n body i apart = grind (arith, nat_tests, apart)

module _ (n : ℕ) (body : List ℕ) (owner : ℕ → Owner) where
  -- a fragment of the body is kept then, another its owner's
  kept_in : (f : ℕ) → 1 ≤ tally f body → kept_by n body owner f ≡ Kept n (position_of f body)
  kept_in f there = grind (arith, nat_tests, there)

  kept_out : (f : ℕ) → tally f body ≡ 0 → kept_by n body owner f ≡ owner f
  kept_out f away = grind (arith, nat_tests, away)

  pub kept_by_cases : (P : Owner → Type 0) (f : ℕ) → (1 ≤ tally f body → P (Kept n (position_of f body))) → (tally f body ≡ 0 → P (owner f)) → P (kept_by n body owner f)
  kept_by_cases P f there away = elim (none_or_some (tally f body)) as (λ _. P (kept_by n body owner f)) [
    | inl none ↦ rw (kept_out f none) (away none)
    | inr some ↦ rw (kept_in f some) (there some)
  ]

  -- what others keep stays
  pub kept_by_others_stays : ((f i k : ℕ) → 1 ≤ tally f body → owner f ≢ Kept i k) → (f i k : ℕ) → owner f ≡ Kept i k → kept_by n body owner f ≡ Kept i k
  kept_by_others_stays free f i k is = kept_by_cases (λ o. o ≡ Kept i k) f (λ there. absurd (free f i k there is)) (λ away. is)

  pub kept_by_others_was : (f i k : ℕ) → i ≢ n → kept_by n body owner f ≡ Kept i k → owner f ≡ Kept i k
  kept_by_others_was f i k apart = kept_by_cases (λ o. o ≡ Kept i k → owner f ≡ Kept i k) f (λ there is. absurd (apart (cc))) (λ away is. is)

  -- what is to be freed then was so
  pub dead_was_dead_before_keeping : (f i k : ℕ) → kept_by n body owner f ≡ Dead i k → owner f ≡ Dead i k
  dead_was_dead_before_keeping f i k = kept_by_cases (λ o. o ≡ Dead i k → owner f ≡ Dead i k) f (λ there is. absurd (cc)) (λ away is. is)

  -- each fragment of the body is the object's, at its position in the body
  pub body_fragment_is_kept_at_position : ((f : ℕ) → tally f body ≤ 1) → (k : ℕ) → k < length body → kept_by n body owner (fragment_at body k) ≡ Kept n k
  body_fragment_is_kept_at_position once k below = kept_in (fragment_at body k) (element_is_tallied body k below) ∙ ap (Kept n) (position_of_element_is_position body k once below)

  -- an object's fragment is one of the body, or was kept before
  pub kept_is_body_or_before : (f i k : ℕ) → kept_by n body owner f ≡ Kept i k → ((i ≡ n) × (k < length body) × (f ≡ fragment_at body k)) ⊎ (owner f ≡ Kept i k)
  kept_is_body_or_before f i k = kept_by_cases (λ o. o ≡ Kept i k → ((i ≡ n) × (k < length body) × (f ≡ fragment_at body k)) ⊎ (owner f ≡ Kept i k)) f
      (λ there is. let at_position = element_stands_at_position f body there in let position : position_of f body ≡ k = cc in
      inl (cc, subst (λ p. p < length body) position at_position.0, sym (subst (λ p. fragment_at body p ≡ f) position at_position.1)))
      (λ away is. inr is)
