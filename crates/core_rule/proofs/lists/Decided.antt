-- Facts that can be decided, of elements of a list, and of how many elements they hold.
use Rattle.std.proofs.Common.{ℕ, ◌+◌, ◌<◌, ◌≤◌, ◌⊎◌, inl, inr, List, [], ◌∷◌, length, Any, Contains, sym, subst, arith}
use Rattle.heap_model.proofs.graph_lemmas.Heads.{contains_cases, contains_head, contains_tail}

-- it holds or it doesn't
abbrev pub Decided : Type 0 → Type 0
Decided P = P ⊎ ¬ P

-- of two
pub both_decided : {P Q : Type 0} → Decided P → Decided Q → Decided (P × Q)
both_decided (inl p) (inl q) = inl (p, q)
both_decided (inl p) (inr q) = inr (λ both. q both.1)
both_decided (inr p) _ = inr (λ both. p both.0)

pub either_decided : {P Q : Type 0} → Decided P → Decided Q → Decided (P ⊎ Q)
either_decided (inl p) _ = inl (inl p)
either_decided (inr p) (inl q) = inl (inr q)
either_decided (inr p) (inr q) = inr (λ either. elim either [ inl first ↦ p first | inr second ↦ q second ])

-- 1 where it holds
abbrev pub one_where : {P : Type 0} → Decided P → ℕ
one_where (inl holds) = 1
one_where (inr fails) = 0

-- of an element of a list, or of none
module _ {A : Type 0} where
  pub any_of_contained : (P : A → Type 0) (xs : List A) (x : A) → Contains xs x → P x → Any P xs
  any_of_contained P xs x there holds = (there.0, x, there.1, there.2, holds)

  pub any_decided : (P : A → Type 0) → ((x : A) → Decided (P x)) → (xs : List A) → Decided (Any P xs)
  any_decided P each [] = inr (λ any. absurd (omega (arith, any.2)))
  any_decided P each (x ∷ xs) = elim (each x) [
    | inl holds ↦ inl (any_of_contained P (x ∷ xs) x (contains_head x xs) holds)
    | inr fails ↦ elim (any_decided P each xs) [
      | inl later ↦ inl (any_of_contained P (x ∷ xs) later.1 (contains_tail x xs later.1 (later.0, later.2, later.3)) later.4)
      | inr none ↦ inr (λ any. elim (contains_cases x xs any.1 (any.0, any.2, any.3)) [
        | inl first ↦ fails (subst P (sym first) any.4)
        | inr later ↦ none (any_of_contained P xs any.1 later any.4)
      ])
    ]
  ]

  -- of how many elements it holds
  abbrev pub count_of : (P : A → Type 0) → ((x : A) → Decided (P x)) → List A → ℕ
  count_of P each [] = 0
  count_of P each (x ∷ xs) = one_where (each x) + count_of P each xs

  pub count_within_length : (P : A → Type 0) (each : (x : A) → Decided (P x)) (xs : List A) → count_of P each xs ≤ length xs
  count_within_length P each [] = omega arith
  count_within_length P each (x ∷ xs) = elim (each x) as (λ d. one_where d + count_of P each xs ≤ length (x ∷ xs)) [
    | inl holds ↦ omega (arith, count_within_length P each xs)
    | inr fails ↦ omega (arith, count_within_length P each xs)
  ]

  -- where the one follows from the other, this holds of more elements, or of none that the other doesn't
  module _ (P Q : A → Type 0) (each : (x : A) → Decided (P x)) (every : (x : A) → Decided (Q x)) (follows : (x : A) → P x → Q x) where
    abbrev pub Grows : List A → Type 0
    Grows xs = (count_of P each xs < count_of Q every xs) ⊎ ((count_of P each xs ≤ count_of Q every xs) × ((x : A) → Contains xs x → Q x → P x))

    grows_by : (x : A) (xs : List A) (p : Decided (P x)) (q : Decided (Q x)) → Grows xs
        → (one_where p + count_of P each xs < one_where q + count_of Q every xs)
        ⊎ ((one_where p + count_of P each xs ≤ one_where q + count_of Q every xs) × ((y : A) → Contains (x ∷ xs) y → Q y → P y))
    grows_by x xs (inl p) (inl q) (inl more) = inl (omega (arith, more))
    grows_by x xs (inl p) (inl q) (inr same) = inr (
      omega (arith, same.0),
      λ y there holds. elim (contains_cases x xs y there) [
        | inl first ↦ subst P first p
        | inr later ↦ same.1 y later holds
      ],
    )
    grows_by x xs (inl p) (inr q) rest = absurd (q (follows x p))
    grows_by x xs (inr p) (inl q) (inl more) = inl (omega (arith, more))
    grows_by x xs (inr p) (inl q) (inr same) = inl (omega (arith, same.0))
    grows_by x xs (inr p) (inr q) (inl more) = inl (omega (arith, more))
    grows_by x xs (inr p) (inr q) (inr same) = inr (
      omega (arith, same.0),
      λ y there holds. elim (contains_cases x xs y there) [
        | inl first ↦ absurd (q (subst Q (sym first) holds))
        | inr later ↦ same.1 y later holds
      ],
    )

    pub list_grows : (xs : List A) → Grows xs
    list_grows [] = inr (omega arith, λ y there holds. absurd (omega (arith, there.1)))
    list_grows (x ∷ xs) = grows_by x xs (each x) (every x) (list_grows xs)
