-- Ids that are each there once can be put in their order.
use Rattle.std.proofs.Common.{◌≡◌, ◌≢◌, ◌<◌, ◌≤◌, ◌⊎◌, inl, inr, List, [], ◌∷◌, get_or, AllPairs, Contains, refl, sym, ◌∙◌, subst, arith}
use Rattle.std.specs.List.Sorted.{IsPermutation}
use Rattle.std.proofs.lemmas.Bool.{cases_lt}
use Rattle.std.proofs.lemmas.List.Elements.{Contains-get_or}
use Rattle.std.proofs.lemmas.List.Kept.{AllPairs-cons}
use Rattle.std.proofs.lemmas.List.Sorted.{IsPermutation-refl, IsPermutation-sym, IsPermutation-trans, IsPermutation-cons, IsPermutation-middle, Contains-permutation}
use Rattle.heap_model.specs.declared.id.Id.{Id}
use Rattle.heap_model.specs.declared.id.Id.TheVariants.{Board, Made}
use Rattle.heap_model.specs.graph.Reach.{IsBefore}
use Rattle.heap_model.proofs.graph_lemmas.Heads.{contains_cases, contains_head, contains_tail, pairs_tail, pairs_head}

IsBefore-trans : (a b c : Id) → IsBefore a b → IsBefore b c → IsBefore a c
IsBefore-trans Board Board c first then = absurd first
IsBefore-trans Board (Made t m) Board first then = then
IsBefore-trans Board (Made t m) (Made u k) first then = tt
IsBefore-trans (Made s n) Board c first then = absurd first
IsBefore-trans (Made s n) (Made t m) Board first then = then
IsBefore-trans (Made s n) (Made t m) (Made u k) (inl x) (inl y) = inl (omega (arith, x, y))
IsBefore-trans (Made s n) (Made t m) (Made u k) (inl x) (inr y) = inl (omega (arith, x, y.0))
IsBefore-trans (Made s n) (Made t m) (Made u k) (inr x) (inl y) = inl (omega (arith, x.0, y))
IsBefore-trans (Made s n) (Made t m) (Made u k) (inr x) (inr y) = inr (x.0 ∙ y.0, omega (arith, x.1, y.1))

-- of two ids one is before the other, or they are one
order_cases : (a b : Id) → IsBefore a b ⊎ ((a ≡ b) ⊎ IsBefore b a)
order_cases Board Board = inr (inl refl)
order_cases Board (Made t m) = inl tt
order_cases (Made s n) Board = inr (inr tt)
order_cases (Made s n) (Made t m) = elim (cases_lt s t) [
  | inl below ↦ inl (inl below)
  | inr above ↦ elim (cases_lt t s) [
    | inl below ↦ inr (inr (inl below))
    | inr same ↦ counts (omega (arith, above, same)) (cases_lt n m) (cases_lt m n)
  ]
]
  where
    counts : s ≡ t → (n < m) ⊎ (m ≤ n) → (m < n) ⊎ (n ≤ m) → IsBefore (Made s n) (Made t m) ⊎ ((Made s n ≡ Made t m) ⊎ IsBefore (Made t m) (Made s n))
    counts seats (inl below) _ = inl (inr (seats, below))
    counts seats (inr above) (inl below) = inr (inr (inr (sym seats, below)))
    counts seats (inr above) (inr same) = (let equal : n ≡ m = omega (arith, above, same) in inr (inl (cc (seats, equal))))

-- an id is put in its position among others
put_in : (x : Id) (ys : List Id) → AllPairs IsBefore ys → (Contains ys x → ⊥) → (zs : List Id) × IsPermutation (x ∷ ys) zs × AllPairs IsBefore zs
put_in x [] ordered new = (x ∷ [], IsPermutation-refl (x ∷ []), AllPairs-cons IsBefore x [] (λ k d within. absurd (omega (arith, within))) ordered)
put_in x (y ∷ ys) ordered new = elim (order_cases x y) [
  | inl before ↦ (x ∷ y ∷ ys, IsPermutation-refl (x ∷ y ∷ ys), AllPairs-cons IsBefore x (y ∷ ys) (λ k d within. ahead before (get_or (y ∷ ys) k d) (contains_cases y ys _ (Contains-get_or (y ∷ ys) k d within))) ordered)
  | inr (inl same) ↦ absurd (new (subst (Contains (y ∷ ys)) (sym same) (contains_head y ys)))
  | inr (inr after) ↦ (
      let later = put_in x ys (pairs_tail IsBefore y ys ordered) (λ held. new (contains_tail y ys x held)) in
      let swap : IsPermutation (x ∷ y ∷ ys) (y ∷ x ∷ ys) = IsPermutation-sym (y ∷ x ∷ ys) (x ∷ y ∷ ys) (IsPermutation-middle (y ∷ []) x ys) in (
        y ∷ later.0,
        IsPermutation-trans (x ∷ y ∷ ys) (y ∷ x ∷ ys) (y ∷ later.0) swap (IsPermutation-cons y (x ∷ ys) later.0 later.1),
        AllPairs-cons IsBefore y later.0
            (λ k d within. behind after (get_or later.0 k d) (contains_cases x ys _ (Contains-permutation later.0 (x ∷ ys) _ (IsPermutation-sym (x ∷ ys) later.0 later.1) (Contains-get_or later.0 k d within)))) later.2,
      ))
]
  where
    ahead : IsBefore x y → (z : Id) → (y ≡ z) ⊎ Contains ys z → IsBefore x z
    ahead before z (inl same) = subst (IsBefore x) same before
    ahead before z (inr held) = IsBefore-trans x y z before (pairs_head IsBefore y ys z ordered held)

    behind : IsBefore y x → (z : Id) → (x ≡ z) ⊎ Contains ys z → IsBefore y z
    behind after z (inl same) = subst (IsBefore y) same after
    behind after z (inr held) = pairs_head IsBefore y ys z ordered held

pub ids_can_be_ordered : (ids : List Id) → AllPairs (λ id later. id ≢ later) ids → (ordered : List Id) × IsPermutation ids ordered × AllPairs IsBefore ordered
ids_can_be_ordered [] once = ([], IsPermutation-refl [], λ i j d lt within. absurd (omega (arith, within)))
ids_can_be_ordered (x ∷ xs) once =
    let rest = ids_can_be_ordered xs (pairs_tail (λ id later. id ≢ later) x xs once) in
    let new : Contains rest.0 x → ⊥ = λ held. pairs_head (λ id later. id ≢ later) x xs x once (Contains-permutation rest.0 xs x (IsPermutation-sym xs rest.0 rest.1) held) refl in
    let put = put_in x rest.0 rest.2 new in
    (put.0, IsPermutation-trans (x ∷ xs) (x ∷ rest.0) put.0 (IsPermutation-cons x xs rest.0 rest.1) put.1, put.2)
