-- Where a number stands in a list.
use Rattle.std.proofs.Common.{◌≡◌, ℕ, zero, suc, ◌+◌, ◌<◌, ◌≤◌, ◌==◌, if◌then◌else◌, inl, inr, List, [], ◌∷◌, length, get_or, refl, sym, arith, All}
use Rattle.std.proofs.lemmas.Bool.{cases_lt}
use Rattle.std.proofs.lemmas.Bool.Decides.{eqb_tells}
use Rattle.std.proofs.lemmas.List.Elements.{All-head, All-tail}
use Rattle.core_rule.proofs.Terms.{tally}
use Rattle.core_rule.proofs.lists.Tallies.{one_at_same_is_one, one_at_other_is_none}

-- the position of a number's first occurrence in a list; its length where it has none
abbrev pub position_of : ℕ → List ℕ → ℕ
position_of f [] = 0
position_of f (x ∷ xs) = if x == f then 0 else position_of f xs + 1

-- the number at a position stands in the list
pub element_is_tallied : (fs : List ℕ) (k : ℕ) → k < length fs → 1 ≤ tally (get_or fs k 0) fs
element_is_tallied [] k below = absurd (omega arith)
element_is_tallied (x ∷ xs) zero below = omega (arith, one_at_same_is_one x x refl)
element_is_tallied (x ∷ xs) (suc k) below = omega (arith, element_is_tallied xs k (omega arith))

-- a number at two positions stands there twice
tally_pair : (fs : List ℕ) (j k : ℕ) → j < k → k < length fs → get_or fs j 0 ≡ get_or fs k 0 → 2 ≤ tally (get_or fs k 0) fs
tally_pair (x ∷ xs) zero (suc k) less below same = omega (arith, one_at_same_is_one x (get_or xs k 0) same, element_is_tallied xs k (omega arith))
tally_pair (x ∷ xs) (suc j) (suc k) less below same = omega (arith, tally_pair xs j k (omega arith) (omega arith) same)
tally_pair _ _ _ less below same = absurd (omega arith)

not_before : (fs : List ℕ) (j k : ℕ) → ((f : ℕ) → tally f fs ≤ 1) → j < k → k < length fs → get_or fs j 0 ≡ get_or fs k 0 → ⊥
not_before fs j k once less below same =
    let two : 2 ≤ tally (get_or fs k 0) fs = tally_pair fs j k less below same in
    let one : tally (get_or fs k 0) fs ≤ 1 = once (get_or fs k 0) in
    omega arith

-- where each number stands once, positions with the same number are the same
pub equal_elements_same_position : (fs : List ℕ) (j k : ℕ) → ((f : ℕ) → tally f fs ≤ 1) → j < length fs → k < length fs → get_or fs j 0 ≡ get_or fs k 0 → j ≡ k
equal_elements_same_position fs j k once p number same = elim (cases_lt j k) [
  | inl less ↦ absurd (not_before fs j k once less number same)
  | inr more ↦ elim (cases_lt k j) [
    | inl less ↦ absurd (not_before fs k j once less p (sym same))
    | inr equal ↦ omega (arith, more, equal)
  ]
]

-- a number behind the first stands one position further
position_past : (x f : ℕ) (xs : List ℕ) → (position_of f xs < length xs) × (get_or xs (position_of f xs) 0 ≡ f) → (position_of f xs + 1 < suc (length xs)) × (get_or (x ∷ xs) (position_of f xs + 1) 0 ≡ f)
position_past x f xs rest = let one : position_of f xs + 1 ≡ suc (position_of f xs) = omega arith in (omega (arith, rest.0), rw one (rest.1))

-- a number of the list stands at its position
pub element_stands_at_position : (f : ℕ) (fs : List ℕ) → 1 ≤ tally f fs → (position_of f fs < length fs) × (get_or fs (position_of f fs) 0 ≡ f)
element_stands_at_position f [] there = absurd (omega arith)
element_stands_at_position f (x ∷ xs) there = elim (eqb_tells x f) as (λ _. (position_of f (x ∷ xs) < length (x ∷ xs)) × (get_or (x ∷ xs) (position_of f (x ∷ xs)) 0 ≡ f)) [
  | inl e ↦ rw e.0 (omega arith, e.1)
  | inr e ↦ rw e.0 (position_past x f xs (element_stands_at_position f xs (omega (arith, one_at_other_is_none x f e.1))))
]

-- and in a list that has each once, nowhere else
pub position_of_element_is_position : (fs : List ℕ) (k : ℕ) → ((f : ℕ) → tally f fs ≤ 1) → k < length fs → position_of (get_or fs k 0) fs ≡ k
position_of_element_is_position fs k once below =
    let there = element_stands_at_position (get_or fs k 0) fs (element_is_tallied fs k below) in
    equal_elements_same_position fs (position_of (get_or fs k 0) fs) k once there.0 below there.1

-- what holds of each number of a list
pub all_holds_at_position : (P : ℕ → Type 0) (fs : List ℕ) (k : ℕ) → All P fs → k < length fs → P (get_or fs k 0)
all_holds_at_position P [] k all below = absurd (omega arith)
all_holds_at_position P (x ∷ xs) zero all below = All-head P x xs all
all_holds_at_position P (x ∷ xs) (suc k) all below = all_holds_at_position P xs k (All-tail P x xs all) (omega arith)
