-- The numbers of ids in the order of making.
use Rattle.std.proofs.Common.{◌≡◌, ◌≢◌, ℕ, zero, suc, ◌+◌, ◌<◌, ◌≤◌, ◌==◌, true, false, ◌⊎◌, inl, inr, List, [], ◌∷◌, ◌++◌, length, slice_get, Some, refl, ap, arith}
use Rattle.std.proofs.lemmas.Bool.Decides.{eqb_tells}
use Rattle.core_rule.proofs.Terms.{Id, Board, Made, is_same_id, object_number, id_at}

-- the test tells whether two ids are the same
pub same_id_test_decides : (a b : Id) → ((is_same_id a b ≡ true) × (a ≡ b)) ⊎ ((is_same_id a b ≡ false) × (a ≢ b))
same_id_test_decides Board Board = inl (refl, refl)
same_id_test_decides Board (Made t n) = inr (refl, λ e. cc)
same_id_test_decides (Made s m) Board = inr (refl, λ e. cc)
same_id_test_decides (Made s m) (Made t n) = elim (eqb_tells s t) as (λ _. ((is_same_id (Made s m) (Made t n) ≡ true) × (Made s m ≡ Made t n)) ⊎ ((is_same_id (Made s m) (Made t n) ≡ false) × (Made s m ≢ Made t n))) [
  | inl seat ↦ rw seat.0 (elim (eqb_tells m n) as (λ _. (((m == n) ≡ true) × (Made s m ≡ Made t n)) ⊎ (((m == n) ≡ false) × (Made s m ≢ Made t n))) [
    | inl count ↦ inl (count.0, cc (seat.1, count.1))
    | inr count ↦ inr (count.0, λ e. count.1 (cc))
  ])
  | inr seat ↦ rw seat.0 (inr (refl, λ e. seat.1 (cc)))
]

-- a number is at most how many there are
pub number_within_made : (made : List Id) (id : Id) → object_number made id ≤ length made
number_within_made [] id = omega arith
number_within_made (x ∷ made) id = elim (same_id_test_decides x id) as (λ _. object_number (x ∷ made) id ≤ length (x ∷ made)) [
  | inl e ↦ rw e.0 (omega arith)
  | inr e ↦ rw e.0 (omega (arith, number_within_made made id))
]

-- an id that has a number stands there
pub id_at_own_number : (made : List Id) (id : Id) → object_number made id < length made → id_at made (object_number made id) ≡ id
id_at_own_number [] id = λ below. absurd (omega (arith, below))
id_at_own_number (x ∷ made) id = elim (same_id_test_decides x id) as (λ _. object_number (x ∷ made) id < length (x ∷ made) → id_at (x ∷ made) (object_number (x ∷ made) id) ≡ id) [
  | inl e ↦ rw e.0 (λ below. e.1)
  | inr e ↦ rw e.0 (λ below. let one : object_number made id + 1 ≡ suc (object_number made id) = omega arith in rw one (id_at_own_number made id (omega (arith, below))))
]

-- what was made keeps its number when one more is made
pub number_stays_by_append : (made : List Id) (new id : Id) → object_number made id < length made → object_number (made ++ new ∷ []) id ≡ object_number made id
number_stays_by_append [] new id = λ below. absurd (omega (arith, below))
number_stays_by_append (x ∷ made) new id = elim (same_id_test_decides x id) as (λ _. object_number (x ∷ made) id < length (x ∷ made) → object_number ((x ∷ made) ++ new ∷ []) id ≡ object_number (x ∷ made) id) [
  | inl e ↦ rw e.0 (λ below. refl)
  | inr e ↦ rw e.0 (λ below. ap (λ n. n + 1) (number_stays_by_append made new id (omega (arith, below))))
]

-- a new one gets the next
pub new_number_is_next : (made : List Id) (id : Id) → object_number made id ≡ length made → object_number (made ++ id ∷ []) id ≡ length made
new_number_is_next [] id = λ none. elim (same_id_test_decides id id) as (λ _. object_number (id ∷ []) id ≡ 0) [
  | inl e ↦ rw e.0 refl
  | inr e ↦ absurd (e.1 refl)
]
new_number_is_next (x ∷ made) id = elim (same_id_test_decides x id) as (λ _. object_number (x ∷ made) id ≡ length (x ∷ made) → object_number ((x ∷ made) ++ id ∷ []) id ≡ length (x ∷ made)) [
  | inl e ↦ rw e.0 (λ none. absurd (omega (arith, none)))
  | inr e ↦ rw e.0 (λ none. omega (arith, new_number_is_next made id (omega (arith, none))))
]

-- the ids stand where they stood, the new one last
pub id_stays_by_append : (made : List Id) (new : Id) (i : ℕ) → i < length made → id_at (made ++ new ∷ []) i ≡ id_at made i
id_stays_by_append [] new i below = absurd (omega arith)
id_stays_by_append (x ∷ made) new zero below = refl
id_stays_by_append (x ∷ made) new (suc i) below = id_stays_by_append made new i (omega arith)

pub new_id_stands_last : (made : List Id) (new : Id) → id_at (made ++ new ∷ []) (length made) ≡ new
new_id_stands_last [] new = refl
new_id_stands_last (x ∷ made) new = new_id_stands_last made new

pub first_stays_by_append : (made : List Id) (new : Id) (x : Id) → slice_get made 0 ≡ Some x → slice_get (made ++ new ∷ []) 0 ≡ Some x
first_stays_by_append [] new x there = absurd (cc)
first_stays_by_append (y ∷ made) new x there = there
