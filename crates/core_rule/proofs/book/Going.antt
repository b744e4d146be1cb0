-- What a step does to whose the fragments are, and to what was made.
use Rattle.std.proofs.Common.{◌≡◌, ℕ, ◌<◌, ◌≤◌, ◌⊎◌, List, length}
use Rattle.core_rule.proofs.Terms.{Id, id_at, Owner, Free, Taken, Borne, Kept, Dead, taken_bit}

-- whose a fragment is now, where so many objects had been made: it stays whose it was, is taken, given back, borne, made a new object's, to be
-- freed, or freed
pub data OwnerGoes (made : ℕ) : Owner → Owner → Type 0 where
  stays : (o : Owner) → OwnerGoes made o o
  is_taken : (number : ℕ) → OwnerGoes made Free (Taken number)
  is_given : (number : ℕ) → OwnerGoes made (Taken number) Free
  is_borne : (number : ℕ) → OwnerGoes made (Taken number) (Borne number)
  taken_becomes_kept : (number i k : ℕ) → made ≤ i → OwnerGoes made (Taken number) (Kept i k)
  borne_becomes_kept : (number i k : ℕ) → made ≤ i → OwnerGoes made (Borne number) (Kept i k)
  is_settled : (i k : ℕ) → OwnerGoes made (Kept i k) (Dead i k)
  is_freed : (i k : ℕ) → OwnerGoes made (Dead i k) Free

-- so it is with each fragment, and fragments are taken, or come free, but not both
pub record OwnersGoOn (made : ℕ) (owner now : ℕ → Owner) : Type 0 where
  pub each : (f : ℕ) → OwnerGoes made (owner f) (now f)
  pub one_way : ((f : ℕ) → taken_bit (now f) ≤ taken_bit (owner f)) ⊎ ((f : ℕ) → taken_bit (owner f) ≤ taken_bit (now f))

-- what was made keeps its number
abbrev pub MadeGoesOn : List Id → List Id → Type 0
MadeGoesOn made now = (i : ℕ) → i < length made → id_at now i ≡ id_at made i
