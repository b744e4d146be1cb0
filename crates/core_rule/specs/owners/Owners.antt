-- Whose each fragment and each spine word is.
use Rattle.std.specs.Prelude.{◌≡◌, ℕ, ◌<◌, ◌==◌, if◌then◌else◌, nat_lt, List}
use Rattle.core_machine.specs.table.Fragments.{tally}

-- 1 where the two are the same, and else 0
abbrev pub one_at : ℕ → ℕ → ℕ
one_at x f = if x == f then 1 else 0

-- whose a fragment is
pub data Owner : Type 0 where
  -- nobody's
  Free : Owner
  -- a seat's that has taken it and hasn't borne it
  Taken : (seat : ℕ) → Owner
  -- a seat's that has borne it for the object that it makes
  Borne : (seat : ℕ) → Owner
  -- a kept object's, by the object's number in the order of making
  Kept : (object position : ℕ) → Owner
  -- that of an object that is to be freed
  Dead : (object position : ℕ) → Owner

-- whether the fragment is taken
abbrev pub taken_bit : Owner → ℕ
taken_bit Free = 0
taken_bit (Taken number) = 1
taken_bit (Borne number) = 1
taken_bit (Kept i k) = 1
taken_bit (Dead i k) = 1

-- whether the fragment is nobody's
abbrev pub free_bit : Owner → ℕ
free_bit Free = 1
free_bit (Taken number) = 0
free_bit (Borne number) = 0
free_bit (Kept i k) = 0
free_bit (Dead i k) = 0

-- whether the fragment is born
abbrev pub born_bit : Owner → ℕ
born_bit Free = 0
born_bit (Taken number) = 0
born_bit (Borne number) = 1
born_bit (Kept i k) = 1
born_bit (Dead i k) = 1

-- whether the fragment is to be freed
abbrev pub dead_bit : Owner → ℕ
dead_bit Free = 0
dead_bit (Taken number) = 0
dead_bit (Borne number) = 0
dead_bit (Kept i k) = 0
dead_bit (Dead i k) = 1

-- whether the seat has the fragment, unborn
abbrev pub holds_bit : ℕ → Owner → ℕ
holds_bit number Free = 0
holds_bit number (Taken r) = one_at r number
holds_bit number (Borne r) = 0
holds_bit number (Kept i k) = 0
holds_bit number (Dead i k) = 0

-- whether the seat has the fragment, born but not yet an object's
abbrev pub bears_bit : ℕ → Owner → ℕ
bears_bit number Free = 0
bears_bit number (Taken r) = 0
bears_bit number (Borne r) = one_at r number
bears_bit number (Kept i k) = 0
bears_bit number (Dead i k) = 0

-- the owners once this one has the fragments of the list
abbrev pub owner_after : Owner → (ℕ → Owner) → List ℕ → ℕ → Owner
owner_after o owner fs f = if nat_lt 0 (tally f fs) then o else owner f

-- the seat that has the fragment, if one has it, is below this number
abbrev pub IsSeated : ℕ → Owner → Type 0
IsSeated seats (Taken number) = number < seats
IsSeated seats (Borne number) = number < seats
IsSeated seats _ = Unit {0}

-- the fragment is the board's first, kept or to be freed, or is nobody's
abbrev pub IsBoards : Owner → Type 0
IsBoards Free = Unit {0}
IsBoards (Kept i k) = (i ≡ 0) × (k ≡ 0)
IsBoards (Dead i k) = (i ≡ 0) × (k ≡ 0)
IsBoards _ = ⊥

-- what a seat has is one of so many seats', and fragment 0 is the board's first one
pub record OwnersStand (seats : ℕ) (owner : ℕ → Owner) : Type 0 where
  pub seated : (f : ℕ) → IsSeated seats (owner f)
  pub board : IsBoards (owner 0)

-- whose a spine word is
pub data SpineOwner : Type 0 where
  -- nobody's
  Open : SpineOwner
  -- a party's, as the k-th of the spine that a seat makes, or of the collector's copy, whose number comes after the seats'
  Placed : (party k : ℕ) → SpineOwner
  -- a kept array's, as the k-th of its spine, by the object's number
  Spined : (object k : ℕ) → SpineOwner
  -- nobody's any more: that of an array that is to be freed or was freed, or of one that has swung
  Gone : SpineOwner
