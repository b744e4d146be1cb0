-- What the bits of an owner tell.
use Rattle.std.proofs.Common.{◌≡◌, ◌≢◌, ℕ, zero, suc, ◌+◌, ◌-◌, ◌≤◌, refl, sym, ap, ◌∙◌, arith}
use Rattle.core_rule.proofs.Terms.{Owner, Free, Taken, Borne, Kept, Dead, IsBoards, taken_bit, free_bit, born_bit, holds_bit, bears_bit, dead_bit}
use Rattle.core_rule.proofs.lists.Tallies.{one_at_some_is_same, one_at_within_one}

-- what isn't taken is nobody's
pub untaken_is_free : (o : Owner) → taken_bit o ≡ 0 → o ≡ Free
untaken_is_free Free none = refl
untaken_is_free _ none = absurd (omega (arith, none))

-- what a seat holds is its own, once
pub holds_bit_is_taken : (number : ℕ) (o : Owner) → 1 ≤ holds_bit number o → o ≡ Taken number
holds_bit_is_taken number (Taken r) some = ap Taken (one_at_some_is_same r number some)
holds_bit_is_taken number _ some = absurd (omega (arith, some))

pub holds_bit_within_one : (number : ℕ) (o : Owner) → holds_bit number o ≤ 1
holds_bit_within_one number (Taken r) = one_at_within_one r number
holds_bit_within_one number _ = omega arith

pub born_bit_within_one : (o : Owner) → born_bit o ≤ 1
born_bit_within_one Free = omega arith
born_bit_within_one (Taken number) = omega arith
born_bit_within_one (Borne number) = omega arith
born_bit_within_one (Kept i k) = omega arith
born_bit_within_one (Dead i k) = omega arith

pub dead_bit_within_one : (o : Owner) → dead_bit o ≤ 1
dead_bit_within_one (Dead i k) = omega arith
dead_bit_within_one _ = omega arith

-- what is to be freed has been an object's
pub dead_bit_is_dead : (o : Owner) → dead_bit o ≡ 1 → (i : ℕ) × (k : ℕ) × (o ≡ Dead i k)
dead_bit_is_dead (Dead i k) one = (i, k, refl)
dead_bit_is_dead _ one = absurd (omega (arith, one))

-- two bits of which each is one where the other is are the same
pub alike_bits_are_equal : (a b : ℕ) → a ≤ 1 → b ≤ 1 → (a ≡ 1 → b ≡ 1) → (b ≡ 1 → a ≡ 1) → b ≡ a
alike_bits_are_equal zero zero few less on back = refl
alike_bits_are_equal zero (suc b) few less on back = let one = back (omega (arith, less)) in omega (arith, one)
alike_bits_are_equal (suc a) zero few less on back = let one = on (omega (arith, few)) in omega (arith, one)
alike_bits_are_equal (suc a) (suc b) few less on back = omega (arith, few, less)

-- each fragment is taken or free
pub taken_or_free : (o : Owner) → 1 ≡ taken_bit o + free_bit o
taken_or_free Free = refl
taken_or_free (Taken number) = refl
taken_or_free (Borne number) = refl
taken_or_free (Kept i k) = refl
taken_or_free (Dead i k) = refl

-- it is free where its taken bit isn't set
pub free_bit_is_untaken : (o : Owner) (bit : ℕ) → bit ≡ taken_bit o → 1 - bit ≡ free_bit o
free_bit_is_untaken o bit same = omega (arith, same, taken_or_free o)

-- nothing is nobody's and a seat's
pub free_is_no_seats : (number : ℕ) (o : Owner) → o ≡ Free → o ≡ Taken number → ⊥
free_is_no_seats number o free held = let none : Free ≡ Taken number = sym free ∙ held in absurd (cc)

-- what a seat holds or bears
abbrev pub IsOwn : ℕ → Owner → Type 0
IsOwn number o = holds_bit number o + bears_bit number o ≡ 1

-- a fragment is a seat's once, and then no object's
pub own_bits_within_one : (number : ℕ) (o : Owner) → holds_bit number o + bears_bit number o ≤ 1
own_bits_within_one number (Taken r) = omega (arith, one_at_within_one r number)
own_bits_within_one number (Borne r) = omega (arith, one_at_within_one r number)
own_bits_within_one number _ = omega arith

pub own_is_not_kept : (number i k : ℕ) (o : Owner) → IsOwn number o → o ≢ Kept i k
own_is_not_kept number i k o own e = let none : holds_bit number o + bears_bit number o ≡ 0 = ap (λ x. holds_bit number x + bears_bit number x) e in omega arith

-- nor is to be freed
pub own_is_not_dead : (number i k : ℕ) (o : Owner) → IsOwn number o → o ≢ Dead i k
own_is_not_dead number i k o own is = let none : holds_bit number o + bears_bit number o ≡ 0 = ap (λ x. holds_bit number x + bears_bit number x) is in omega arith

pub own_is_not_boards : (number : ℕ) (o : Owner) → IsOwn number o → ¬ IsBoards o
own_is_not_boards number Free own boards = omega (arith, own)
own_is_not_boards number (Kept i k) own boards = omega (arith, own)
own_is_not_boards number (Dead i k) own boards = omega (arith, own)
own_is_not_boards number _ own boards = boards

-- it is one seat's alone
pub own_is_of_one_seat : (number r : ℕ) (o : Owner) → IsOwn number o → IsOwn r o → number ≡ r
own_is_of_one_seat number r (Taken s) p e = omega (arith, p, e, one_at_some_is_same s number (omega (arith, p)), one_at_some_is_same s r (omega (arith, e)))
own_is_of_one_seat number r (Borne s) p e = omega (arith, p, e, one_at_some_is_same s number (omega (arith, p)), one_at_some_is_same s r (omega (arith, e)))
own_is_of_one_seat number r _ p e = absurd (omega (arith, p))

-- it is taken, and not free
pub own_is_taken : (number : ℕ) (o : Owner) → IsOwn number o → taken_bit o ≡ 1
own_is_taken number (Taken r) own = refl
own_is_taken number (Borne r) own = refl
own_is_taken number _ own = absurd (omega (arith, own))

pub own_is_not_free : (number : ℕ) (o : Owner) → IsOwn number o → free_bit o ≡ 0
own_is_not_free number (Taken r) own = refl
own_is_not_free number (Borne r) own = refl
own_is_not_free number _ own = absurd (omega (arith, own))

-- of a seat's own fragments those are born that it bears
pub own_born_is_borne : (number : ℕ) (o : Owner) → IsOwn number o → born_bit o ≡ bears_bit number o
own_born_is_borne number (Taken r) own = refl
own_born_is_borne number (Borne r) own = omega (arith, own)
own_born_is_borne number Free own = refl
own_born_is_borne number (Kept i k) own = absurd (omega (arith, own))
own_born_is_borne number (Dead i k) own = absurd (omega (arith, own))

-- none of them is another's
pub own_is_not_others : (number r : ℕ) (o : Owner) → r ≢ number → IsOwn number o → (holds_bit r o ≡ 0) × (bears_bit r o ≡ 0)
own_is_not_others number r o apart own = both (holds_bit r o) (bears_bit r o) (own_bits_within_one r o) (λ all. apart (own_is_of_one_seat r number o all own))
  where
    both : (a b : ℕ) → a + b ≤ 1 → (a + b ≡ 1 → ⊥) → (a ≡ 0) × (b ≡ 0)
    both zero zero few none = (refl, refl)
    both zero (suc b) few none = absurd (none (omega (arith, few)))
    both (suc a) b few none = absurd (none (omega (arith, few)))
