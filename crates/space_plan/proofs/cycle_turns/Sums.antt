-- Sums that grow, and numbers that count where a bit is set.
use Rattle.std.proofs.Common.{◌≡◌, ℕ, zero, suc, ◌+◌, ◌-◌, ◌<◌, ◌≤◌, inl, inr, ap, subst, arith}
use Rattle.std.proofs.lemmas.Bool.Decides.{eqb_tells}
use Rattle.core_rule.proofs.Terms.{sum_upto}
use Rattle.core_rule.proofs.lists.SumLemmas.{sum-suc, sum_le, sum_in_two_summands}
use Rattle.space_plan.specs.cycle_turns.ToldWords.{where_set, fragments_told}

-- where the bit stays set and the number doesn't fall
pub where_set_grows : (bit later n m : ℕ) → bit ≤ later → n ≤ m → where_set bit n ≤ where_set later m
where_set_grows zero later n m stays more = omega arith
where_set_grows (suc bit) zero n m stays more = absurd (omega (arith, stays))
where_set_grows (suc bit) (suc later) n m stays more = more

-- it is no more than the number, and that where the bit is set
pub where_set_within : (bit n : ℕ) → where_set bit n ≤ n
where_set_within zero n = omega arith
where_set_within (suc bit) n = omega arith

pub where_set_is_number : (bit n : ℕ) → 1 ≤ bit → where_set bit n ≡ n
where_set_is_number zero n some = absurd (omega (arith, some))
where_set_is_number (suc bit) n some = omega arith

pub where_unset_is_none : (bit n : ℕ) → bit ≡ 0 → where_set bit n ≡ 0
where_unset_is_none bit n none = ap (λ b. where_set b n) none

pub where_set_of_none : (bit n : ℕ) → n ≡ 0 → where_set bit n ≡ 0
where_set_of_none zero n none = omega arith
where_set_of_none (suc bit) n none = none

pub set_where_some : (bit n : ℕ) → 1 ≤ where_set bit n → 1 ≤ bit
set_where_some zero n some = absurd (omega (arith, some))
set_where_some (suc bit) n some = omega arith

-- more spine words are told by the first of more fragments
pub fragments_told_grow : (n m : ℕ) → n ≤ m → fragments_told n ≤ fragments_told m
fragments_told_grow zero m more = omega arith
fragments_told_grow (suc n) zero more = absurd (omega (arith, more))
fragments_told_grow (suc n) (suc m) more = omega (arith, more)

pub told_within_fragments : (n : ℕ) → n ≤ fragments_told n
told_within_fragments zero = omega arith
told_within_fragments (suc n) = omega arith

pub fragments_told_within : (n : ℕ) → fragments_told n ≤ n + 1
fragments_told_within zero = omega arith
fragments_told_within (suc n) = omega arith

pub fragments_of_some_told : (n : ℕ) → 1 ≤ n → fragments_told n ≡ n + 1
fragments_of_some_told zero some = absurd (omega (arith, some))
fragments_of_some_told (suc n) some = omega arith

-- a sum grows by as much as one of its summands, where none falls
pub sum_grows_at : (n d x : ℕ) (f g : ℕ → ℕ) → x < n → ((i : ℕ) → i < n → f i ≤ g i) → f x + d ≤ g x → sum_upto n f + d ≤ sum_upto n g
sum_grows_at zero d x f g below less more = absurd (omega (arith, below))
sum_grows_at (suc n) d x f g below less more = rw (sum-suc n f, sum-suc n g) (elim (eqb_tells x n) as (λ _. sum_upto n f + f n + d ≤ sum_upto n g + g n) [
  | inl here ↦
      let rest : sum_upto n f ≤ sum_upto n g = sum_le n f g (λ i within. less i (omega (arith, within))) in
      let last : f n + d ≤ g n = subst (λ i. f i + d ≤ g i) here.1 more in
      omega (arith, rest, last)
  | inr apart ↦
      let rest : sum_upto n f + d ≤ sum_upto n g = sum_grows_at n d x f g (omega (arith, below, apart.1)) (λ i within. less i (omega (arith, within))) more in
      omega (arith, rest, less n (omega arith))
])

-- a sum over more numbers is no less
pub sum_of_more : (a b : ℕ) (f : ℕ → ℕ) → a ≤ b → sum_upto a f ≤ sum_upto b f
sum_of_more a b f more =
    let whole : a + (b - a) ≡ b = omega (arith, more) in
    subst (λ n. sum_upto a f ≤ sum_upto n f) whole (omega (arith, sum_in_two_summands a (b - a) f))
