-- How many fragments are free, and how a claim changes that.
use Rattle.std.proofs.Common.{zero, suc, ◌≡◌, ◌≢◌, ℕ, ◌+◌, ◌*◌, ◌%◌, ◌<◌, Bool, false, List, [], ◌∷◌, length, filter, refl, sym, ap, inl, inr, bit_or, arith}
use Rattle.std.specs.List.{range_with_len}
use Rattle.std.specs.Int.{bit_at}
use Rattle.std.proofs.lemmas.Bool.{ne_eqb}
use Rattle.std.proofs.lemmas.Bool.Decides.{eqb_tells}
use Rattle.std.proofs.lemmas.Nat.Bits.{bit_at_or, bit_at_ones, bit_at-lt}
use Rattle.heap_words.specs.Control.{taken_at}
use Rattle.core_machine.proofs.Terms.{Heap, Control, is_clear, clear_among, clear_in, at, put, table_length, all_taken, free_count}
use Rattle.core_machine.specs.machine.Sums.{sum_upto}
use Rattle.core_machine.proofs.table_lemmas.Addresses.{at-put_same, at-put_other}

-- sums of functions that are the same below the bound
pub sum_of_same_functions : (n : ℕ) (f g : ℕ → ℕ) → ((i : ℕ) → i < n → f i ≡ g i) → sum_upto n f ≡ sum_upto n g
unfolding sum_upto
sum_of_same_functions zero f g same = refl
sum_of_same_functions (suc n) f g same =
    let rest = sum_of_same_functions n f g (λ i within. same i (omega arith)) in
    let last = same n (omega arith) in
    omega arith

-- two functions that are the same but at one number below the bound
pub sum_but_one_number : (n : ℕ) (f g : ℕ → ℕ) (at_ : ℕ) → at_ < n → ((i : ℕ) → i < n → i ≢ at_ → f i ≡ g i) → sum_upto n f + g at_ ≡ sum_upto n g + f at_
unfolding sum_upto
sum_but_one_number zero f g at_ within same = absurd (omega arith)
sum_but_one_number (suc n) f g at_ within same =
    elim (eqb_tells at_ n) as (λ _. sum_upto n f + f n + g at_ ≡ sum_upto n g + g n + f at_) [
      | inl here ↦
          let rest = sum_of_same_functions n f g (λ i below. same i (omega arith) (λ e. absurd (omega (arith, here.1)))) in
          let f_ = ap f here.1 in
          let g_ = ap g here.1 in
          omega arith
      | inr there ↦
          let rest = sum_but_one_number n f g at_ (omega (arith, there.1)) (λ i below other. same i (omega arith) other) in
          let last = same n (omega arith) (λ e. there.1 (sym e)) in
          omega arith
    ]

-- nothing below the bound
pub sum_of_nothing_is_zero : (n : ℕ) (f : ℕ → ℕ) → ((i : ℕ) → i < n → f i ≡ 0) → sum_upto n f ≡ 0
unfolding sum_upto
sum_of_nothing_is_zero zero f none = refl
sum_of_nothing_is_zero (suc n) f none =
    let rest = sum_of_nothing_is_zero n f (λ i within. none i (omega arith)) in
    let last = none n (omega arith) in
    omega arith

-- a test that nothing passes keeps nothing
filter_none : (p : ℕ → Bool) (xs : List ℕ) → ((x : ℕ) → p x ≡ false) → filter p xs ≡ []
filter_none p [] none = refl
filter_none p (x ∷ xs) none = rw (none x) (filter_none p xs none)

-- a claimed group has no clear fragment
pub claimed_group_has_none_clear : (group word : ℕ) → clear_in group (bit_or word all_taken) ≡ []
unfolding clear_among
claimed_group_has_none_clear group word = filter_none (is_clear (bit_or word all_taken)) (range_with_len (16 * group) 16) (claimed_taken word)
  where
    claimed_taken : (word fragment : ℕ) → is_clear (bit_or word all_taken) fragment ≡ false
    claimed_taken word fragment =
        let one = bit_at_ones 16 (fragment % 16) (omega arith) in
        let small = bit_at-lt word (fragment % 16) in
        let or_ = bit_at_or word all_taken (fragment % 16) in
        ne_eqb (bit_at (bit_or word all_taken) (taken_at fragment)) 0 (λ e. absurd (omega arith))

-- a claim takes what was clear in its group
pub free_count_after_claim : (heap : Heap) (words : List ℕ) (group : ℕ) → length words ≡ table_length heap → group < heap.groups
    → free_count heap (put heap words (Control group) (bit_or (at heap words (Control group)) all_taken)) + length (clear_in group (at heap words (Control group)))
    ≡ free_count heap words
free_count_after_claim heap words group table within =
    let now = put heap words (Control group) (bit_or (at heap words (Control group)) all_taken) in
    let here : length (clear_in group (at heap now (Control group))) ≡ 0 =
    rw (at-put_same heap words (Control group) (bit_or (at heap words (Control group)) all_taken) table within) (ap length (claimed_group_has_none_clear group (at heap words (Control group)))) in
    let change = sum_but_one_number heap.groups (λ g. length (clear_in g (at heap now (Control g)))) (λ g. length (clear_in g (at heap words (Control g)))) group within
    (λ g below other. ap (λ (w : ℕ). length (clear_in g w)) (at-put_other heap words (Control group) (Control g) (bit_or (at heap words (Control group)) all_taken) within below (λ e. other (cc e)))) in
    omega arith

-- a sum with one number more
pub sum_upto-more : (n : ℕ) (f : ℕ → ℕ) → sum_upto (n + 1) f ≡ sum_upto n f + f n
unfolding sum_upto
sum_upto-more n f = let e : n + 1 ≡ suc n = omega arith in ap (λ (m : ℕ). sum_upto m f) e

-- nothing is summed yet
pub sum_upto-none : (f : ℕ → ℕ) → sum_upto 0 f ≡ 0
unfolding sum_upto
sum_upto-none f = refl
