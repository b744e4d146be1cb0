-- The fragments of a group whose taken bit isn't set, counted by the bits of its control word.
use Rattle.std.proofs.Common.{◌≡◌, ℕ, zero, suc, ◌+◌, ◌-◌, ◌*◌, ◌/◌, ◌%◌, ◌^◌, ◌<◌, ◌≤◌, cond, [], ◌∷◌, length, refl, sym, ap, ◌∙◌, inl, inr, w16, arith}
use Rattle.std.specs.Int.{bit_at, bit_not, count_zeros}
use Rattle.std.specs.Int.RustNames.{count_ones}
use Rattle.std.specs.Int.Count.{ones_in}
use Rattle.std.proofs.lemmas.Bool.Decides.{eqb_tells, leb_tells}
use Rattle.std.proofs.lemmas.List.{length-append}
use Rattle.std.proofs.lemmas.Nat.{and_mask, ones-le}
use Rattle.std.proofs.Math.Nat.{pow-suc}
use Rattle.std.proofs.lemmas.Nat.Bits.{bit_at-lt, bit_at-suc, bit_at_lowest, bit_at_and, bit_at_not, bit_at_ones}
use Rattle.heap_words.specs.Control.{taken_at}
use Rattle.core_machine.proofs.Terms.{is_clear, clear_among, clear_in}
use Rattle.core_machine.proofs.table_lemmas.Clear.{clear_among-more, clear_among-zero, length-clear_among}

-- one digit more, above the others
ones_in-more : (d n : ℕ) → ones_in (d + 1) n ≡ ones_in d n + bit_at n d
unfolding ones_in
ones_in-more zero n = let low = bit_at_lowest n in omega arith
ones_in-more (suc d) n =
    let e : suc d + 1 ≡ suc (d + 1) = omega arith in
    let rest = ones_in-more d (n / 2) in
    let bit = bit_at-suc n d in
    rw e (omega arith)

-- among no digits none is set
ones_in-none : (n : ℕ) → ones_in 0 n ≡ 0
unfolding ones_in
ones_in-none n = refl

-- zero has no digit that is set
ones_in-zero : (d : ℕ) → ones_in d 0 ≡ 0
unfolding ones_in
ones_in-zero zero = refl
ones_in-zero (suc d) = let rest = ones_in-zero d in omega arith

-- digits past a number's length are not set
ones_in-past : (d more n : ℕ) → n < 2 ^ d → ones_in (d + more) n ≡ ones_in d n
unfolding ones_in
ones_in-past zero more n small =
    let none : n ≡ 0 = omega arith in
    let e : zero + more ≡ more = omega arith in
    rw (e, none) (ones_in-zero more)
ones_in-past (suc d) more n small =
    let e : suc d + more ≡ suc (d + more) = omega arith in
    let double = pow-suc 2 d in
    let rest = ones_in-past d more (n / 2) (omega arith) in
    rw e (omega arith)

-- a number has no more digits than it counts
below_pow : (n : ℕ) → n < 2 ^ n
below_pow zero = omega arith
below_pow (suc n) = let less = below_pow n in let double = pow-suc 2 n in omega arith

-- so the ones of a number are those among as many digits as it fits in
count_ones-in : (d n : ℕ) → n < 2 ^ d → count_ones n ≡ ones_in d n
unfolding count_ones
count_ones-in d n small = elim (leb_tells n d) as (λ _. ones_in n n ≡ ones_in d n) [
  | inl below ↦ let e : n + (d - n) ≡ d = omega (arith, below.1) in sym (ones_in-past n (d - n) n (below_pow n)) ∙ ap (λ (k : ℕ). ones_in k n) e
  | inr above ↦ let e : d + (n - d) ≡ n = omega (arith, above.1) in ap (λ (k : ℕ). ones_in k n) (sym e) ∙ ones_in-past d (n - d) n small
]

-- a bit below the sixteenth stands in the taken ones
taken_bit : (word i : ℕ) → i < 16 → bit_at (word % 2 ^ 16) i ≡ bit_at word i
taken_bit word i within =
    let low = and_mask word 16 in
    let and_ = bit_at_and word (2 ^ 16 - 1) i in
    let ones = bit_at_ones 16 i within in
    let small = bit_at-lt word i in
    ap (λ (n : ℕ). bit_at n i) (sym low) ∙ omega arith

-- one fragment more counts where its bit isn't set
length-one : (word fragment : ℕ) → length (cond (is_clear word fragment) (fragment ∷ []) []) ≡ 1 - bit_at word (taken_at fragment)
length-one word fragment =
    let small = bit_at-lt word (fragment % 16) in
    elim (eqb_tells (bit_at word (taken_at fragment)) 0) as (λ _. length (cond (is_clear word fragment) (fragment ∷ []) []) ≡ 1 - bit_at word (taken_at fragment)) [
      | inl unset ↦ rw (unset.0, unset.1) refl
      | inr is_set ↦ let one : bit_at word (taken_at fragment) ≡ 1 = omega (arith, is_set.1) in rw (is_set.0, one) refl
    ]

-- of the first fragments those whose taken bit isn't set are as many as the zeros among the first taken bits
clear_among-zeros : (group word count : ℕ) → count ≤ 16 → length (clear_among group word count) ≡ ones_in count (bit_not w16 (word % 2 ^ 16))
clear_among-zeros group word zero few = ap length (clear_among-zero group word) ∙ sym (ones_in-none _)
clear_among-zeros group word (suc count) few =
    let e : suc count ≡ count + 1 = omega arith in
    let rest = clear_among-zeros group word count (omega arith) in
    let more = ones_in-more count (bit_not w16 (word % 2 ^ 16)) in
    let position : (16 * group + count) % 16 ≡ count = omega arith in
    let one : length (cond (is_clear word (16 * group + count)) ((16 * group + count) ∷ []) []) ≡ 1 - bit_at word count =
    length-one word (16 * group + count) ∙ ap (λ (i : ℕ). 1 - bit_at word i) position in
    let not_ = bit_at_not w16 (word % 2 ^ 16) count (omega arith) (omega arith) in
    let bit = taken_bit word count (omega arith) in
    let long = ap length (clear_among-more group word count) ∙ length-append (clear_among group word count) (cond (is_clear word (16 * group + count)) ((16 * group + count) ∷ []) []) in
    rw e (long ∙ omega arith)

-- the fragments of a group whose taken bit isn't set are as many as the zeros of its taken bits
pub clear_count_is_zero_count : (group word : ℕ) → length (clear_in group word) ≡ count_zeros w16 (word % 2 ^ 16)
clear_count_is_zero_count group word =
    clear_among-zeros group word 16 (omega arith) ∙ sym (count_ones-in 16 (bit_not w16 (word % 2 ^ 16)) (omega arith))

-- and no more than sixteen
pub few_zeros : (word : ℕ) → count_zeros w16 (word % 2 ^ 16) ≤ 16
few_zeros word = let zeros = clear_count_is_zero_count 0 word in let few = length-clear_among 0 word 16 in omega arith

-- a group has at most sixteen taken fragments
pub taken_count_within_group : (word : ℕ) → count_ones (word % 2 ^ 16) ≤ 16
unfolding count_ones
taken_count_within_group word = ones-le 16 (word % 2 ^ 16) (omega arith)
