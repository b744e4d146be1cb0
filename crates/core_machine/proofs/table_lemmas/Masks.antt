-- The bits of masks, and that giving back what was claimed undoes the claim.
use Rattle.std.proofs.Common.{zero, suc, ◌≡◌, ℕ, ◌+◌, ◌-◌, ◌*◌, ◌%◌, ◌^◌, ◌<◌, ◌≤◌, false, cond, eqb, max, List, [], ◌∷◌, ◌++◌, fold, refl, sym, ap, subst, ◌∙◌, inl, inr, bit_or, w64, arith}
use Rattle.std.specs.Int.{bit_at}
use Rattle.std.proofs.lemmas.Bool.{ne_eqb}
use Rattle.std.proofs.lemmas.Nat.{and_le_r, or_lt}
use Rattle.std.proofs.Math.Pow.{pow-lt}
use Rattle.std.proofs.lemmas.Bool.Decides.{eqb_tells, leb_tells}
use Rattle.std.proofs.lemmas.Nat.Bits.{bit_at_or, bit_at_and, bit_at_not, bit_at_ones, bit_at_ones_above, bit_at-lt, bit_at-zero, bit_at-pow_same, bit_at-pow_other, same_from_bits, same_from_bits_below}
use Rattle.core_machine.proofs.Terms.{is_clear, clear_among, clear_in, mask_of, all_taken, word_without_taken}
use Rattle.core_machine.proofs.table_lemmas.Clear.{clear_among-more, clear_among-zero}

-- whether some fragment of the list has position i in its group, as a bit
abbrev pub some_at : ℕ → List ℕ → ℕ
some_at i [] = 0
some_at i (fragment ∷ more) = max (cond (eqb (fragment % 16) i) 1 0) (some_at i more)

pub some_at-append : (i : ℕ) (xs ys : List ℕ) → some_at i (xs ++ ys) ≡ max (some_at i xs) (some_at i ys)
some_at-append i [] ys = omega arith
some_at-append i (x ∷ xs) ys = let rest = some_at-append i xs ys in rw rest (omega arith)

-- one bit of a fragment
one_bit : (fragment i : ℕ) → bit_at (2 ^ (fragment % 16)) i ≡ cond (eqb (fragment % 16) i) 1 0
one_bit fragment i =
    elim (eqb_tells (fragment % 16) i) as (λ _. bit_at (2 ^ (fragment % 16)) i ≡ cond (eqb (fragment % 16) i) 1 0) [
      | inl here ↦ rw here.0 (subst (λ (k : ℕ). bit_at (2 ^ (fragment % 16)) k ≡ 1) here.1 (bit_at-pow_same (fragment % 16)))
      | inr there ↦ rw there.0 (bit_at-pow_other (fragment % 16) i (λ e. there.1 (sym e)))
    ]

mask_from : (bits : ℕ) (fragments : List ℕ) (i : ℕ)
    → bit_at (fold (λ b f. bit_or b (2 ^ (f % 16))) bits fragments) i ≡ max (bit_at bits i) (some_at i fragments)
mask_from bits [] i = omega arith
mask_from bits (fragment ∷ more) i =
    let rest = mask_from (bit_or bits (2 ^ (fragment % 16))) more i in
    let or_ = bit_at_or bits (2 ^ (fragment % 16)) i in
    let one = one_bit fragment i in
    omega arith

-- a bit of a mask tells whether some fragment has its position
pub mask-bit : (fragments : List ℕ) (i : ℕ) → bit_at (mask_of fragments) i ≡ some_at i fragments
unfolding mask_of
mask-bit fragments i = let all = mask_from 0 fragments i in let zero_ = bit_at-zero i in omega arith

-- a fragment's position is below sixteen
some_at-above : (i : ℕ) (fragments : List ℕ) → 16 ≤ i → some_at i fragments ≡ 0
some_at-above i [] above = refl
some_at-above i (fragment ∷ more) above =
    let rest = some_at-above i more above in
    let out : eqb (fragment % 16) i ≡ false = ne_eqb (fragment % 16) i (λ e. absurd (omega arith)) in
    rw out (omega arith)

mask_from-lt : (bits : ℕ) (fragments : List ℕ) → bits < 2 ^ 16 → fold (λ b f. bit_or b (2 ^ (f % 16))) bits fragments < 2 ^ 16
mask_from-lt bits [] small = small
mask_from-lt bits (fragment ∷ more) small = mask_from-lt (bit_or bits (2 ^ (fragment % 16))) more (or_lt 16 bits (2 ^ (fragment % 16)) small (pow-lt {i = fragment % 16} {j = 16} (omega arith)))

-- a mask has sixteen bits
pub mask_is_small : (fragments : List ℕ) → mask_of fragments < 2 ^ 16
unfolding mask_of
mask_is_small fragments = mask_from-lt 0 fragments (omega arith)

-- the last of the fragments that were looked at
last_at : (group word count i : ℕ) → count < 16
    → some_at i (cond (is_clear word (16 * group + count)) ((16 * group + count) ∷ []) []) ≡ cond (eqb count i) (1 - bit_at word count) 0
last_at group word count i within =
    let position : (16 * group + count) % 16 ≡ count = omega arith in
    let small = bit_at-lt word count in
    rw position (elim (eqb_tells (bit_at word count) 0) as (λ _. some_at i (cond (eqb (bit_at word count) 0) ((16 * group + count) ∷ []) []) ≡ cond (eqb count i) (1 - bit_at word count) 0) [
      | inl unset ↦ rw (unset.0, position, unset.1) (omega arith)
      | inr is_set ↦ let one : bit_at word count ≡ 1 = omega (arith, is_set.1) in rw (is_set.0, one) (elim (eqb_tells count i) as (λ _. 0 ≡ cond (eqb count i) (1 - 1) 0) [ inl a ↦ rw a.0 refl | inr b ↦ rw b.0 refl ])
    ])

-- the clear fragments with one more looked at
clear_at-more : (group word count i : ℕ) → count < 16
    → some_at i (clear_among group word (suc count)) ≡ max (some_at i (clear_among group word count)) (cond (eqb count i) (1 - bit_at word count) 0)
clear_at-more group word count i within =
    let e : suc count ≡ count + 1 = omega arith in
    ap (λ (n : ℕ). some_at i (clear_among group word n)) e ∙ ap (some_at i) (clear_among-more group word count)
    ∙ some_at-append i (clear_among group word count) (cond (is_clear word (16 * group + count)) ((16 * group + count) ∷ []) [])
    ∙ ap (max (some_at i (clear_among group word count))) (last_at group word count i within)

some_at-clear_above : (group word count i : ℕ) → count ≤ 16 → count ≤ i → some_at i (clear_among group word count) ≡ 0
some_at-clear_above group word zero i few above = ap (some_at i) (clear_among-zero group word)
some_at-clear_above group word (suc count) i few above =
    let rest = some_at-clear_above group word count i (omega arith) (omega arith) in
    let out : eqb count i ≡ false = ne_eqb count i (λ e. absurd (omega arith)) in
    clear_at-more group word count i (omega arith) ∙ rw (rest, out) refl

-- among the clear fragments is one of position i exactly where the word's bit isn't set
pub some_at-clear : (group word count i : ℕ) → count ≤ 16 → i < count → some_at i (clear_among group word count) ≡ 1 - bit_at word i
some_at-clear group word zero i few within = absurd (omega arith)
some_at-clear group word (suc count) i few within =
    clear_at-more group word count i (omega arith) ∙ (elim (eqb_tells count i) as (λ _. max (some_at i (clear_among group word count)) (cond (eqb count i) (1 - bit_at word count) 0) ≡ 1 - bit_at word i) [
      | inl here ↦
          let none = some_at-clear_above group word count i (omega arith) (omega (arith, here.1)) in
          rw (here.0, none, here.1) (omega arith)
      | inr there ↦
          let rest = some_at-clear group word count i (omega arith) (omega (arith, there.1)) in
          rw (there.0, rest) (omega arith)
    ])

-- a group without a clear fragment is as if claimed
pub full_group_stays_when_claimed : (group word : ℕ) → clear_in group word ≡ [] → bit_or word all_taken ≡ word
full_group_stays_when_claimed group word none = same_from_bits (bit_or word all_taken) word (full group word none)
  where
    full : (group word : ℕ) → clear_in group word ≡ [] → (i : ℕ) → bit_at (bit_or word all_taken) i ≡ bit_at word i
    full group word none i =
        let or_ = bit_at_or word all_taken i in
        let small = bit_at-lt word i in
        elim (leb_tells 16 i) as (λ _. bit_at (bit_or word all_taken) i ≡ bit_at word i) [
          | inl above ↦ let ones = bit_at_ones_above 16 i above.1 in omega arith
          | inr below ↦
              let ones = bit_at_ones 16 i below.1 in
              let clear = some_at-clear group word 16 i (omega arith) below.1 in
              let empty = ap (some_at i) none in
              omega arith
        ]

-- to give back what was claimed leaves the word as it was
pub give_back_undoes_claim : (group word : ℕ) → word < 2 ^ 64 → word_without_taken (mask_of (clear_in group word)) (bit_or word all_taken) ≡ word
give_back_undoes_claim group word fits =
    same_from_bits_below 64 (word_without_taken (mask_of (clear_in group word)) (bit_or word all_taken)) word
    (omega (arith, and_le_r (bit_or word all_taken) (2 ^ 64 - 1 - mask_of (clear_in group word)))) fits (bits_same group word)
  where
    bits_same : (group word : ℕ) (i : ℕ) → i < 64 → bit_at (word_without_taken (mask_of (clear_in group word)) (bit_or word all_taken)) i ≡ bit_at word i
    bits_same group word i within =
        let and_ = bit_at_and (bit_or word all_taken) (2 ^ 64 - 1 - mask_of (clear_in group word)) i in
        let or_ = bit_at_or word all_taken i in
        let small = bit_at-lt word i in
        let lt = mask_is_small (clear_in group word) in
        let not_ = bit_at_not w64 (mask_of (clear_in group word)) i (omega arith) within in
        let one = mask-bit (clear_in group word) i in
        elim (leb_tells 16 i) as (λ _. bit_at (word_without_taken (mask_of (clear_in group word)) (bit_or word all_taken)) i ≡ bit_at word i) [
          | inl above ↦
              let ones = bit_at_ones_above 16 i above.1 in
              let none = some_at-above i (clear_in group word) above.1 in
              omega arith
          | inr below ↦
              let ones = bit_at_ones 16 i below.1 in
              let clear = some_at-clear group word 16 i (omega arith) below.1 in
              omega arith
        ]
