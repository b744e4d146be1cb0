-- Reading and writing the words of a table.
use Rattle.std.proofs.Common.{◌≡◌, ◌≢◌, ℕ, ◌+◌, ◌*◌, ◌<◌, ◌≤◌, ◌^◌, inl, inr, List, length, get_or, set, zero, suc, refl, sym, subst, arith, lt-ltb, le-ltb}
use Rattle.std.proofs.lemmas.List.{get_or-set_same, get_or-set_other, set-get_or, length-set, get_or_past, set_past}
use Rattle.std.specs.List.{All}
use Rattle.std.proofs.lemmas.Bool.Decides.{leb_tells}
use Rattle.std.proofs.lemmas.List.Elements.{All-set}
use Rattle.core_machine.proofs.Terms.{Heap, Address, Phase, Answer, Budget, Control, Word, table_length, spine_index, index_of, InTable, HasWord, at, put}
use Rattle.core_machine.specs.declared.table.address.Address.TheVariants.{Spot, Spine}

-- a spine word stands among as many words as both halves have exactly where its offset is below those of one
pub spine_within : (spine half offset : ℕ) → half < 2 → offset < 2 * spine → spine_index spine half offset < 4 * spine
spine_within spine zero offset below within = rw (lt-ltb offset (2 * spine) within) (omega arith)
spine_within spine (suc zero) offset below within = rw (lt-ltb offset (2 * spine) within) (omega arith)
spine_within spine (suc (suc n)) offset below within = absurd (omega arith)

pub spine_past : (spine half offset : ℕ) → 2 * spine ≤ offset → 4 * spine ≤ spine_index spine half offset
spine_past spine half offset past = rw (le-ltb offset (2 * spine) past) (omega arith)

-- no two words of the halves stand in one place
half_apart : (spine half half' offset offset' : ℕ) → half < 2 → half' < 2 → offset < 2 * spine → offset' < 2 * spine
    → 2 * spine * half + offset ≡ 2 * spine * half' + offset' → (half ≡ half') × (offset ≡ offset')
half_apart spine zero zero offset offset' b b' w w' same = (refl, omega arith)
half_apart spine zero (suc zero) offset offset' b b' w w' same = absurd (omega arith)
half_apart spine (suc zero) zero offset offset' b b' w w' same = absurd (omega arith)
half_apart spine (suc zero) (suc zero) offset offset' b b' w w' same = (refl, omega arith)
half_apart spine (suc (suc n)) half' offset offset' b b' w w' same = absurd (omega arith)
half_apart spine half (suc (suc n)) offset offset' b b' w w' same = absurd (omega arith)

spine_apart : (spine half half' offset offset' : ℕ) → half < 2 → half' < 2 → spine_index spine half offset ≡ spine_index spine half' offset'
    → (half ≡ half') × (offset ≡ offset')
spine_apart spine half half' offset offset' b b' same =
    elim (leb_tells (suc offset) (2 * spine)) as (λ _. (half ≡ half') × (offset ≡ offset')) [
      | inl in_ ↦ elim (leb_tells (suc offset') (2 * spine)) as (λ _. (half ≡ half') × (offset ≡ offset')) [
        | inl in' ↦ half_apart spine half half' offset offset' b b' in_.1 in'.1 (rw (in_.0, in'.0) at same)
        | inr out' ↦ absurd (omega (arith, same, spine_within spine half offset b in_.1, spine_past spine half' offset' (omega (arith, out'.1))))
      ]
      | inr out ↦ elim (leb_tells (suc offset') (2 * spine)) as (λ _. (half ≡ half') × (offset ≡ offset')) [
        | inl in' ↦ absurd (omega (arith, same, spine_within spine half' offset' b' in'.1, spine_past spine half offset (omega (arith, out.1))))
        | inr out' ↦ let apart : 2 * offset + half ≡ 2 * offset' + half' = rw (out.0, out'.0) at same in (omega arith, omega arith)
      ]
    ]

-- a word of the table stands in it
pub index_within : (heap : Heap) (a : Address) → HasWord heap a → index_of heap a < table_length heap
index_within heap Phase within = omega arith
index_within heap (Answer seat) within = omega arith
index_within heap Budget within = omega arith
index_within heap Spot within = omega arith
index_within heap (Control group) within = omega arith
index_within heap (Word fragment part) within = omega arith
index_within heap (Spine half offset) within = let few = spine_within heap.spine half offset within.0 within.1 in omega arith

pub length-put : (heap : Heap) (words : List ℕ) (a : Address) (word : ℕ) → length (put heap words a word) ≡ length words
unfolding put
length-put heap words a word = length-set words (index_of heap a) word

-- what was written is read
pub at-put_same : (heap : Heap) (words : List ℕ) (a : Address) (word : ℕ) → length words ≡ table_length heap → HasWord heap a
    → at heap (put heap words a word) a ≡ word
unfolding at put
at-put_same heap words a word whole within =
    let here = index_within heap a within in
    get_or-set_same words (index_of heap a) word 0 (omega arith)

-- a word written back changes nothing
pub put_of_read_changes_nothing : (heap : Heap) (words : List ℕ) (a : Address) → put heap words a (at heap words a) ≡ words
unfolding at put
put_of_read_changes_nothing heap words a = set-get_or words (index_of heap a) 0

-- no two words of the table stand in one place
pub equal_index_equal_address : (heap : Heap) (a b : Address) → InTable heap a → InTable heap b → index_of heap a ≡ index_of heap b → a ≡ b
equal_index_equal_address heap Phase Phase here there same = refl
equal_index_equal_address heap Phase (Answer seat') here there same = absurd (omega arith)
equal_index_equal_address heap Phase Budget here there same = absurd (omega arith)
equal_index_equal_address heap Phase Spot here there same = absurd (omega arith)
equal_index_equal_address heap Phase (Control group') here there same = absurd (omega arith)
equal_index_equal_address heap Phase (Word fragment' part') here there same = absurd (omega arith)
equal_index_equal_address heap Phase (Spine half' offset') here there same = absurd (omega arith)
equal_index_equal_address heap (Answer seat) Phase here there same = absurd (omega arith)
equal_index_equal_address heap (Answer seat) (Answer seat') here there same = let e : seat ≡ seat' = omega arith in cc
equal_index_equal_address heap (Answer seat) Budget here there same = absurd (omega arith)
equal_index_equal_address heap (Answer seat) Spot here there same = absurd (omega arith)
equal_index_equal_address heap (Answer seat) (Control group') here there same = absurd (omega arith)
equal_index_equal_address heap (Answer seat) (Word fragment' part') here there same = absurd (omega arith)
equal_index_equal_address heap (Answer seat) (Spine half' offset') here there same = absurd (omega arith)
equal_index_equal_address heap Budget Phase here there same = absurd (omega arith)
equal_index_equal_address heap Budget (Answer seat') here there same = absurd (omega arith)
equal_index_equal_address heap Budget Budget here there same = refl
equal_index_equal_address heap Budget Spot here there same = absurd (omega arith)
equal_index_equal_address heap Budget (Control group') here there same = absurd (omega arith)
equal_index_equal_address heap Budget (Word fragment' part') here there same = absurd (omega arith)
equal_index_equal_address heap Budget (Spine half' offset') here there same = absurd (omega arith)
equal_index_equal_address heap Spot Phase here there same = absurd (omega arith)
equal_index_equal_address heap Spot (Answer seat') here there same = absurd (omega arith)
equal_index_equal_address heap Spot Budget here there same = absurd (omega arith)
equal_index_equal_address heap Spot Spot here there same = refl
equal_index_equal_address heap Spot (Control group') here there same = absurd (omega arith)
equal_index_equal_address heap Spot (Word fragment' part') here there same = absurd (omega arith)
equal_index_equal_address heap Spot (Spine half' offset') here there same = absurd (omega arith)
equal_index_equal_address heap (Control group) Phase here there same = absurd (omega arith)
equal_index_equal_address heap (Control group) (Answer seat') here there same = absurd (omega arith)
equal_index_equal_address heap (Control group) Budget here there same = absurd (omega arith)
equal_index_equal_address heap (Control group) Spot here there same = absurd (omega arith)
equal_index_equal_address heap (Control group) (Control group') here there same = let e : group ≡ group' = omega arith in cc
equal_index_equal_address heap (Control group) (Word fragment' part') here there same = absurd (omega arith)
equal_index_equal_address heap (Control group) (Spine half' offset') here there same = absurd (omega arith)
equal_index_equal_address heap (Word fragment part) Phase here there same = absurd (omega arith)
equal_index_equal_address heap (Word fragment part) (Answer seat') here there same = absurd (omega arith)
equal_index_equal_address heap (Word fragment part) Budget here there same = absurd (omega arith)
equal_index_equal_address heap (Word fragment part) Spot here there same = absurd (omega arith)
equal_index_equal_address heap (Word fragment part) (Control group') here there same = absurd (omega arith)
equal_index_equal_address heap (Word fragment part) (Word fragment' part') here there same =
    let e : fragment ≡ fragment' = omega arith in
    let f : part ≡ part' = omega arith in
    cc
equal_index_equal_address heap (Word fragment part) (Spine half' offset') here there same = absurd (omega arith)
equal_index_equal_address heap (Spine half offset) Phase here there same = absurd (omega arith)
equal_index_equal_address heap (Spine half offset) (Answer seat') here there same = absurd (omega arith)
equal_index_equal_address heap (Spine half offset) Budget here there same = absurd (omega arith)
equal_index_equal_address heap (Spine half offset) Spot here there same = absurd (omega arith)
equal_index_equal_address heap (Spine half offset) (Control group') here there same = absurd (omega arith)
equal_index_equal_address heap (Spine half offset) (Word fragment' part') here there same = absurd (omega arith)
equal_index_equal_address heap (Spine half offset) (Spine half' offset') here there same =
    let e = spine_apart heap.spine half half' offset offset' here there (omega arith) in
    cc

-- other words stay
pub at-put_other : (heap : Heap) (words : List ℕ) (a b : Address) (word : ℕ) → InTable heap a → InTable heap b → b ≢ a
    → at heap (put heap words a word) b ≡ at heap words b
unfolding at put
at-put_other heap words a b word here there other =
    get_or-set_other words (index_of heap a) (index_of heap b) word 0 (λ same. other (sym (equal_index_equal_address heap a b here there (sym same))))

-- what is true of a word and of the one that it takes the place of is true of the word at the address, also past the end of the table
pub put_word_cases : (P : ℕ → Type 0) (heap : Heap) (words : List ℕ) (a : Address) (word : ℕ) → P word → P (at heap words a)
    → P (at heap (put heap words a word) a)
unfolding at put
put_word_cases P heap words a word now before =
    elim (leb_tells (suc (index_of heap a)) (length words)) as (λ _. P (get_or (set words (index_of heap a) word) (index_of heap a) 0)) [
      | inl within ↦ subst P (sym (get_or-set_same words (index_of heap a) word 0 within.1)) now
      | inr past ↦ subst (λ (l : List ℕ). P (get_or l (index_of heap a) 0)) (sym (set_past words (index_of heap a) word (omega (arith, past.1)))) before
    ]

-- what is true of all words stays true where one more is written
pub All-put : (heap : Heap) (words : List ℕ) (a : Address) (word : ℕ) → word < 2 ^ 64 → All (λ w. w < 2 ^ 64) words → All (λ w. w < 2 ^ 64) (put heap words a word)
unfolding put
All-put heap words a word wide all = All-set (λ w. w < 2 ^ 64) words (index_of heap a) word wide all

-- a word that is read has 64 bits, where all have
pub read_word_is_small : (heap : Heap) (words : List ℕ) (a : Address) → All (λ w. w < 2 ^ 64) words → at heap words a < 2 ^ 64
unfolding at
read_word_is_small heap words a all =
    elim (leb_tells (suc (index_of heap a)) (length words)) as (λ _. get_or words (index_of heap a) 0 < 2 ^ 64) [
      | inl within ↦ all (index_of heap a) 0 within.1
      | inr past ↦ rw (get_or_past words (index_of heap a) 0 (omega (arith, past.1))) (omega arith)
    ]
