-- Every word that a step writes has 64 bits.
use Rattle.std.proofs.Common.{suc, ℕ, ◌+◌, ◌*◌, ◌%◌, ◌^◌, ◌<◌, ◌≤◌, Bool, true, false, cond, eqb, List, length, get_or, inl, inr, bit_and, bit_or, arith}
use Rattle.std.proofs.lemmas.Bool.Decides.{eqb_tells, leb_tells}
use Rattle.std.proofs.lemmas.List.{get_or_past}
use Rattle.std.proofs.lemmas.Nat.{and_le_l, or_lt}
use Rattle.std.proofs.Math.Nat.{pow-le-pow_right}
use Rattle.heap_words.specs.Control.{marked_at, scanned_at}
use Rattle.heap_words.specs.declared.name.Name.{Name}
use Rattle.heap_words.specs.declared.spot.Spot.{Spot}
use Rattle.heap_words.specs.Name.{name_word}
use Rattle.heap_words.specs.Spot.{spot_word}
use Rattle.core_machine.proofs.Terms.{Heap, Command, New, Array, Set, Cas, IsHeap, Register, Nil, Number, Object, register_word, IsSet, IsCas, MakesObject, newborn_word, FitsSpot}
use Rattle.core_machine.proofs.Terms.{birth_bits_of, shade_bit_of, blacken_bit_of, HasNumberLeft, AreFragments, FitsRegister, after_name}
use Rattle.heap_model.specs.Command.{IsCommand}
use Rattle.heap_words.specs.Newborn.{link_after, head_word_of, record_word_of, spine_word, sentinel_word_of, array_word_of}

-- a fragment of the list, or 0 past its end
pub listed_fragment_is_small : (heap : Heap) (fragments : List ℕ) (i : ℕ) → IsHeap heap → AreFragments heap fragments → get_or fragments i 0 < 2 ^ 16
listed_fragment_is_small heap fragments i limits each =
    elim (leb_tells (suc i) (length fragments)) as (λ _. get_or fragments i 0 < 2 ^ 16) [
      | inl within ↦ let one : get_or fragments i 0 < 16 * heap.groups = each i 0 within.1 in omega (arith, limits.groups_fit)
      | inr past ↦ let none = get_or_past fragments i 0 (omega (arith, past.1)) in omega arith
    ]

link_wide : (fragments : List ℕ) (k : ℕ) → get_or fragments (k + 1) 0 < 2 ^ 16 → link_after fragments k < 2 ^ 64
link_wide fragments k small =
    elim (leb_tells (suc (k + 1)) (length fragments)) as (λ _. link_after fragments k < 2 ^ 64) [ inl more ↦ rw more.0 (omega arith) | inr last ↦ rw last.0 (omega arith) ]

head_wide : (name : Name) (fields : ℕ) (fragments : List ℕ) (part : ℕ) → name.owner < 2 ^ 30 → name.count < 2 ^ 32 → fields < 2 ^ 13 → get_or fragments 1 0 < 2 ^ 16
    → head_word_of name fields fragments part < 2 ^ 64
head_wide name fields fragments part owner count few small =
    elim (eqb_tells part 0) as (λ _. head_word_of name fields fragments part < 2 ^ 64) [
      | inl meta ↦ rw meta.0 (omega arith)
      | inr other ↦ rw other.0 (elim (eqb_tells part 1) as (λ _. cond (eqb part 1) (name_word name) 0 < 2 ^ 64) [ inl after_name ↦ rw after_name.0 (omega arith) | inr cell ↦ rw cell.0 (omega arith) ])
    ]

-- the words of a record are words
pub record_word_fits_bits : (name : Name) (fields : ℕ) (fragments : List ℕ) (k part : ℕ) → name.owner < 2 ^ 30 → name.count < 2 ^ 32 → fields < 2 ^ 13
    → ((i : ℕ) → get_or fragments i 0 < 2 ^ 16) → record_word_of name fields fragments k part < 2 ^ 64
record_word_fits_bits name fields fragments k part owner count few small =
    elim (eqb_tells k 0) as (λ _. record_word_of name fields fragments k part < 2 ^ 64) [
      | inl head ↦ rw head.0 (head_wide name fields fragments part owner count few (small 1))
      | inr other ↦ rw other.0 (elim (eqb_tells part 0) as (λ _. cond (eqb part 0) (link_after fragments k) 0 < 2 ^ 64) [ inl link ↦ rw link.0 (link_wide fragments k (small (k + 1))) | inr cell ↦ rw cell.0 (omega arith) ])
    ]

-- so are the words of an array
pub array_wide : (name : Name) (cells : ℕ) (spine : Spot) (k part : ℕ) → name.owner < 2 ^ 30 → name.count < 2 ^ 32 → cells < 2 ^ 13 → FitsSpot spine
    → array_word_of name cells spine k part < 2 ^ 64
array_wide name cells spine k part owner count few fits =
    elim (eqb_tells k 0) as (λ _. array_word_of name cells spine k part < 2 ^ 64) [
      | inl head ↦ rw head.0 (elim (eqb_tells part 0) as (λ _. sentinel_word_of name cells spine part < 2 ^ 64) [
        | inl meta ↦ rw meta.0 (omega arith)
        | inr other ↦ rw other.0 (elim (eqb_tells part 1) as (λ _. cond (eqb part 1) (name_word name) (cond (eqb part 2) (spot_word spine) (spine_word 0)) < 2 ^ 64) [
          | inl named ↦ rw named.0 (omega arith)
          | inr unnamed ↦ rw unnamed.0 (elim (eqb_tells part 2) as (λ _. cond (eqb part 2) (spot_word spine) (spine_word 0) < 2 ^ 64) [
            | inl placed ↦ rw placed.0 (omega (arith, fits.half_within, fits.offset_within))
            | inr fixed ↦ rw fixed.0 (omega arith)
          ])
        ])
      ])
      | inr payload ↦ rw payload.0 (omega arith)
    ]

-- the words of a new object are words
pub newborn_word_fits_bits : (command : Command) (name : Name) (spine : Spot) (fragments : List ℕ) (k part : ℕ) → MakesObject command → IsCommand command → name.owner < 2 ^ 30 → name.count < 2 ^ 32
    → FitsSpot spine → ((i : ℕ) → get_or fragments i 0 < 2 ^ 16) → newborn_word command name spine fragments k part < 2 ^ 64
newborn_word_fits_bits (New d fields) name spine fragments k part makes range owner count fits small = record_word_fits_bits name fields fragments k part owner count (omega (arith, range.1.1)) small
newborn_word_fits_bits (Array d cells) name spine fragments k part makes range owner count fits small = array_wide name cells spine k part owner count (omega (arith, range.1.1)) fits
newborn_word_fits_bits _ name spine fragments k part makes range owner count fits small = absurd makes

pub birth_word_fits_bits : (black : Bool) (bits word : ℕ) → bits < 2 ^ 16 → word < 2 ^ 64 → bit_or word (birth_bits_of black bits) < 2 ^ 64
birth_word_fits_bits false bits word small wide = or_lt 64 word (bits * 2 ^ 16) wide (omega arith)
birth_word_fits_bits true bits word small wide = or_lt 64 word (bits * 2 ^ 16 + bits * 2 ^ 32 + bits * 2 ^ 48) wide (omega arith)

-- a set is left to a command that sets
pub set_has_stamp_left : (command : Command) (made sets : ℕ) → IsSet command → HasNumberLeft made sets command → sets + 1 < 2 ^ 63
set_has_stamp_left (Set r i v) made sets a_set numbered = numbered
set_has_stamp_left _ made sets a_set numbered = absurd a_set

-- and so has a compare and swap
pub cas_has_stamp_left : (command : Command) (made sets : ℕ) → IsCas command → HasNumberLeft made sets command → sets + 1 < 2 ^ 63
cas_has_stamp_left (Cas r i a v) made sets a_cas numbered = numbered
cas_has_stamp_left _ made sets a_cas numbered = absurd a_cas

-- what is left of a word is no longer
pub and_fits_bits : (word bits : ℕ) → word < 2 ^ 64 → bit_and word bits < 2 ^ 64
and_fits_bits word bits wide = omega (arith, wide, and_le_l word bits)

-- the bit of a shade is one of a word's
pub shade_word_fits_bits : (fragment word : ℕ) → word < 2 ^ 64 → bit_or word (shade_bit_of fragment) < 2 ^ 64
shade_word_fits_bits fragment word wide =
    let below : 2 ^ (marked_at fragment) ≤ 2 ^ 63 = pow-le-pow_right {n = 2} (omega arith) {i = 32 + fragment % 16} {j = 63} (omega arith) in
    or_lt 64 word (2 ^ (marked_at fragment)) wide (omega arith)

-- so is the bit of a blacken
pub blacken_word_fits_bits : (fragment word : ℕ) → word < 2 ^ 64 → bit_or word (blacken_bit_of fragment) < 2 ^ 64
blacken_word_fits_bits fragment word wide =
    let below : 2 ^ (scanned_at fragment) ≤ 2 ^ 63 = pow-le-pow_right {n = 2} (omega arith) {i = 48 + fragment % 16} {j = 63} (omega arith) in
    or_lt 64 word (2 ^ (scanned_at fragment)) wide (omega arith)

pub register_word_fits_bits : (heap : Heap) (register : Register) (stamp : ℕ) → 16 * heap.groups ≤ 2 ^ 16 → FitsRegister heap register → stamp < 2 ^ 32 → register_word register stamp < 2 ^ 64
register_word_fits_bits heap Nil stamp few fit small = omega arith
register_word_fits_bits heap (Number n) stamp few fit small = omega (arith, fit)
register_word_fits_bits heap (Object head id) stamp few fit small = omega (arith, fit)
