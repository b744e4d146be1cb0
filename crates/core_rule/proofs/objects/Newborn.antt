-- The words with which an object is stored are those of its cells, which were never set.
use Rattle.std.specs.Prelude.{if◌then◌else◌}
use Rattle.std.proofs.Common.{◌≡◌, ℕ, zero, suc, ◌+◌, ◌-◌, ◌*◌, Bool, true, false, List, replicate, cond, slice_get, refl, arith}
use Rattle.std.proofs.lemmas.Bool.Decides.{nat_tests}
use Rattle.std.proofs.lemmas.List.{length-replicate}
use Rattle.heap_words.specs.declared.name.Name.{Name}
use Rattle.heap_words.specs.declared.spot.Spot.{Spot}
use Rattle.core_rule.proofs.Terms.{Id, fresh, unset, record_word_of, array_word_of, field_word, is_cell, record_object_word, array_object_word, object_word}

-- the words of a record or an array of so many cells that were never set
abbrev pub fresh_word : Bool → Name → ℕ → Spot → List ℕ → ℕ → ℕ → ℕ
fresh_word array name cells spine fragments k part = if array then array_word_of name cells spine k part else record_word_of name cells fragments k part

-- a cell that was never set has the word 0
unset_word : (head : Id → ℕ) (n i : ℕ) → field_word head (slice_get (replicate n unset) i) ≡ 0
unset_word head zero i = refl
unset_word head (suc n) zero = refl
unset_word head (suc n) (suc i) = unset_word head n i

-- a cell's word of a newborn record is 0
no_cell_word : (name : Name) (fields : ℕ) (fragments : List ℕ) (k part : ℕ) → is_cell k part ≡ true → record_word_of name fields fragments k part ≡ 0
no_cell_word name fields fragments k part cell = grind (arith, nat_tests, cell)

by_test : (b : Bool) (cell word : ℕ) → (b ≡ true → cell ≡ word) → cond b cell word ≡ word
by_test true cell word same = same refl
by_test false cell word same = refl

-- so the words are those of the object
pub object_word_is_fresh : (head : Id → ℕ) (name : Name) (array : Bool) (n : ℕ) (spine : Spot) (fragments : List ℕ) (k part : ℕ)
    → object_word head name (fresh array n) spine fragments k part ≡ fresh_word array name n spine fragments k part
unfolding record_object_word array_object_word
object_word_is_fresh head name false n spine fragments k part = rw (length-replicate n unset) (by_test (is_cell k part) (field_word head (slice_get (replicate n unset) (3 * k + part - 2))) (record_word_of name n fragments k part) (λ cell. rw (unset_word head n (3 * k + part - 2), no_cell_word name n fragments k part cell) refl))
object_word_is_fresh head name true n spine fragments k part = rw (length-replicate n unset, unset_word head n (4 * (k - 1) + part)) refl
