-- What a store into a seat's new object changes, and what it leaves.
use Rattle.std.proofs.Common.{◌≡◌, ℕ, ◌+◌, ◌*◌, ◌/◌, ◌%◌, ◌<◌, ◌≤◌, inl, inr, List, length, ap, ◌∙◌, subst, arith}
use Rattle.std.proofs.lemmas.Bool.{cases_lt, cases_eq}
use Rattle.core_rule.proofs.Terms.{Heap, Word, AreFragments, tally, at, put, table_length, fragment_at, Bits, Owner}
use Rattle.core_rule.proofs.words.Addresses.{written_word_is_read, control_same_after_word, other_fragment_word_stays, other_part_stays}
use Rattle.core_rule.proofs.lists.Members.{equal_elements_same_position, all_holds_at_position}

-- no control word changes
pub bits_after_store : (heap : Heap) (words : List ℕ) (owner : ℕ → Owner) (f part n : ℕ) → Bits heap words owner → Bits heap (put heap words (Word f part) n) owner
bits_after_store heap words owner f part n bits = record {
  taken = λ x below. rw (control_same_after_word heap words n f part (x / 16) (omega arith)) (bits.taken x below);
  born = λ x below. rw (control_same_after_word heap words n f part (x / 16) (omega arith)) (bits.born x below);
  outside = bits.outside;
}

module _ (heap : Heap) (body : List ℕ) (word : ℕ → ℕ → ℕ) where
  -- the first words of the body are these
  abbrev pub FirstWords : List ℕ → ℕ → Type 0
  FirstWords words n = (u : ℕ) → u < n → at heap words (Word (fragment_at body (u / 4)) (u % 4)) ≡ word (u / 4) (u % 4)

  module _ (words : List ℕ) (stored : ℕ) (once : (f : ℕ) → tally f body ≤ 1) (within : AreFragments heap body) (more : stored < 4 * length body) where
    abbrev after_store : List ℕ
    after_store = put heap words (Word (fragment_at body (stored / 4)) (stored % 4)) (word (stored / 4) (stored % 4))

    row_within : stored / 4 < length body
    row_within = omega arith

    stored_last : length words ≡ table_length heap → at heap after_store (Word (fragment_at body (stored / 4)) (stored % 4)) ≡ word (stored / 4) (stored % 4)
    stored_last whole = written_word_is_read heap words (word (stored / 4) (stored % 4)) (fragment_at body (stored / 4)) (stored % 4) whole
        (all_holds_at_position (λ f. f < 16 * heap.groups) body (stored / 4) within row_within) (omega arith)

    stored_before : (u : ℕ) → u < stored → at heap after_store (Word (fragment_at body (u / 4)) (u % 4)) ≡ at heap words (Word (fragment_at body (u / 4)) (u % 4))
    stored_before u less = elim (cases_eq (u / 4) (stored / 4)) [
      | inl row ↦ other_part_stays heap words (word (stored / 4) (stored % 4)) (fragment_at body (stored / 4)) (stored % 4) (fragment_at body (u / 4)) (u % 4)
          (λ e. omega (arith, row, e, less)) (ap (fragment_at body) row)
      | inr apart ↦ other_fragment_word_stays heap words (word (stored / 4) (stored % 4)) (fragment_at body (stored / 4)) (stored % 4) (fragment_at body (u / 4)) (u % 4)
          (omega arith) (omega arith) (λ e. apart (equal_elements_same_position body (u / 4) (stored / 4) once (omega (arith, less)) row_within e))
    ]

    -- one word more is as it has to be
    pub first_words_after_store : length words ≡ table_length heap → FirstWords words stored → FirstWords after_store (stored + 1)
    first_words_after_store whole old u less = elim (cases_lt u stored) [
      | inl before ↦ stored_before u before ∙ old u before
      | inr past ↦ let last : stored ≡ u = omega (arith, less, past) in
          subst (λ v. at heap after_store (Word (fragment_at body (v / 4)) (v % 4)) ≡ word (v / 4) (v % 4)) last (stored_last whole)
    ]
