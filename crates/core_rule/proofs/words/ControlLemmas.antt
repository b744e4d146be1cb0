-- The bits of the fragments after a step on a control word.
use Rattle.std.specs.Int.{bit_at}
use Rattle.std.proofs.Common.{◌≡◌, ◌≢◌, ℕ, ◌*◌, ◌/◌, ◌<◌, ◌≤◌, inl, inr, List, length, sym, ◌∙◌, subst, arith}
use Rattle.std.proofs.lemmas.Bool.Decides.{eqb_tells}
use Rattle.core_rule.proofs.Terms.{born_at, taken_at, Heap, Control, at, put, table_length, Bits, Owner, Free, taken_bit, born_bit}
use Rattle.core_rule.proofs.words.Addresses.{written_control_is_read, other_control_stays}

-- where the control words are the same, they have the same bits
pub bits_where_controls_same : (heap : Heap) (words now : List ℕ) (owner : ℕ → Owner) → ((group : ℕ) → group < heap.groups → at heap now (Control group) ≡ at heap words (Control group))
    → Bits heap words owner → Bits heap now owner
bits_where_controls_same heap words now owner same bits = record {
  taken = λ f below. rw (same (f / 16) (omega arith)) (bits.taken f below);
  born = λ f below. rw (same (f / 16) (omega arith)) (bits.born f below);
  outside = bits.outside;
}

module _ (heap : Heap) (words : List ℕ) (owner now : ℕ → Owner) (g word : ℕ) (whole : length words ≡ table_length heap) (below : g < heap.groups) where
  at_group : (f : ℕ) → f / 16 ≡ g → at heap (put heap words (Control g) word) (Control (f / 16)) ≡ word
  at_group f here = rw here (written_control_is_read heap words word g whole below)

  at_other : (f : ℕ) → f / 16 ≢ g → at heap (put heap words (Control g) word) (Control (f / 16)) ≡ at heap words (Control (f / 16))
  at_other f away = other_control_stays heap words word g (f / 16) away

  -- a new word of a group, where it has the bits of the new owners, and the others' bits stay
  pub bits_after_control_word : Bits heap words owner → ((f : ℕ) → f / 16 ≡ g → bit_at word (taken_at f) ≡ taken_bit (now f))
      → ((f : ℕ) → f / 16 ≡ g → bit_at word (born_at f) ≡ born_bit (now f)) → ((f : ℕ) → f / 16 ≢ g → taken_bit (now f) ≡ taken_bit (owner f))
      → ((f : ℕ) → f / 16 ≢ g → born_bit (now f) ≡ born_bit (owner f)) → ((f : ℕ) → 16 * heap.groups ≤ f → now f ≡ Free)
      → Bits heap (put heap words (Control g) word) now
  bits_after_control_word bits taken born taken_stays born_stays outside = record {
    taken = λ f within. elim (eqb_tells (f / 16) g) as (λ _. bit_at (at heap (put heap words (Control g) word) (Control (f / 16))) (taken_at f) ≡ taken_bit (now f)) [
      | inl same ↦ rw (at_group f same.1) (taken f same.1)
      | inr apart ↦ rw (at_other f apart.1) (bits.taken f within ∙ sym (taken_stays f apart.1))
    ];
    born = λ f within. elim (eqb_tells (f / 16) g) as (λ _. bit_at (at heap (put heap words (Control g) word) (Control (f / 16))) (born_at f) ≡ born_bit (now f)) [
      | inl same ↦ rw (at_group f same.1) (born f same.1)
      | inr apart ↦ rw (at_other f apart.1) (bits.born f within ∙ sym (born_stays f apart.1))
    ];
    outside = outside;
  }

module _ (heap : Heap) (words : List ℕ) (owner : ℕ → Owner) (g : ℕ) (whole : length words ≡ table_length heap) (below : g < heap.groups) (bits : Bits heap words owner) where
  -- the word found has the bits of the group's fragments
  pub word_has_taken_bit : (f : ℕ) → f / 16 ≡ g → bit_at (at heap words (Control g)) (taken_at f) ≡ taken_bit (owner f)
  word_has_taken_bit f here = subst (λ h. bit_at (at heap words (Control h)) (taken_at f) ≡ taken_bit (owner f)) here (bits.taken f (omega (arith, here, below)))

  pub word_has_born_bit : (f : ℕ) → f / 16 ≡ g → bit_at (at heap words (Control g)) (born_at f) ≡ born_bit (owner f)
  word_has_born_bit f here = subst (λ h. bit_at (at heap words (Control h)) (born_at f) ≡ born_bit (owner f)) here (bits.born f (omega (arith, here, below)))
