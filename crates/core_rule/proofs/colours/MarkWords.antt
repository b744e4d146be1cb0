-- The marked and the scanned bits of the control words after a step.
use Rattle.std.specs.Int.{bit_at}
use Rattle.std.proofs.Common.{◌≡◌, ◌≢◌, ℕ, ◌/◌, ◌<◌, List, length, inl, inr, ◌∙◌, subst, arith}
use Rattle.std.proofs.lemmas.Bool.Decides.{eqb_tells}
use Rattle.core_rule.proofs.Terms.{marked_at, scanned_at, Heap, Control, at, put, table_length, Colour, Marks, marked_bit, scanned_bit}
use Rattle.core_rule.proofs.words.Addresses.{written_control_is_read, other_control_stays}

-- the control words are as before
pub marks_where_controls_same : (heap : Heap) (words now : List ℕ) (colour : ℕ → Colour) → ((group : ℕ) → group < heap.groups → at heap now (Control group) ≡ at heap words (Control group))
    → Marks heap words colour → Marks heap now colour
marks_where_controls_same heap words now colour same marks = record {
  marked = λ f below. rw (same (f / 16) (omega (arith, below))) (marks.marked f below);
  scanned = λ f below. rw (same (f / 16) (omega (arith, below))) (marks.scanned f below);
  outside = marks.outside;
}

module _ (heap : Heap) (words : List ℕ) (colour coloured : ℕ → Colour) (g word : ℕ) (whole : length words ≡ table_length heap) (below : g < heap.groups) where
  -- a new word of a group, where it has the bits of the new colours, and the others' bits stay
  pub marks_after_control_word : Marks heap words colour → ((f : ℕ) → f / 16 ≡ g → bit_at word (marked_at f) ≡ marked_bit (coloured f))
      → ((f : ℕ) → f / 16 ≡ g → bit_at word (scanned_at f) ≡ scanned_bit (coloured f)) → ((f : ℕ) → f / 16 ≢ g → coloured f ≡ colour f)
      → Marks heap (put heap words (Control g) word) coloured
  marks_after_control_word marks marked scanned stays = record {
    marked = λ f within. elim (eqb_tells (f / 16) g) as (λ _. bit_at (at heap (put heap words (Control g) word) (Control (f / 16))) (marked_at f) ≡ marked_bit (coloured f)) [
      | inl same ↦ rw (same.1, written_control_is_read heap words word g whole below) (marked f same.1)
      | inr apart ↦ rw (other_control_stays heap words word g (f / 16) apart.1, stays f apart.1) (marks.marked f within)
    ];
    scanned = λ f within. elim (eqb_tells (f / 16) g) as (λ _. bit_at (at heap (put heap words (Control g) word) (Control (f / 16))) (scanned_at f) ≡ scanned_bit (coloured f)) [
      | inl same ↦ rw (same.1, written_control_is_read heap words word g whole below) (scanned f same.1)
      | inr apart ↦ rw (other_control_stays heap words word g (f / 16) apart.1, stays f apart.1) (marks.scanned f within)
    ];
    outside = λ f past. stays f (λ here. omega (arith, here, below, past)) ∙ marks.outside f past;
  }

  -- the word found has the bits of the group's colours
  module _ (marks : Marks heap words colour) where
    pub word_has_marked_bit : (f : ℕ) → f / 16 ≡ g → bit_at (at heap words (Control g)) (marked_at f) ≡ marked_bit (colour f)
    word_has_marked_bit f here = subst (λ h. bit_at (at heap words (Control h)) (marked_at f) ≡ marked_bit (colour f)) here (marks.marked f (omega (arith, here, below)))

    pub word_has_scanned_bit : (f : ℕ) → f / 16 ≡ g → bit_at (at heap words (Control g)) (scanned_at f) ≡ scanned_bit (colour f)
    word_has_scanned_bit f here = subst (λ h. bit_at (at heap words (Control h)) (scanned_at f) ≡ scanned_bit (colour f)) here (marks.scanned f (omega (arith, here, below)))
