-- Words that are read after another one was written.
use Rattle.std.proofs.Common.{◌≡◌, ◌≢◌, ℕ, ◌+◌, ◌*◌, ◌<◌, List, length, arith}
use Rattle.std.proofs.lemmas.List.{get_or-set_other}
use Rattle.core_rule.proofs.Terms.{Heap, Control, Word, Spine, table_length, index_of, at, put}
use Rattle.core_machine.specs.declared.table.address.Address.{Address}
use Rattle.core_machine.proofs.table_lemmas.Addresses.{at-put_same, at-put_other}

-- a word with another index is as before
pub at-put_apart : (heap : Heap) (words : List ℕ) (a b : Address) (n : ℕ) → index_of heap b ≢ index_of heap a → at heap (put heap words a n) b ≡ at heap words b
unfolding at put
at-put_apart heap words a b n apart = get_or-set_other words (index_of heap a) (index_of heap b) n 0 apart

-- every spine word is as before
abbrev pub SameSpines : Heap → List ℕ → List ℕ → Type 0
SameSpines heap words now = (half offset : ℕ) → at heap now (Spine half offset) ≡ at heap words (Spine half offset)

module _ (heap : Heap) (words : List ℕ) (n : ℕ) where
  -- the word that was written
  pub written_control_is_read : (g : ℕ) → length words ≡ table_length heap → g < heap.groups → at heap (put heap words (Control g) n) (Control g) ≡ n
  written_control_is_read g whole below = at-put_same heap words (Control g) n whole below

  pub written_word_is_read : (f j : ℕ) → length words ≡ table_length heap → f < 16 * heap.groups → j < 4 → at heap (put heap words (Word f j) n) (Word f j) ≡ n
  written_word_is_read f j whole below part = at-put_same heap words (Word f j) n whole (below, part)

  -- other words
  pub other_control_stays : (g h : ℕ) → h ≢ g → at heap (put heap words (Control g) n) (Control h) ≡ at heap words (Control h)
  other_control_stays g h apart = at-put_apart heap words (Control g) (Control h) n (λ e. apart (omega (arith, e)))

  -- a step on a control word leaves the fragments' words, and one on these the control words
  pub word_same_after_control : (g f j : ℕ) → g < heap.groups → at heap (put heap words (Control g) n) (Word f j) ≡ at heap words (Word f j)
  word_same_after_control g f j below = at-put_apart heap words (Control g) (Word f j) n (λ e. omega (arith, e, below))

  pub control_same_after_word : (f j g : ℕ) → g < heap.groups → at heap (put heap words (Word f j) n) (Control g) ≡ at heap words (Control g)
  control_same_after_word f j g below = at-put_apart heap words (Word f j) (Control g) n (λ e. omega (arith, e, below))

  -- another fragment's word
  pub other_fragment_word_stays : (f j g i : ℕ) → j < 4 → i < 4 → g ≢ f → at heap (put heap words (Word f j) n) (Word g i) ≡ at heap words (Word g i)
  other_fragment_word_stays f j g i p number apart = at-put_apart heap words (Word f j) (Word g i) n (λ e. apart (omega (arith, e, p, number)))

  -- another part of the same
  pub other_part_stays : (f j g i : ℕ) → i ≢ j → g ≡ f → at heap (put heap words (Word f j) n) (Word g i) ≡ at heap words (Word g i)
  other_part_stays f j g i apart same = at-put_apart heap words (Word f j) (Word g i) n (λ e. apart (omega (arith, e, same)))

  -- the spine words stand behind all others, so a step on one of these leaves them
  pub same_spines_elsewhere : (a : Address) → index_of heap a < 19 + 65 * heap.groups → SameSpines heap words (put heap words a n)
  same_spines_elsewhere a before half offset = at-put_apart heap words a (Spine half offset) n (λ e. omega (arith, e, before))

  pub same_spines_after_control : (g : ℕ) → g < heap.groups → SameSpines heap words (put heap words (Control g) n)
  same_spines_after_control g below = same_spines_elsewhere (Control g) (omega (arith, below))

  pub same_spines_after_word : (f j : ℕ) → f < 16 * heap.groups → j < 4 → SameSpines heap words (put heap words (Word f j) n)
  same_spines_after_word f j below part = same_spines_elsewhere (Word f j) (omega (arith, below, part))

  -- and a step on one of them leaves the others
  pub other_spine_word_stays : (half offset half' offset' : ℕ) → half < 2 → half' < 2 → (half' ≡ half → offset' ≡ offset → ⊥)
      → at heap (put heap words (Spine half offset) n) (Spine half' offset') ≡ at heap words (Spine half' offset')
  other_spine_word_stays half offset half' offset' here there apart = at-put_other heap words (Spine half offset) (Spine half' offset') n here there (λ e. apart (cc (e)) (cc (e)))
