-- A step that leaves some bits of every control word.
use Rattle.std.specs.Int.{bit_at}
use Rattle.std.proofs.Common.{◌≡◌, ◌≢◌, refl, ℕ, ◌*◌, ◌/◌, ◌<◌, ◌≤◌, List, length, inl, inr, sym, ap, ◌∙◌, subst, arith}
use Rattle.std.proofs.lemmas.Bool.Decides.{eqb_tells}
use Rattle.core_rule.proofs.Terms.{Heap, Control, at, put, index_of, table_length, address_of, word_after, control_of}
use Rattle.core_machine.specs.declared.step.Step.{Step}
use Rattle.core_machine.proofs.table_lemmas.Addresses.{put_of_read_changes_nothing}
use Rattle.core_rule.proofs.words.Addresses.{at-put_apart, written_control_is_read, other_control_stays}

-- the step loads a word, or is on none of the control words, or leaves the bits of one from here to there
pub data LeavesBits (heap : Heap) (from to : ℕ) (step : Step) : Type 0 where
  only_loads : ((word : ℕ) → word_after step word ≡ word) → LeavesBits heap from to step
  beside : ((g : ℕ) → g < heap.groups → index_of heap (address_of step) ≢ index_of heap (Control g)) → LeavesBits heap from to step
  spares : (g : ℕ) → address_of step ≡ Control g → ((word i : ℕ) → from ≤ i → i < to → bit_at (word_after step word) i ≡ bit_at word i) → LeavesBits heap from to step

module _ (heap : Heap) (words : List ℕ) (step : Step) (whole : length words ≡ table_length heap) (f : ℕ) (within : f < 16 * heap.groups) where
  -- the words after it
  abbrev stepped : List ℕ
  stepped = put heap words (address_of step) (word_after step (at heap words (address_of step)))

  spared : (from to g : ℕ) → address_of step ≡ Control g → ((word i : ℕ) → from ≤ i → i < to → bit_at (word_after step word) i ≡ bit_at word i)
      → (i : ℕ) → from ≤ i → i < to → bit_at (control_of heap stepped f) i ≡ bit_at (control_of heap words f) i
  spared from to g on same i above below = rw on (elim (eqb_tells (f / 16) g) as (λ _. bit_at (control_of heap (put heap words (Control g) word) f) i ≡ bit_at (control_of heap words f) i) [
    | inl here ↦ subst (λ h. bit_at (at heap (put heap words (Control g) word) (Control h)) i ≡ bit_at (at heap words (Control h)) i) (sym here.1)
        (ap (λ w. bit_at w i) (written_control_is_read heap words word g whole (omega (arith, within, here.1))) ∙ same (at heap words (Control g)) i above below)
    | inr apart ↦ ap (λ w. bit_at w i) (other_control_stays heap words word g (f / 16) apart.1)
  ])
    where
      word : ℕ
      word = word_after step (at heap words (Control g))

  -- so these bits of the fragment's control word stay
  pub fragment_bit_stays : (from to : ℕ) → LeavesBits heap from to step → (i : ℕ) → from ≤ i → i < to → bit_at (control_of heap stepped f) i ≡ bit_at (control_of heap words f) i
  fragment_bit_stays from to (only_loads same) i above below = rw (same (at heap words (address_of step)), put_of_read_changes_nothing heap words (address_of step)) refl
  fragment_bit_stays from to (beside apart) i above below =
      ap (λ w. bit_at w i) (at-put_apart heap words (address_of step) (Control (f / 16)) (word_after step (at heap words (address_of step))) (λ e. apart (f / 16) (omega (arith, within)) (sym e)))
  fragment_bit_stays from to (spares g on same) i above below = spared from to g on same i above below
