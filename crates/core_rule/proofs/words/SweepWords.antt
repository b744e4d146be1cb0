-- The control words once fragments of a group were freed, and once the marks of a group were cleared.
use Rattle.std.proofs.Common.{◌≡◌, ◌≢◌, ℕ, ◌+◌, ◌/◌, ◌%◌, ◌^◌, ◌<◌, ◌==◌, if◌then◌else◌, List, length, bit_and, inl, inr, refl, sym, ap, ◌∙◌, arith}
use Rattle.std.proofs.lemmas.Bool.Decides.{eqb_tells}
use Rattle.core_rule.proofs.Terms.{born_at, marked_at, scanned_at, Heap, Control, at, put, table_length, Colour, White, Grey, Marks, marked_bit, scanned_bit, IsMarked, Bits}
use Rattle.core_rule.proofs.Terms.{AreDead, AreCleared, Owner, Free, taken_bit, born_bit, owner_after}
use Rattle.core_machine.specs.table.Operation.{free_mask_of, marks_cleared}
use Rattle.core_rule.proofs.colours.MarkWords.{marks_after_control_word, word_has_marked_bit, word_has_scanned_bit}
use Rattle.core_rule.proofs.owners.DeadOwners.{bit_of_each_dead, set_bits_are_dead}
use Rattle.core_rule.proofs.owners.Handed.{unhanded_keeps_owner, handed_loses_bit}
use Rattle.core_rule.proofs.words.ControlLemmas.{bits_after_control_word, word_has_taken_bit, word_has_born_bit}
use Rattle.core_rule.proofs.words.SetBits.{set_in, set_has_each_once, set_tally_is_bit, no_other_is_set}
use Rattle.core_rule.proofs.words.SweepBits.{freeing_clears_taken_bits, freeing_clears_born_bits, freeing_keeps_higher_bits, clearing_keeps_lower_bits, clearing_clears_higher_bits}

-- the colours with a group's marks cleared
abbrev pub cleared_in : ℕ → (ℕ → Colour) → ℕ → Colour
cleared_in group colour f = if f / 16 == group then White else colour f

module _ (group : ℕ) (colour : ℕ → Colour) (f : ℕ) where
  pub cleared_here : f / 16 ≡ group → cleared_in group colour f ≡ White
  cleared_here here = elim (eqb_tells (f / 16) group) as (λ _. cleared_in group colour f ≡ White) [
    | inl same ↦ rw same.0 refl
    | inr apart ↦ absurd (apart.1 here)
  ]

  pub cleared_other : f / 16 ≢ group → cleared_in group colour f ≡ colour f
  cleared_other away = elim (eqb_tells (f / 16) group) as (λ _. cleared_in group colour f ≡ colour f) [
    | inl same ↦ absurd (away same.1)
    | inr apart ↦ rw apart.0 refl
  ]

  -- what is white stays so
  pub white_stays_when_cleared : colour f ≡ White → cleared_in group colour f ≡ White
  white_stays_when_cleared white = elim (eqb_tells (f / 16) group) as (λ _. cleared_in group colour f ≡ White) [
    | inl same ↦ rw same.0 refl
    | inr apart ↦ cleared_other apart.1 ∙ white
  ]

  -- and what is grey was
  pub marked_before_clearing : IsMarked (cleared_in group colour) f → IsMarked colour f
  marked_before_clearing marked white = marked (white_stays_when_cleared white)

  pub grey_before_clearing : cleared_in group colour f ≡ Grey → colour f ≡ Grey
  grey_before_clearing grey = elim (eqb_tells (f / 16) group) as (λ _. colour f ≡ Grey) [
    | inl same ↦ absurd (let white = cleared_here same.1 in cc (grey, white))
    | inr apart ↦ sym (cleared_other apart.1) ∙ grey
  ]

-- the groups before the next one are cleared then
pub are_cleared_up_to_next : (group : ℕ) (colour : ℕ → Colour) → AreCleared colour group → AreCleared (cleared_in group colour) (group + 1)
are_cleared_up_to_next group colour cleared f below = elim (eqb_tells (f / 16) group) as (λ _. cleared_in group colour f ≡ White) [
  | inl same ↦ cleared_here group colour f same.1
  | inr apart ↦ white_stays_when_cleared group colour f (cleared f (omega (arith, below, apart.1)))
]

module _ (heap : Heap) (words : List ℕ) (g : ℕ) (whole : length words ≡ table_length heap) (below : g < heap.groups) where
  abbrev found : ℕ
  found = at heap words (Control g)

  module _ (owner : ℕ → Owner) (dead : ℕ) (small : dead < 2 ^ 16) where
    abbrev fs : List ℕ
    fs = set_in g dead

    -- those that are freed are neither taken nor born
    pub bits_after_freeing : AreDead owner g dead → Bits heap words owner → Bits heap (put heap words (Control g) (bit_and found (free_mask_of dead))) (owner_after Free owner fs)
    bits_after_freeing are bits =
        let is_dead = set_bits_are_dead owner g dead small are in
        let away : (f : ℕ) → f / 16 ≢ g → owner_after Free owner fs f ≡ owner f = λ f apart. unhanded_keeps_owner Free owner fs f (no_other_is_set g dead f apart) in
        bits_after_control_word heap words owner (owner_after Free owner fs) g (bit_and found (free_mask_of dead)) whole below bits
        (λ f here. omega (
          arith,
          freeing_clears_taken_bits found dead small (f % 16) (omega arith),
          set_tally_is_bit g dead small f here,
          word_has_taken_bit heap words owner g whole below bits f here,
          handed_loses_bit taken_bit Free owner fs (set_has_each_once g dead) refl (λ x there. bit_of_each_dead taken_bit 1 (λ i k. refl) (owner x) (is_dead x there)) f,
        ))
        (λ f here. omega (
          arith,
          freeing_clears_born_bits found dead small (f % 16) (omega arith),
          set_tally_is_bit g dead small f here,
          word_has_born_bit heap words owner g whole below bits f here,
          handed_loses_bit born_bit Free owner fs (set_has_each_once g dead) refl (λ x there. bit_of_each_dead born_bit 1 (λ i k. refl) (owner x) (is_dead x there)) f,
        ))
        (λ f apart. ap taken_bit (away f apart))
        (λ f apart. ap born_bit (away f apart))
        (λ f above. away f (λ here. omega (arith, here, below, above)) ∙ bits.outside f above)

  module _ (colour : ℕ → Colour) (marks : Marks heap words colour) where
    -- what is freed keeps its marks
    pub marks_after_freeing : (dead : ℕ) → dead < 2 ^ 16 → Marks heap (put heap words (Control g) (bit_and found (free_mask_of dead))) colour
    marks_after_freeing dead small = marks_after_control_word heap words colour colour g (bit_and found (free_mask_of dead)) whole below marks
        (λ f here. freeing_keeps_higher_bits found dead small (marked_at f) (omega arith) (omega arith) ∙ word_has_marked_bit heap words colour colour g 0 whole below marks f here)
        (λ f here. freeing_keeps_higher_bits found dead small (scanned_at f) (omega arith) (omega arith) ∙ word_has_scanned_bit heap words colour colour g 0 whole below marks f here)
        (λ f apart. refl)

    -- the group's marks are cleared
    pub marks_after_clearing : Marks heap (put heap words (Control g) (bit_and found marks_cleared)) (cleared_in g colour)
    marks_after_clearing = marks_after_control_word heap words colour (cleared_in g colour) g (bit_and found marks_cleared) whole below marks
        (λ f here. clearing_clears_higher_bits found (marked_at f) (omega arith) ∙ sym (ap marked_bit (cleared_here g colour f here)))
        (λ f here. clearing_clears_higher_bits found (scanned_at f) (omega arith) ∙ sym (ap scanned_bit (cleared_here g colour f here)))
        (λ f apart. cleared_other g colour f apart)

  -- and its taken and born bits stay
  pub bits_after_clearing : (owner : ℕ → Owner) → Bits heap words owner → Bits heap (put heap words (Control g) (bit_and found marks_cleared)) owner
  bits_after_clearing owner bits = bits_after_control_word heap words owner owner g (bit_and found marks_cleared) whole below bits
      (λ f here. clearing_keeps_lower_bits found (f % 16) (omega arith) ∙ word_has_taken_bit heap words owner g whole below bits f here)
      (λ f here. clearing_keeps_lower_bits found (born_at f) (omega arith) ∙ word_has_born_bit heap words owner g whole below bits f here)
      (λ f apart. refl) (λ f apart. refl) bits.outside
