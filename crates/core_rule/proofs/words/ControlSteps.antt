-- The control words after a claim, a give back and a birth.
use Rattle.std.specs.Int.{bit_at}
use Rattle.std.proofs.Common.{◌≡◌, ◌≢◌, ℕ, ◌+◌, ◌-◌, ◌*◌, ◌/◌, ◌%◌, ◌<◌, ◌≤◌, max, Bool, List, length, bit_or, refl, sym, ap, ◌∙◌, subst, arith}
use Rattle.std.proofs.lemmas.Nat.Bits.{bit_at-lt}
use Rattle.core_rule.proofs.Terms.{born_at, taken_at, Heap, Control, inside_group, mask_of, clear_in, tally, at, put, table_length, all_taken, word_without_taken, birth_bits_of, Bits}
use Rattle.core_rule.proofs.Terms.{Owner, Free, Taken, Borne, taken_bit, born_bit, owner_after}
use Rattle.core_machine.proofs.table_lemmas.Masks.{mask_is_small}
use Rattle.core_rule.proofs.words.ClearLemmas.{clear_tally_is_untaken_bit, no_other_is_clear, clear_has_each_once, clear_is_in_group}
use Rattle.core_rule.proofs.words.ControlLemmas.{bits_after_control_word, word_has_taken_bit, word_has_born_bit}
use Rattle.core_rule.proofs.owners.Handed.{unhanded_keeps_owner, handed_gains_bit, handed_loses_bit, handed_bit_stays}
use Rattle.core_rule.proofs.words.MaskLemmas.{mask_bit_is_tally}
use Rattle.core_rule.proofs.owners.OwnerLemmas.{untaken_is_free, born_bit_within_one, free_is_no_seats}
use Rattle.core_rule.proofs.lists.GroupLists.{inside_group_has_own_fragments, inside_group_has_no_other, inside_and_outside_tallies_make_whole, zero_where_not_positive}
use Rattle.core_rule.proofs.words.WordBits.{claim_sets_taken_bits, claim_keeps_born_bits, giving_clears_taken_bits, giving_keeps_born_bits, birth_keeps_taken_bits, birth_sets_born_bits}

all_set : (set now was more bit : ℕ) → now ≡ was + more → set ≡ 1 → more ≡ 1 - bit → bit ≡ was → bit < 2 → set ≡ now
all_set set now was more bit grown one clear same small = omega arith

less_set : (set bit masked was now fewer : ℕ) → set ≡ bit - masked → masked ≡ fewer → bit ≡ was → was ≡ now + fewer → set ≡ now
less_set set bit masked was now fewer cut same stood lost = omega arith

more_set : (set bit masked was now more : ℕ) → set ≡ max bit masked → masked ≡ more → bit ≡ was → now ≡ was + more → now ≤ 1 → set ≡ now
more_set set bit masked was now more grown same stood gained small = omega arith

module _ (heap : Heap) (words : List ℕ) (owner : ℕ → Owner) (g : ℕ) (whole : length words ≡ table_length heap) (below : g < heap.groups) (bits : Bits heap words owner) where
  abbrev found : ℕ
  found = at heap words (Control g)

  -- what is clear in the word is nobody's
  pub clear_is_free : (f : ℕ) → 1 ≤ tally f (clear_in g found) → owner f ≡ Free
  clear_is_free f there =
      let here : f / 16 ≡ g = clear_is_in_group g found f there in
      untaken_is_free (owner f) (omega (arith, there, clear_tally_is_untaken_bit g found f here, word_has_taken_bit heap words owner g whole below bits f here))

  module _ (number : ℕ) where
    claimed_taken : (f : ℕ) → f / 16 ≡ g → bit_at (bit_or found all_taken) (taken_at f) ≡ taken_bit (owner_after (Taken number) owner (clear_in g found) f)
    claimed_taken f here =
        let more : taken_bit (owner_after (Taken number) owner (clear_in g found) f) ≡ taken_bit (owner f) + tally f (clear_in g found)
        = handed_gains_bit taken_bit (Taken number) owner (clear_in g found) (λ x. clear_has_each_once g found x) refl (λ x there. ap taken_bit (clear_is_free x there)) f in
        let one : bit_at (bit_or found all_taken) (taken_at f) ≡ 1 = claim_sets_taken_bits found (f % 16) (omega arith) in
        let clear : tally f (clear_in g found) ≡ 1 - bit_at found (taken_at f) = clear_tally_is_untaken_bit g found f here in
        let bit : bit_at found (taken_at f) ≡ taken_bit (owner f) = word_has_taken_bit heap words owner g whole below bits f here in
        let small : bit_at found (taken_at f) < 2 = bit_at-lt found (f % 16) in
        all_set (bit_at (bit_or found all_taken) (taken_at f)) (taken_bit (owner_after (Taken number) owner (clear_in g found) f)) (taken_bit (owner f)) (tally f (clear_in g found)) (bit_at found (taken_at f)) more one clear bit small

    claimed_born : (f : ℕ) → f / 16 ≡ g → bit_at (bit_or found all_taken) (born_at f) ≡ born_bit (owner_after (Taken number) owner (clear_in g found) f)
    claimed_born f here =
        claim_keeps_born_bits found (f % 16) (omega arith) ∙ word_has_born_bit heap words owner g whole below bits f here
        ∙ sym (handed_bit_stays born_bit (Taken number) owner (clear_in g found) (λ x there. ap born_bit (clear_is_free x there)) f)

    claimed_away : (f : ℕ) → f / 16 ≢ g → owner_after (Taken number) owner (clear_in g found) f ≡ owner f
    claimed_away f apart = unhanded_keeps_owner (Taken number) owner (clear_in g found) f (no_other_is_clear g found f apart)

    -- what is taken of the group: what is clear, and all else
    pub bits_after_claim : Bits heap (put heap words (Control g) (bit_or found all_taken)) (owner_after (Taken number) owner (clear_in g found))
    bits_after_claim = bits_after_control_word heap words owner (owner_after (Taken number) owner (clear_in g found)) g (bit_or found all_taken) whole below bits claimed_taken claimed_born
        (λ f apart. ap taken_bit (claimed_away f apart))
        (λ f apart. ap born_bit (claimed_away f apart))
        (λ f above. claimed_away f (λ here. omega (arith, here, below, above)) ∙ bits.outside f above)

module _ (heap : Heap) (words : List ℕ) (owner : ℕ → Owner) (g : ℕ) (whole : length words ≡ table_length heap) (below : g < heap.groups) (bits : Bits heap words owner)
    (fs : List ℕ) (number : ℕ) (once : (f : ℕ) → tally f fs ≤ 1) (held : (f : ℕ) → 1 ≤ tally f fs → owner f ≡ Taken number) where
  abbrev word_found : ℕ
  word_found = at heap words (Control g)

  once_in : (f : ℕ) → tally f (inside_group g fs) ≤ 1
  once_in f = omega (arith, once f, inside_and_outside_tallies_make_whole g f fs)

  held_in : (f : ℕ) → 1 ≤ tally f (inside_group g fs) → owner f ≡ Taken number
  held_in f there = held f (omega (arith, there, inside_and_outside_tallies_make_whole g f fs))

  -- the mask has the bits of what is inside the group
  masked : (f : ℕ) → f / 16 ≡ g → bit_at (mask_of (inside_group g fs)) (taken_at f) ≡ tally f (inside_group g fs)
  masked f here =
      let position : 16 * g + f % 16 ≡ f = omega (arith, here) in
      let bit : bit_at (mask_of (inside_group g fs)) (taken_at f) ≡ tally f fs
      = subst (λ x. bit_at (mask_of (inside_group g fs)) (taken_at f) ≡ tally x fs) position (mask_bit_is_tally g (f % 16) fs (omega arith) (subst (λ x. tally x fs ≤ 1) (sym position) (once f))) in
      bit ∙ sym (inside_group_has_own_fragments g f fs here)

  returned_taken : (f : ℕ) → f / 16 ≡ g → bit_at (word_without_taken (mask_of (inside_group g fs)) word_found) (taken_at f) ≡ taken_bit (owner_after Free owner (inside_group g fs) f)
  returned_taken f here = less_set (bit_at (word_without_taken (mask_of (inside_group g fs)) word_found) (taken_at f)) (bit_at word_found (taken_at f)) (bit_at (mask_of (inside_group g fs)) (taken_at f))
      (taken_bit (owner f)) (taken_bit (owner_after Free owner (inside_group g fs) f)) (tally f (inside_group g fs))
      (giving_clears_taken_bits word_found (f % 16) (omega arith) (mask_of (inside_group g fs)) (mask_is_small (inside_group g fs)))
      (masked f here)
      (word_has_taken_bit heap words owner g whole below bits f here)
      (handed_loses_bit taken_bit Free owner (inside_group g fs) once_in refl (λ x there. ap taken_bit (held_in x there)) f)

  returned_born : (f : ℕ) → f / 16 ≡ g → bit_at (word_without_taken (mask_of (inside_group g fs)) word_found) (born_at f) ≡ born_bit (owner_after Free owner (inside_group g fs) f)
  returned_born f here = giving_keeps_born_bits word_found (f % 16) (omega arith) (mask_of (inside_group g fs)) (mask_is_small (inside_group g fs)) ∙ word_has_born_bit heap words owner g whole below bits f here
      ∙ sym (handed_bit_stays born_bit Free owner (inside_group g fs) (λ x there. ap born_bit (held_in x there)) f)

  returned_away : (f : ℕ) → f / 16 ≢ g → owner_after Free owner (inside_group g fs) f ≡ owner f
  returned_away f apart = unhanded_keeps_owner Free owner (inside_group g fs) f (inside_group_has_no_other g f fs apart)

  -- those of the list that are of the group are taken no longer
  pub bits_after_giving : Bits heap (put heap words (Control g) (word_without_taken (mask_of (inside_group g fs)) word_found)) (owner_after Free owner (inside_group g fs))
  bits_after_giving = bits_after_control_word heap words owner (owner_after Free owner (inside_group g fs)) g (word_without_taken (mask_of (inside_group g fs)) word_found) whole below bits returned_taken returned_born
      (λ f apart. ap taken_bit (returned_away f apart))
      (λ f apart. ap born_bit (returned_away f apart))
      (λ f above. returned_away f (λ here. omega (arith, here, below, above)) ∙ bits.outside f above)

  -- they are born, whoever has them then
  pub bits_after_born_word : (black : Bool) (now : ℕ → Owner) → ((f : ℕ) → taken_bit (now f) ≡ taken_bit (owner f)) → ((f : ℕ) → born_bit (now f) ≡ born_bit (owner f) + tally f (inside_group g fs))
      → ((f : ℕ) → 16 * heap.groups ≤ f → now f ≡ Free) → Bits heap (put heap words (Control g) (bit_or word_found (birth_bits_of black (mask_of (inside_group g fs))))) now
  bits_after_born_word black now taken born outside =
      bits_after_control_word heap words owner now g (bit_or word_found (birth_bits_of black (mask_of (inside_group g fs)))) whole below bits
      (λ f here. birth_keeps_taken_bits word_found (f % 16) (omega arith) (mask_of (inside_group g fs)) black ∙ word_has_taken_bit heap words owner g whole below bits f here ∙ sym (taken f))
      (λ f here. more_set (bit_at (bit_or word_found (birth_bits_of black (mask_of (inside_group g fs)))) (born_at f)) (bit_at word_found (born_at f)) (bit_at (mask_of (inside_group g fs)) (taken_at f))
      (born_bit (owner f)) (born_bit (now f)) (tally f (inside_group g fs))
      (birth_sets_born_bits word_found (f % 16) (omega arith) (mask_of (inside_group g fs)) black) (masked f here) (word_has_born_bit heap words owner g whole below bits f here) (born f) (born_bit_within_one (now f)))
      (λ f apart. taken f)
      (λ f apart. omega (arith, born f, inside_group_has_no_other g f fs apart))
      outside

  -- so are those that the seat bears then
  pub bits_after_birth : (black : Bool) → Bits heap (put heap words (Control g) (bit_or word_found (birth_bits_of black (mask_of (inside_group g fs))))) (owner_after (Borne number) owner (inside_group g fs))
  bits_after_birth black = bits_after_born_word black (owner_after (Borne number) owner (inside_group g fs))
      (handed_bit_stays taken_bit (Borne number) owner (inside_group g fs) (λ x there. ap taken_bit (held_in x there)))
      (handed_gains_bit born_bit (Borne number) owner (inside_group g fs) once_in refl (λ x there. ap born_bit (held_in x there)))
      (λ f above. unhanded_keeps_owner (Borne number) owner (inside_group g fs) f (zero_where_not_positive (tally f (inside_group g fs)) (λ there. free_is_no_seats number (owner f) (bits.outside f above) (held_in f there))) ∙ bits.outside f above)
