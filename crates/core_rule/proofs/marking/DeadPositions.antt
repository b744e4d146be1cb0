-- The fragments of a group that are to be freed, by its control word: those that are born and not marked.
use Rattle.std.specs.Int.{bit_at}
use Rattle.std.proofs.Common.{◌≡◌, ℕ, ◌+◌, ◌*◌, ◌/◌, ◌%◌, ◌<◌, List, length, refl, sym, ap, ◌∙◌, arith}
use Rattle.std.proofs.lemmas.Nat.Bits.{bit_at-lt}
use Rattle.core_rule.proofs.Terms.{Heap, Control, at, table_length, Colour, White, Grey, Black, Marks, marked_bit, Bits, AfterMarking, AreDead, Owner, born_bit, dead_bit}
use Rattle.core_machine.specs.collector.Sweeping.{dead_bits_of}
use Rattle.core_machine.proofs.table_lemmas.DeadBits.{dead_is_born_unmarked}
use Rattle.core_rule.proofs.colours.MarkWords.{word_has_marked_bit}
use Rattle.core_rule.proofs.owners.OwnerLemmas.{dead_bit_within_one, dead_bit_is_dead, alike_bits_are_equal}
use Rattle.core_rule.proofs.words.ControlLemmas.{word_has_born_bit}

-- a fragment that isn't marked is white
white_by_bit : (c : Colour) → marked_bit c ≡ 0 → c ≡ White
white_by_bit White none = refl
white_by_bit Grey none = absurd (cc)
white_by_bit Black none = absurd (cc)

module _ (heap : Heap) (words : List ℕ) (owner : ℕ → Owner) (colour : ℕ → Colour) (group : ℕ) (whole : length words ≡ table_length heap) (below : group < heap.groups)
    (bits : Bits heap words owner) (marks : Marks heap words colour) (after : AfterMarking owner colour) where
  abbrev word : ℕ
  word = at heap words (Control group)

  module _ (position : ℕ) (within : position < 16) where
    abbrev f : ℕ
    f = 16 * group + position

    here : f / 16 ≡ group
    here = omega (arith, within)

    born_told : bit_at word (16 + position) ≡ born_bit (owner f)
    born_told =
        let rest : f % 16 ≡ position = omega (arith, within) in
        rw rest at (word_has_born_bit heap words owner group whole below bits f here)

    marked_told : bit_at word (32 + position) ≡ marked_bit (colour f)
    marked_told =
        let rest : f % 16 ≡ position = omega (arith, within) in
        rw rest at (word_has_marked_bit heap words colour colour group 0 whole below marks f here)

    -- a bit that is set tells a fragment that is to be freed
    bit_is_dead : bit_at (dead_bits_of word) position ≡ 1 → dead_bit (owner f) ≡ 1
    bit_is_dead one =
        let told = (dead_is_born_unmarked word position within).0 one in
        let white : colour f ≡ White = white_by_bit (colour f) (sym marked_told ∙ told.1) in
        let is = after.white_dead f record { unmarked = white; born = sym born_told ∙ told.0 } in
        ap dead_bit is.2

    -- and each that is has its bit
    dead_has_bit : dead_bit (owner f) ≡ 1 → bit_at (dead_bits_of word) position ≡ 1
    dead_has_bit one =
        let is = dead_bit_is_dead (owner f) one in
        (dead_is_born_unmarked word position within).1 (born_told ∙ ap born_bit is.2, marked_told ∙ ap marked_bit (after.dead_white f is.0 is.1 is.2))

    told : bit_at (dead_bits_of word) position ≡ dead_bit (owner f)
    told = alike_bits_are_equal (dead_bit (owner f)) (bit_at (dead_bits_of word) position) (dead_bit_within_one (owner f)) (omega (arith, bit_at-lt (dead_bits_of word) position)) dead_has_bit bit_is_dead

  pub dead_bits_are_dead : AreDead owner group (dead_bits_of word)
  dead_bits_are_dead position within = told position within
