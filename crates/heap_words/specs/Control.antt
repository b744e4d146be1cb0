use Rattle.std.specs.Prelude.{ℕ, ◌+◌, ◌-◌, ◌*◌, ◌/◌, ◌%◌, ◌^◌, ◌==◌, Bool, true, false, if◌then◌else◌, Option, bit_and, count_ones}
use Rattle.std.specs.Int.{bit_at}
use Rattle.std.specs.List.{find, range_with_len}

-- where a fragment's taken bit stands in its group's control word
abbrev pub taken_at : ℕ → ℕ
taken_at fragment = fragment % 16

-- where its born bit does
abbrev pub born_at : ℕ → ℕ
born_at fragment = 16 + fragment % 16

-- where its marked bit does
abbrev pub marked_at : ℕ → ℕ
marked_at fragment = 32 + fragment % 16

-- where its scanned bit does
abbrev pub scanned_at : ℕ → ℕ
scanned_at fragment = 48 + fragment % 16

-- a fragment's bit among the sixteen of its group
abbrev pub fragment_bit_of : ℕ → ℕ
fragment_bit_of fragment = 2 ^ taken_at fragment

-- the fragment's taken bit isn't set in the control word
abbrev pub is_clear : ℕ → ℕ → Bool
is_clear word fragment = bit_at word (taken_at fragment) == 0

-- the taken bits of all sixteen fragments of a group
abbrev pub all_taken : ℕ
all_taken = 2 ^ 16 - 1

-- all bits of a word but these
abbrev pub all_but_of : ℕ → ℕ
all_but_of bits = 2 ^ 64 - 1 - bits

-- the control word without these taken bits
abbrev pub word_without_taken : ℕ → ℕ → ℕ
word_without_taken bits word = bit_and word (all_but_of bits)

-- the bits that a birth sets: born, and where births are black marked and scanned too
abbrev pub birth_bits_of : Bool → ℕ → ℕ
birth_bits_of false bits = bits * 2 ^ 16
birth_bits_of true bits = bits * 2 ^ 16 + bits * 2 ^ 32 + bits * 2 ^ 48

-- the bit that a shade sets: the fragment is marked
abbrev pub shade_bit_of : ℕ → ℕ
shade_bit_of fragment = 2 ^ marked_at fragment

-- the bit that a blacken sets: the fragment is scanned
abbrev pub blacken_bit_of : ℕ → ℕ
blacken_bit_of fragment = 2 ^ scanned_at fragment

-- the fragment is marked and not scanned in its group's control word
abbrev pub is_grey : ℕ → ℕ → Bool
is_grey word fragment = if bit_at word (marked_at fragment) == 1 then bit_at word (scanned_at fragment) == 0 else false

-- the lowest of a group's sixteen positions whose fragment is grey, if one is
abbrev pub lowest_grey_of : ℕ → Option ℕ
lowest_grey_of word = find (is_grey word) (range_with_len 0 16)

-- all bits of a word but the taken and the born ones of these fragments
abbrev pub free_mask_of : ℕ → ℕ
free_mask_of bits = 2 ^ 64 - 1 - (bits * 2 ^ 16 + bits)

-- all bits of a word but those of the marked and the scanned fragments
abbrev pub marks_cleared : ℕ
marks_cleared = 2 ^ 32 - 1

-- how many fragments of a group are taken
abbrev pub taken_count_of : ℕ → ℕ
taken_count_of word = count_ones (word % 2 ^ 16)

-- the fragments of a group that are born and not marked, each by its position
abbrev pub dead_bits_of : ℕ → ℕ
dead_bits_of word = bit_and (word / 2 ^ 16 % 2 ^ 16) (2 ^ 16 - 1 - word / 2 ^ 32 % 2 ^ 16)

-- the marked fragments of a group, each by its position
abbrev pub marked_bits_of : ℕ → ℕ
marked_bits_of word = word / 2 ^ 32 % 2 ^ 16

-- the first of the sixteen positions from this one on whose bit is set, if one is
abbrev pub next_position_of : ℕ → ℕ → Option ℕ
next_position_of bits from = find (λ position. bit_at bits position == 1) (range_with_len from (16 - from))
