-- The length of an array that a word tells, and of the spine that it has.
use Rattle.std.specs.Prelude.{IfSome}
use Rattle.std.specs.Option.{option_map_or}
use Rattle.std.proofs.Common.{suc, ℕ, ◌^◌, ◌<◌, ◌≤◌, Option, Some, None, inl, inr, arith}
use Rattle.std.proofs.lemmas.Bool.Decides.{leb_tells}
use Rattle.heap_words.specs.declared.cell.Cell.{Cell}
use Rattle.heap_words.specs.declared.kind.Kind.{Kind}
use Rattle.heap_words.specs.declared.kind.Kind.TheVariants as kinds
use Rattle.heap_words.specs.Cell.{cell_of}
use Rattle.core_machine.proofs.Terms.{array_words, array_length, array_length_in, array_length_of, spine_words_in}

-- a fixed word alone tells the length of an array, and of no more cells than thirteen bits tell
length_told : (kind : Kind) (cell : Cell) → IfSome (array_length_in kind cell) (λ cells. cells < 2 ^ 13)
length_told kinds.Fixed cell = elim (leb_tells (suc cell.value) (2 ^ 29)) as (λ _. IfSome (array_length cell) (λ cells. cells < 2 ^ 13)) [ inl of_record ↦ rw of_record.0 tt | inr of_array ↦ rw of_array.0 (omega arith) ]
length_told kinds.Nil cell = tt
length_told kinds.Number cell = tt
length_told kinds.Reference cell = tt

pub array_length_is_small : (word : ℕ) → IfSome (array_length_of word) (λ cells. cells < 2 ^ 13)
array_length_is_small word = length_told (cell_of word).kind (cell_of word)

-- so its spine has at most 2,048 words
pub spine_words_within_limit : (word : ℕ) → spine_words_in word ≤ 2048
spine_words_within_limit word = on (array_length_of word) (array_length_is_small word)
  where
    on : (length : Option ℕ) → IfSome length (λ cells. cells < 2 ^ 13) → option_map_or array_words length 0 ≤ 2048
    on None few = omega arith
    on (Some cells) few = omega (arith, few)
