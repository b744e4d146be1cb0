-- A cell's word is read as the cell.
use Rattle.std.proofs.Common.{ap, ◌≡◌, ℕ, ◌+◌, ◌*◌, ◌/◌, ◌%◌, ◌^◌, ◌<◌, refl, arith}
use Rattle.heap_words.specs.declared.kind.Kind.{Kind}
use Rattle.heap_words.specs.declared.kind.Kind.TheVariants as kinds
use Rattle.heap_words.specs.declared.cell.Cell.{Cell}
use Rattle.heap_words.specs.Cell.{cell_word, cell_of}
use Rattle.core_machine.proofs.Terms.{payload_in}
use Rattle.heap_words.specs.Newborn.{spine_word}

-- the components of a word
components : (k v s : ℕ) → v < 2 ^ 30 → s < 2 ^ 32
    → ((k * 2 ^ 62 + v * 2 ^ 32 + s) / 2 ^ 62 ≡ k) × ((k * 2 ^ 62 + v * 2 ^ 32 + s) / 2 ^ 32 % 2 ^ 30 ≡ v) × ((k * 2 ^ 62 + v * 2 ^ 32 + s) % 2 ^ 32 ≡ s)
components k v s p number = (omega arith, omega arith, omega arith)

pub cell_of-cell_word : (kind : Kind) (value stamp : ℕ) → value < 2 ^ 30 → stamp < 2 ^ 32
    → cell_of (cell_word (record { kind = kind; value = value; stamp = stamp })) ≡ record { kind = kind; value = value; stamp = stamp }
cell_of-cell_word kinds.Nil value stamp p number = let e = components 0 value stamp p number in rw (e.0, e.1, e.2) refl
cell_of-cell_word kinds.Number value stamp p number = let e = components 1 value stamp p number in rw (e.0, e.1, e.2) refl
cell_of-cell_word kinds.Reference value stamp p number = let e = components 2 value stamp p number in rw (e.0, e.1, e.2) refl
cell_of-cell_word kinds.Fixed value stamp p number = let e = components 3 value stamp p number in rw (e.0, e.1, e.2) refl

-- a spine word names its fragment
pub payload_in-spine_word : (fragment : ℕ) → fragment < 2 ^ 30 → payload_in (spine_word fragment) ≡ fragment
payload_in-spine_word fragment small = ap (λ (c : Cell). c.value) (cell_of-cell_word kinds.Fixed fragment 0 small (omega arith))
