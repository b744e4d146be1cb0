-- Where a record's field stands, and an array's cell.
use Rattle.std.proofs.Common.{◌≡◌, ℕ, ◌+◌, ◌-◌, ◌*◌, ◌/◌, ◌%◌, ◌<◌, true, inl, inr, length, refl, arith}
use Rattle.std.proofs.lemmas.Bool.{lt-ltb}
use Rattle.std.proofs.lemmas.Bool.Decides.{eqb_tells}
use Rattle.core_rule.proofs.Terms.{Node, fragments_of, spine_words_of, row_of, part_of, is_cell, row_in, field_part}
use Rattle.heap_model.proofs.graph_changes.Shapes.{node_cases}

-- the field of a row and a part
pub field_of_row_and_part : (i : ℕ) → 3 * row_of i + part_of i - 2 ≡ i
field_of_row_and_part i = omega arith

-- a cell stands there
pub row_part_is_cell : (i : ℕ) → is_cell (row_of i) (part_of i) ≡ true
row_part_is_cell i = elim (eqb_tells (row_of i) 0) as (λ _. is_cell (row_of i) (part_of i) ≡ true) [
  | inl head ↦ rw (head.0, lt-ltb 1 (part_of i) (omega (arith, head.1))) refl
  | inr other ↦ rw (other.0, lt-ltb 0 (part_of i) (omega arith)) refl
]

-- the cell of a row behind the first and a part
pub cell_of_row_and_part : (i : ℕ) → 4 * (i / 4 + 1 - 1) + i % 4 ≡ i
cell_of_row_and_part i = omega arith

-- an object has the row of each of its cells, and there the part
pub field_part_is_small : (object : Node) (i : ℕ) → field_part object i < 4
field_part_is_small object i = node_cases (λ o. field_part o i < 4) (λ cells. omega arith) (λ cells. omega arith) object

pub field_row_within_fragments : (object : Node) (i : ℕ) → i < length object.cells → row_in object i < fragments_of object
field_row_within_fragments object i = node_cases (λ (o : Node). i < length o.cells → row_in o i < fragments_of o)
    (λ cells within. omega (arith, within)) (λ cells within. omega (arith, within)) object

-- an array has the spine word that names the fragment of each of its cells
pub cell_word_within_spine : (object : Node) (i : ℕ) → object.array ≡ true → i < length object.cells → i / 4 < spine_words_of object
cell_word_within_spine object i = node_cases (λ (o : Node). o.array ≡ true → i < length o.cells → i / 4 < spine_words_of o)
    (λ cells kind within. omega (arith, within)) (λ cells kind within. absurd (cc kind)) object
