-- The words of an object: those of its frame, and its cells'.
use Rattle.std.specs.Prelude.{if◌then◌else◌}
use Rattle.std.proofs.Common.{◌≡◌, ◌≢◌, ℕ, suc, ◌+◌, ◌-◌, ◌*◌, ◌/◌, ◌%◌, ◌≤◌, Bool, true, false, eqb, inl, inr, List, length, slice_get, Some, refl, ap, arith}
use Rattle.std.proofs.lemmas.Bool.Decides.{eqb_tells}
use Rattle.heap_words.specs.declared.name.Name.{Name}
use Rattle.heap_words.specs.declared.spot.Spot.{Spot}
use Rattle.heap_words.specs.Name.{name_word}
use Rattle.core_rule.proofs.Terms.{spot_word, Id, Node, record_meta, link_after, record_word_of, array_meta, sentinel_word_of, row_of, part_of, value_word, field_word, is_cell}
use Rattle.core_rule.proofs.Terms.{record_object_word, array_object_word, object_word, row_in, field_part}
use Rattle.heap_model.specs.declared.graph.cell.Cell.{Cell}
use Rattle.heap_model.proofs.graph_changes.Shapes.{node_cases}
use Rattle.core_rule.proofs.ways.Rows.{field_of_row_and_part, row_part_is_cell, cell_of_row_and_part}

module _ (head : Id → ℕ) (name : Name) (spine : Spot) (fragments : List ℕ) where
  -- a word of a record is a cell's, or one of its frame's
  record_cases : (P : ℕ → Type 0) (cells : List Cell) (k part : ℕ)
      → (is_cell k part ≡ true → P (field_word head (slice_get cells (3 * k + part - 2)))) → (is_cell k part ≡ false → P (record_word_of name (length cells) fragments k part))
      → P (record_object_word head name cells fragments k part)
  unfolding record_object_word
  record_cases P cells k part cell other = by (is_cell k part) refl
    where
      by : (b : Bool) → is_cell k part ≡ b → P (if b then field_word head (slice_get cells (3 * k + part - 2)) else record_word_of name (length cells) fragments k part)
      by true is = cell is
      by false is = other is

  -- a word of an array is one of its first fragment's, or a cell's
  array_cases : (P : ℕ → Type 0) (cells : List Cell) (k part : ℕ)
      → (k ≡ 0 → P (sentinel_word_of name (length cells) spine part)) → (1 ≤ k → P (field_word head (slice_get cells (4 * (k - 1) + part))))
      → P (array_object_word head name cells spine k part)
  unfolding array_object_word
  array_cases P cells k part first cell = elim (eqb_tells k 0) as (λ _. P (array_object_word head name cells spine k part)) [
    | inl e ↦ rw e.0 (first e.1)
    | inr e ↦ let some : k ≢ 0 = e.1 in rw e.0 (cell (omega (arith, some)))
  ]

  -- so what is true of all these is true of each word of an object
  pub word_cases : (P : ℕ → Type 0) (object : Node) (k part : ℕ)
      → (object.array ≡ false → is_cell k part ≡ true → P (field_word head (slice_get object.cells (3 * k + part - 2))))
      → (object.array ≡ false → is_cell k part ≡ false → P (record_word_of name (length object.cells) fragments k part))
      → (object.array ≡ true → k ≡ 0 → P (sentinel_word_of name (length object.cells) spine part))
      → (object.array ≡ true → 1 ≤ k → P (field_word head (slice_get object.cells (4 * (k - 1) + part))))
      → P (object_word head name object spine fragments k part)
  word_cases P object k part =
      node_cases
      (λ (o : Node). (o.array ≡ false → is_cell k part ≡ true → P (field_word head (slice_get o.cells (3 * k + part - 2))))
      → (o.array ≡ false → is_cell k part ≡ false → P (record_word_of name (length o.cells) fragments k part))
      → (o.array ≡ true → k ≡ 0 → P (sentinel_word_of name (length o.cells) spine part))
      → (o.array ≡ true → 1 ≤ k → P (field_word head (slice_get o.cells (4 * (k - 1) + part))))
      → P (object_word head name o spine fragments k part))
      (λ cells field frame first cell. array_cases P cells k part (first refl) (cell refl))
      (λ cells field frame first cell. record_cases P cells k part (field refl) (frame refl)) object

  -- the words that are no cells: of a record its meta, its name and the links
  pub object_word_is_record_meta : (object : Node) → object.array ≡ false → object_word head name object spine fragments 0 0 ≡ record_meta (length object.cells) fragments
  unfolding record_object_word
  object_word_is_record_meta object kind = rw kind refl

  pub object_word_is_link : (object : Node) (k : ℕ) → object.array ≡ false → object_word head name object spine fragments (suc k) 0 ≡ link_after fragments (suc k)
  unfolding record_object_word
  object_word_is_link object k kind = let later : eqb (suc k) 0 ≡ false = grind arith in rw (kind, later) refl

  -- of an array its meta, its name, and the place of its spine
  pub object_word_is_array_meta : (object : Node) → object.array ≡ true → object_word head name object spine fragments 0 0 ≡ array_meta (length object.cells)
  unfolding array_object_word
  object_word_is_array_meta object kind = rw kind refl

  pub object_word_is_spot : (object : Node) → object.array ≡ true → object_word head name object spine fragments 0 2 ≡ spot_word spine
  unfolding array_object_word
  object_word_is_spot object kind = rw kind refl

  pub object_word_is_name : (object : Node) → object_word head name object spine fragments 0 1 ≡ name_word name
  unfolding record_object_word array_object_word
  object_word_is_name object = node_cases (λ o. object_word head name o spine fragments 0 1 ≡ name_word name) (λ cells. refl) (λ cells. refl) object

  -- the word of a cell
  record_cell : (cells : List Cell) (i : ℕ) (cell : Cell) → slice_get cells i ≡ Some cell → record_object_word head name cells fragments (row_of i) (part_of i) ≡ value_word head cell.value cell.stamp
  unfolding record_object_word
  record_cell cells i cell there = rw (row_part_is_cell i, field_of_row_and_part i, there) refl

  array_cell : (cells : List Cell) (i : ℕ) (cell : Cell) → slice_get cells i ≡ Some cell → array_object_word head name cells spine (i / 4 + 1) (i % 4) ≡ value_word head cell.value cell.stamp
  unfolding array_object_word
  array_cell cells i cell there = let later : eqb (i / 4 + 1) 0 ≡ false = grind arith in rw (later, cell_of_row_and_part i, there) refl

  pub object_word_is_cell : (object : Node) (i : ℕ) (cell : Cell) → slice_get object.cells i ≡ Some cell
      → object_word head name object spine fragments (row_in object i) (field_part object i) ≡ value_word head cell.value cell.stamp
  object_word_is_cell object i cell =
      node_cases (λ (o : Node). slice_get o.cells i ≡ Some cell → object_word head name o spine fragments (row_in o i) (field_part o i) ≡ value_word head cell.value cell.stamp)
      (λ cells there. array_cell cells i cell there) (λ cells there. record_cell cells i cell there) object

-- where each cell's word is the same by another head, so is each word of the object
pub object_words_same_by_cells : (head other : Id → ℕ) (name : Name) (object : Node) (spine : Spot) (fragments : List ℕ) (k part : ℕ)
    → ((j : ℕ) → field_word other (slice_get object.cells j) ≡ field_word head (slice_get object.cells j))
    → object_word other name object spine fragments k part ≡ object_word head name object spine fragments k part
unfolding record_object_word array_object_word
object_words_same_by_cells head other name object spine fragments k part =
    node_cases
    (λ (o : Node). ((j : ℕ) → field_word other (slice_get o.cells j) ≡ field_word head (slice_get o.cells j)) → object_word other name o spine fragments k part ≡ object_word head name o spine fragments k part)
    (λ cells same. ap (λ w. if eqb k 0 then sentinel_word_of name (length cells) spine part else w) (same (4 * (k - 1) + part)))
    (λ cells same. ap (λ w. if is_cell k part then w else record_word_of name (length cells) fragments k part) (same (3 * k + part - 2))) object
