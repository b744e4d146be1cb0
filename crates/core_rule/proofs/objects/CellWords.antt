-- The words of an object of which one cell was set: that cell's is another, and no other word is.
use Rattle.std.specs.Prelude.{if◌then◌else◌}
use Rattle.std.proofs.Common.{◌≡◌, ◌≢◌, ℕ, ◌+◌, ◌-◌, ◌*◌, ◌/◌, ◌%◌, ◌^◌, ◌<◌, ◌≤◌, inl, inr, Bool, true, false, List, length, set, slice_get, refl, sym, ap, ◌∙◌, subst, arith}
use Rattle.std.proofs.lemmas.Bool.{ltb-true}
use Rattle.std.proofs.lemmas.Bool.Decides.{eqb_tells}
use Rattle.std.proofs.lemmas.List.{length-set}
use Rattle.heap_words.specs.declared.kind.Kind.{Kind}
use Rattle.heap_words.specs.declared.kind.Kind.TheVariants as kinds
use Rattle.heap_words.specs.declared.name.Name.{Name}
use Rattle.heap_words.specs.declared.spot.Spot.{Spot}
use Rattle.heap_words.specs.Cell.{cell_word}
use Rattle.heap_words.specs.Kind.{kind_number}
use Rattle.heap_model.specs.declared.graph.cell.Cell.{Cell}
use Rattle.core_rule.proofs.Terms.{Id, Value, with_cell, Node, Register, stamp_of, record_word_of, sentinel_word_of, row_of, part_of, register_word, object_head, NamesKept}
use Rattle.core_rule.proofs.Terms.{value_word, field_word, is_cell, record_object_word, array_object_word, object_word, Owner, HoldsValue, row_in, field_part}
use Rattle.heap_model.specs.declared.id.Value.TheVariants as values
use Rattle.core_machine.specs.declared.seat.register.Register.TheVariants as registers
use Rattle.heap_model.proofs.graph_changes.Shapes.{node_cases}
use Rattle.core_rule.proofs.objects.ObjectWords.{object_word_is_cell}
use Rattle.heap_model.proofs.graph_changes.CellSet.{slice_get-set_same, slice_get-set_other}

-- where a cell stands
stands_cell : (k part : ℕ) → is_cell k part ≡ true → (1 ≤ part) × (2 ≤ 3 * k + part)
stands_cell k part = elim (eqb_tells k 0) as (λ _. is_cell k part ≡ true → (1 ≤ part) × (2 ≤ 3 * k + part)) [
  | inl e ↦ rw e.0 (λ is. let two : 1 < part = ltb-true 1 part is in (omega arith, omega arith))
  | inr e ↦ rw e.0 (λ is. let one : 0 < part = ltb-true 0 part is in let some : k ≢ 0 = e.1 in (omega arith, omega arith))
]

-- the stamp of a field's word
stamp_of_word : (kind : Kind) (value stamp : ℕ) → stamp < 2 ^ 32 → stamp_of (cell_word (record { kind = kind; value = value; stamp = stamp })) ≡ stamp
stamp_of_word kind value stamp small = by (kind_number kind)
  where
    by : (n : ℕ) → (n * 2 ^ 62 + value * 2 ^ 32 + stamp) % 2 ^ 32 ≡ stamp
    by n = omega (arith, small)

pub stamp_of_value_word : (head : Id → ℕ) (value : Value) (stamp : ℕ) → stamp < 2 ^ 32 → stamp_of (value_word head value stamp) ≡ stamp
stamp_of_value_word head values.Nil stamp small = stamp_of_word kinds.Nil 0 stamp small
stamp_of_value_word head (values.Number n) stamp small = stamp_of_word kinds.Number n stamp small
stamp_of_value_word head (values.Object id) stamp small = stamp_of_word kinds.Reference (head id) stamp small

-- the word of a register is that of its value, which names a kept object where it names one
module _ (made : List Id) (owner : ℕ → Owner) (fragments : ℕ → List ℕ) where
  pub register_word_is_value_word : (held : Register) (value : Value) (stamp : ℕ) → HoldsValue made owner fragments held value → register_word held stamp ≡ value_word (object_head made fragments) value stamp
  register_word_is_value_word registers.Nil value stamp holds = ap (λ v. value_word (object_head made fragments) v stamp) (sym holds)
  register_word_is_value_word (registers.Number n) value stamp holds = ap (λ v. value_word (object_head made fragments) v stamp) (sym holds.0)
  register_word_is_value_word (registers.Object head id) value stamp holds =
      ap (λ h. register_word (registers.Object h id) stamp) holds.2 ∙ ap (λ v. value_word (object_head made fragments) v stamp) (sym holds.0)

  pub register_names_kept : (held : Register) (value : Value) → HoldsValue made owner fragments held value → NamesKept made owner fragments value
  register_names_kept registers.Nil value holds = subst (λ v. NamesKept made owner fragments v) (sym holds) tt
  register_names_kept (registers.Number n) value holds = subst (λ v. NamesKept made owner fragments v) (sym holds.0) holds.1
  register_names_kept (registers.Object head id) value holds = subst (λ v. NamesKept made owner fragments v) (sym holds.0) holds.1

module _ (head : Id → ℕ) (name : Name) (spine : Spot) (fragments : List ℕ) (i : ℕ) (cell : Cell) where
  -- the other words of a record
  other_word : (cells : List Cell) (is : Bool) (m k part : ℕ) → (is ≡ true → m ≢ i)
      → (if is then field_word head (slice_get (set cells i cell) m) else record_word_of name (length (set cells i cell)) fragments k part)
      ≡ (if is then field_word head (slice_get cells m) else record_word_of name (length cells) fragments k part)
  other_word cells true m k part apart = ap (field_word head) (slice_get-set_other cells i m cell (apart refl))
  other_word cells false m k part apart = ap (λ n. record_word_of name n fragments k part) (length-set cells i cell)

  record_stays : (cells : List Cell) (k part : ℕ) → part < 4 → (k ≡ row_of i → part ≡ part_of i → ⊥)
      → record_object_word head name (set cells i cell) fragments k part ≡ record_object_word head name cells fragments k part
  unfolding record_object_word
  record_stays cells k part within apart = other_word cells (is_cell k part) (3 * k + part - 2) k part (λ is e. elsewhere (stands_cell k part is) e)
    where
      elsewhere : (1 ≤ part) × (2 ≤ 3 * k + part) → 3 * k + part - 2 ≡ i → ⊥
      elsewhere stands e = apart (omega (arith, stands.0, stands.1, e, within)) (omega (arith, stands.0, stands.1, e, within))

  -- and of an array
  array_stays : (cells : List Cell) (k part : ℕ) → part < 4 → (k ≡ i / 4 + 1 → part ≡ i % 4 → ⊥)
      → array_object_word head name (set cells i cell) spine k part ≡ array_object_word head name cells spine k part
  unfolding array_object_word
  array_stays cells k part within apart = elim (eqb_tells k 0) as (λ _. array_object_word head name (set cells i cell) spine k part ≡ array_object_word head name cells spine k part) [
    | inl e ↦ rw e.0 (ap (λ n. sentinel_word_of name n spine part) (length-set cells i cell))
    | inr e ↦
        let some : k ≢ 0 = e.1 in
        rw e.0 (ap (field_word head) (slice_get-set_other cells i (4 * (k - 1) + part) cell (λ same. apart (omega (arith, some, same, within)) (omega (arith, some, same, within)))))
  ]

  pub other_word_stays_with_cell : (object : Node) (k part : ℕ) → part < 4 → (k ≡ row_in object i → part ≡ field_part object i → ⊥)
      → object_word head name (with_cell object i cell) spine fragments k part ≡ object_word head name object spine fragments k part
  other_word_stays_with_cell object k part within =
      node_cases (λ (o : Node). (k ≡ row_in o i → part ≡ field_part o i → ⊥) → object_word head name (with_cell o i cell) spine fragments k part ≡ object_word head name o spine fragments k part)
      (λ cells apart. array_stays cells k part within apart) (λ cells apart. record_stays cells k part within apart) object

  -- the word of the cell that was set
  pub set_cell_word_is_value : (object : Node) → i < length object.cells
      → object_word head name (with_cell object i cell) spine fragments (row_in object i) (field_part object i) ≡ value_word head cell.value cell.stamp
  set_cell_word_is_value object within = object_word_is_cell head name spine fragments (with_cell object i cell) i cell (slice_get-set_same object.cells i cell within)
