-- What the words of an object tell.
use Rattle.std.specs.Prelude.{unwrap_or}
use Rattle.std.proofs.Common.{◌≡◌, ℕ, ◌+◌, ◌-◌, ◌%◌, ◌^◌, ◌<◌, false, cond, eqb, List, length, get_or, Option, Some, None, inl, inr, refl, sym, ap, ◌∙◌, arith}
use Rattle.std.proofs.lemmas.Bool.{lt-ltb}
use Rattle.std.proofs.lemmas.Bool.Decides.{eqb_tells}
use Rattle.heap_words.specs.declared.cell.Cell.{Cell}
use Rattle.heap_words.specs.declared.kind.Kind.TheVariants as kinds
use Rattle.heap_words.specs.Name.{name_word}
use Rattle.core_rule.proofs.Terms.{Id, Board, Made, Value, Register, head_of, link_of, length_of, array_length_in, array_length_of, stamp_of, first_pointer, reference_of, id_of}
use Rattle.core_rule.proofs.Terms.{id_of_owner, plain_of, plain_register, record_meta, link_after, FitsName, name_of, value_word}
use Rattle.heap_model.specs.declared.id.Value.TheVariants as values
use Rattle.core_machine.specs.declared.seat.register.Register.TheVariants as registers
use Rattle.core_machine.proofs.table_lemmas.CellWords.{cell_of-cell_word}

-- the length in a record's meta
pub length_in-meta : (fields : ℕ) (fragments : List ℕ) → fields < 2 ^ 13 → get_or fragments 1 0 < 2 ^ 32 → length_of (record_meta fields fragments) ≡ fields
length_in-meta fields fragments few small =
    ap (λ (c : Cell). c.value % 2 ^ 13) (cell_of-cell_word kinds.Fixed fields (get_or fragments 1 0) (omega (arith, few)) small) ∙ omega (arith, few)

-- which tells no array's
pub array_length_in-record : (fields : ℕ) (fragments : List ℕ) → fields < 2 ^ 13 → get_or fragments 1 0 < 2 ^ 32 → array_length_of (record_meta fields fragments) ≡ None
array_length_in-record fields fragments few small =
    ap (λ (c : Cell). array_length_in c.kind c) (cell_of-cell_word kinds.Fixed fields (get_or fragments 1 0) (omega (arith, few)) small)
    ∙ rw (lt-ltb fields (2 ^ 29) (omega (arith, few))) refl

-- a lead, and 0 where there is none
lead_or_none : (n : ℕ) → unwrap_or (cond {A = Option ℕ} (eqb n 0) None (Some n)) 0 ≡ n
lead_or_none n = elim (eqb_tells n 0) as (λ _. unwrap_or (cond {A = Option ℕ} (eqb n 0) None (Some n)) 0 ≡ n) [
  | inl e ↦ rw e.0 (sym e.1)
  | inr e ↦ rw e.0 refl
]

-- it leads to the second fragment
pub link_in-meta : (fields : ℕ) (fragments : List ℕ) → fields < 2 ^ 13 → get_or fragments 1 0 < 2 ^ 32 → link_of (record_meta fields fragments) ≡ get_or fragments 1 0
link_in-meta fields fragments few small =
    ap (λ (c : Cell). unwrap_or (first_pointer c.kind c) 0) (cell_of-cell_word kinds.Fixed fields (get_or fragments 1 0) (omega (arith, few)) small)
    ∙ rw (lt-ltb fields (2 ^ 29) (omega (arith, few))) (lead_or_none (get_or fragments 1 0))

-- and a link to the fragment after its own
pub link_in-link : (fragments : List ℕ) (k : ℕ) → k + 1 < length fragments → get_or fragments (k + 1) 0 < 2 ^ 30 → link_of (link_after fragments k) ≡ get_or fragments (k + 1) 0
link_in-link fragments k more small =
    rw (lt-ltb (k + 1) (length fragments) more)
    (ap (λ (c : Cell). unwrap_or (first_pointer c.kind c) 0) (cell_of-cell_word kinds.Reference (get_or fragments (k + 1) 0) 0 small (omega arith)))

-- the id in a name
pub id_in-name : (id : Id) → FitsName id → id_of (name_word (name_of id)) ≡ id
id_in-name Board fits = ap (λ (c : Cell). id_of_owner (c.value % 2 ^ 8) c.stamp) (cell_of-cell_word kinds.Fixed 0 0 (omega arith) (omega arith))
id_in-name (Made s count) fits =
    let back : (s + 1) % 2 ^ 8 ≡ s + 1 = omega (arith, fits.0) in
    let some : eqb (s + 1) 0 ≡ false = grind arith in
    let less : s + 1 - 1 ≡ s = omega arith in
    ap (λ (c : Cell). id_of_owner (c.value % 2 ^ 8) c.stamp) (cell_of-cell_word kinds.Fixed (s + 1) count (omega (arith, fits.0)) fits.1)
    ∙ rw (back, some, less) refl

-- the value has room in a cell
abbrev pub HasRoom : (Id → ℕ) → Value → Type 0
HasRoom head values.Nil = Unit {0}
HasRoom head (values.Number n) = n < 2 ^ 30
HasRoom head (values.Object id) = head id < 2 ^ 30

-- the first fragment of the object that the value names
abbrev pub named_head : (Id → ℕ) → Value → Option ℕ
named_head head (values.Object id) = Some (head id)
named_head head _ = None

-- a register that holds the value, if it names no object
abbrev pub register_plain : Value → Register
register_plain (values.Number n) = registers.Number n
register_plain _ = registers.Nil

module _ (head : Id → ℕ) where
  -- the stamp of a field
  pub stamp_in-value : (value : Value) (stamp : ℕ) → HasRoom head value → stamp < 2 ^ 32 → stamp_of (value_word head value stamp) ≡ stamp
  stamp_in-value values.Nil stamp room small = ap (λ (c : Cell). c.stamp) (cell_of-cell_word kinds.Nil 0 stamp (omega arith) small)
  stamp_in-value (values.Number n) stamp room small = ap (λ (c : Cell). c.stamp) (cell_of-cell_word kinds.Number n stamp room small)
  stamp_in-value (values.Object id) stamp room small = ap (λ (c : Cell). c.stamp) (cell_of-cell_word kinds.Reference (head id) stamp room small)

  -- the object that it refers to
  pub head_in-value : (value : Value) (stamp : ℕ) → HasRoom head value → stamp < 2 ^ 32 → head_of (value_word head value stamp) ≡ named_head head value
  head_in-value values.Nil stamp room small = ap (λ (c : Cell). reference_of c.kind c.value) (cell_of-cell_word kinds.Nil 0 stamp (omega arith) small)
  head_in-value (values.Number n) stamp room small = ap (λ (c : Cell). reference_of c.kind c.value) (cell_of-cell_word kinds.Number n stamp room small)
  head_in-value (values.Object id) stamp room small = ap (λ (c : Cell). reference_of c.kind c.value) (cell_of-cell_word kinds.Reference (head id) stamp room small)

  -- and its value, where it refers to none
  pub plain_in-value : (value : Value) (stamp : ℕ) → HasRoom head value → stamp < 2 ^ 32 → plain_of (value_word head value stamp) ≡ register_plain value
  plain_in-value values.Nil stamp room small = ap (λ (c : Cell). plain_register c.kind c.value) (cell_of-cell_word kinds.Nil 0 stamp (omega arith) small)
  plain_in-value (values.Number n) stamp room small = ap (λ (c : Cell). plain_register c.kind c.value) (cell_of-cell_word kinds.Number n stamp room small)
  plain_in-value (values.Object id) stamp room small = ap (λ (c : Cell). plain_register c.kind c.value) (cell_of-cell_word kinds.Reference (head id) stamp room small)
