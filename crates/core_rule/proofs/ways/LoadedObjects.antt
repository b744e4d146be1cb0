-- What a set has loaded, and what its register holds, is a kept object's first fragment.
use Rattle.std.specs.Prelude.{slice_get, slice_index_or}
use Rattle.std.proofs.Common.{◌≡◌, ℕ, zero, suc, ◌<◌, false, List, [], ◌∷◌, length, get_or, Some, refl, sym, ap, ◌∙◌, arith}
use Rattle.std.proofs.lemmas.Option.{slice_get-get_or}
use Rattle.heap_words.specs.declared.spot.Spot.{Spot}
use Rattle.heap_model.specs.declared.graph.cell.Cell.{Cell}
use Rattle.core_rule.proofs.Terms.{Heap, Id, Value, Graph, unset, Word, Register, field_of, at, head_of, is_meta, heads_of, Seat, fragment_at, object_number, object_head, Bits}
use Rattle.core_rule.proofs.Terms.{AreMade, Objects, NamesKept, IsKept, node_at, cells_at, Owner, HoldsValue, Finds}
use Rattle.heap_model.specs.declared.id.Value.TheVariants as values
use Rattle.heap_model.specs.Heap.{IsHeap}
use Rattle.core_machine.specs.declared.seat.register.Register.TheVariants as registers
use Rattle.core_machine.specs.seat.Registers.{register_head as head_of_register}
use Rattle.core_rule.proofs.ways.KeptWords.{named_value_has_room, way_word_is_cell}
use Rattle.core_rule.proofs.ways.ArrayWords.{value_word_is_not_fixed}
use Rattle.core_rule.proofs.ways.Told.{named_head, head_in-value}

-- the first fragment of a kept object
pub record KeptHead (made : List Id) (owner : ℕ → Owner) (fragments : ℕ → List ℕ) (f : ℕ) : Type 0 where
  pub index : ℕ
  pub below : index < length made
  pub kept : IsKept owner fragments index
  pub is : f ≡ fragment_at (fragments index) 0

-- the value refers to a kept object, which begins with this fragment
pub record RefersTo (made : List Id) (owner : ℕ → Owner) (fragments : ℕ → List ℕ) (value : Value) (f : ℕ) : Type 0 where
  pub id : Id
  pub is : value ≡ values.Object id
  pub names : NamesKept made owner fragments (values.Object id)
  pub head : f ≡ object_head made fragments id

-- a cell of the object of this number refers to a kept object, which begins with this fragment
pub record CellRefers (g : Graph) (made : List Id) (owner : ℕ → Owner) (fragments : ℕ → List ℕ) (i f : ℕ) : Type 0 where
  pub position : ℕ
  pub cell : Cell
  pub there : slice_get (cells_at g made i) position ≡ Some cell
  pub refers : RefersTo made owner fragments cell.value f

module _ (made : List Id) (owner : ℕ → Owner) (fragments : ℕ → List ℕ) where
  -- which is a kept object's first one then
  pub referred_is_kept_head : (value : Value) (f : ℕ) → RefersTo made owner fragments value f → KeptHead made owner fragments f
  referred_is_kept_head value f refers = record { index = object_number made refers.id; below = refers.names.0; kept = refers.names.1; is = refers.head }

  -- what a value refers to
  pub value_refers_to_head : (value : Value) → NamesKept made owner fragments value → (f : ℕ) → named_head (object_head made fragments) value ≡ Some f → RefersTo made owner fragments value f
  value_refers_to_head (values.Object id) names f is = record { id = id; is = refl; names = names; head = cc }
  value_refers_to_head values.Nil names f is = cc
  value_refers_to_head (values.Number n) names f is = cc

  -- what a register that holds a value refers to
  pub register_head_is_named_head : (held : Register) (value : Value) → HoldsValue made owner fragments held value → head_of_register held ≡ named_head (object_head made fragments) value
  register_head_is_named_head registers.Nil value holds = ap (named_head (object_head made fragments)) (sym holds)
  register_head_is_named_head (registers.Number n) value holds = ap (named_head (object_head made fragments)) (sym holds.0)
  register_head_is_named_head (registers.Object head id) value holds = ap Some holds.2 ∙ ap (named_head (object_head made fragments)) (sym holds.0)

  pub held_value_refers : (held : Register) (value : Value) → HoldsValue made owner fragments held value → (f : ℕ) → head_of_register held ≡ Some f → RefersTo made owner fragments value f
  held_value_refers registers.Nil value holds f is = cc
  held_value_refers (registers.Number n) value holds f is = cc
  held_value_refers (registers.Object head id) value holds f is = record { id = id; is = holds.0; names = holds.1; head = cc (is, holds.2) }

  -- each head of some registers is one's
  pub each_head_is_referred : (held : List Register) (value : ℕ → Value) → ((r : ℕ) → HoldsValue made owner fragments (get_or held r registers.Nil) (value r))
      → (j : ℕ) → j < length (heads_of held) → (r : ℕ) × RefersTo made owner fragments (value r) (slice_index_or (heads_of held) j 0)
  each_head_is_referred [] value holds j less = absurd (omega (arith, less))
  each_head_is_referred (registers.Nil ∷ held) value holds j less = let its = each_head_is_referred held (λ r. value (suc r)) (λ r. holds (suc r)) j less in (suc its.0, its.1)
  each_head_is_referred (registers.Number n ∷ held) value holds j less = let its = each_head_is_referred held (λ r. value (suc r)) (λ r. holds (suc r)) j less in (suc its.0, its.1)
  each_head_is_referred (registers.Object head id ∷ held) value holds zero less = (0, held_value_refers (registers.Object head id) (value 0) (holds 0) head refl)
  each_head_is_referred (registers.Object head id ∷ held) value holds (suc j) less = let its = each_head_is_referred held (λ r. value (suc r)) (λ r. holds (suc r)) j (omega (arith, less)) in (suc its.0, its.1)

module _ (heap : Heap) (words : List ℕ) (g : Graph) (made : List Id) (owner : ℕ → Owner) (fragments : ℕ → List ℕ) {spines : ℕ → Spot}
    (limits : IsHeap heap) (bits : Bits heap words owner) (ids : AreMade g made) (objects : Objects heap words g made owner fragments spines) where
  -- what the field of a set refers to
  pub loaded_field_refers : (seat : Seat) → seat.links ≡ 0 → (finds : Finds (node_at g made) made owner fragments seat)
      → (f : ℕ) → head_of (at heap words (Word seat.reached seat.part)) ≡ Some f → CellRefers g made owner fragments finds.index f
  loaded_field_refers seat arrived finds f is =
      let field : ℕ = field_of seat.command in
      let cell : Cell = get_or (cells_at g made finds.index) field unset in
      let there : slice_get (cells_at g made finds.index) field ≡ Some cell = slice_get-get_or (cells_at g made finds.index) field unset finds.field.within in
      let named = objects.named finds.index field finds.way.below finds.way.kept cell there in
      record {
        position = field;
        cell = cell;
        there = there;
        refers = value_refers_to_head made owner fragments cell.value named.0 f
            (sym (head_in-value (object_head made fragments) cell.value cell.stamp (named_value_has_room heap words g made owner fragments limits bits cell.value named.0) named.1)
            ∙ ap head_of (sym (way_word_is_cell heap words g made owner fragments limits bits ids objects seat finds arrived cell there)) ∙ is);
      }

  pub loaded_is_kept_head : (seat : Seat) → seat.links ≡ 0 → Finds (node_at g made) made owner fragments seat
      → (f : ℕ) → head_of (at heap words (Word seat.reached seat.part)) ≡ Some f → KeptHead made owner fragments f
  loaded_is_kept_head seat arrived finds f is = let cell = loaded_field_refers seat arrived finds f is in referred_is_kept_head made owner fragments cell.cell.value f cell.refers

  -- its word isn't fixed
  pub field_word_is_not_fixed : (seat : Seat) → seat.links ≡ 0 → Finds (node_at g made) made owner fragments seat → is_meta (at heap words (Word seat.reached seat.part)) ≡ false
  field_word_is_not_fixed seat arrived finds =
      let field : ℕ = field_of seat.command in
      let cell : Cell = get_or (cells_at g made finds.index) field unset in
      let there : slice_get (cells_at g made finds.index) field ≡ Some cell = slice_get-get_or (cells_at g made finds.index) field unset finds.field.within in
      let named = objects.named finds.index field finds.way.below finds.way.kept cell there in
      ap is_meta (way_word_is_cell heap words g made owner fragments limits bits ids objects seat finds arrived cell there)
      ∙ value_word_is_not_fixed (object_head made fragments) cell.value cell.stamp (named_value_has_room heap words g made owner fragments limits bits cell.value named.0) named.1
