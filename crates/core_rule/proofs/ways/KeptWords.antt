-- What the words of a kept object tell, and those on the way to a field of it.
use Rattle.std.proofs.Common.{◌≡◌, ℕ, zero, suc, ◌+◌, ◌*◌, ◌/◌, ◌^◌, ◌<◌, ◌≤◌, Bool, true, false, inl, inr, List, length, slice_get, Some, None, refl, sym, ap, ◌∙◌, subst, arith}
use Rattle.std.specs.Prelude.{if◌then◌else◌}
use Rattle.std.proofs.lemmas.Bool.{cases_lt}
use Rattle.std.proofs.lemmas.List.{get_or_past}
use Rattle.std.proofs.lemmas.Option.{slice_get_within}
use Rattle.heap_words.specs.declared.spot.Spot.{Spot}
use Rattle.core_rule.proofs.Terms.{spot_in, Heap, Id, Value, Graph, Node, fragments_of, spine_words_of, Word, at, spine_place, FitsSpot, link_of, length_of}
use Rattle.core_rule.proofs.Terms.{array_length_of, payload_in, id_of, spine_words_in, record_meta, array_meta, field_of, Seat, fragment_at, id_at, object_head, Bits, AreMade}
use Rattle.core_rule.proofs.Terms.{Objects, KeptObject, NamesKept, IsKept, IsSized, node_at, cells_at, value_word, Owner, Kept, Finds, row_in, field_part}
use Rattle.heap_model.specs.declared.graph.cell.Cell.{Cell}
use Rattle.heap_model.specs.declared.id.Value.TheVariants as values
use Rattle.heap_model.specs.Heap.{IsHeap}
use Rattle.heap_model.proofs.graph_changes.Shapes.{node_cases}
use Rattle.core_rule.proofs.objects.ObjectWords.{object_word_is_record_meta, object_word_is_link, object_word_is_array_meta, object_word_is_spot, object_word_is_name, object_word_is_cell}
use Rattle.core_rule.proofs.ways.ArrayWords.{array_length_in-meta, length_in-array_meta, spine_words_in-meta, spot_in-word, payload_in-word}
use Rattle.core_rule.proofs.ways.Rows.{field_part_is_small, field_row_within_fragments}
use Rattle.core_rule.proofs.ways.Told.{HasRoom, length_in-meta, array_length_in-record, link_in-meta, link_in-link, id_in-name}

-- a fragment that has an owner is the heap's
pub owned_within_heap : (heap : Heap) (words : List ℕ) (owner : ℕ → Owner) (f i k : ℕ) → Bits heap words owner → owner f ≡ Kept i k → f < 16 * heap.groups
owned_within_heap heap words owner f i k bits is = elim (cases_lt f (16 * heap.groups)) [
  | inl below ↦ below
  | inr past ↦ let none = bits.outside f past in absurd (cc)
]

-- an object has some cells, and as many as a meta can tell
pub sized_cells_are_few : (array : Bool) (cells : ℕ) → IsSized array cells → (1 ≤ cells) × (cells ≤ 4096)
sized_cells_are_few true cells sized = sized
sized_cells_are_few false cells sized = (sized.0, omega (arith, sized.1))

-- an array has a spine word
pub array_has_spine_words : (object : Node) → IsSized object.array (length object.cells) → object.array ≡ true → 1 ≤ spine_words_of object
array_has_spine_words object sized = node_cases (λ (o : Node). IsSized o.array (length o.cells) → o.array ≡ true → 1 ≤ spine_words_of o)
    (λ cells few kind. omega (arith, few.0)) (λ cells few kind. absurd (cc kind)) object sized

-- and one payload fragment for each
pub array_payloads : (object : Node) → object.array ≡ true → fragments_of object ≡ spine_words_of object + 1
array_payloads object = node_cases (λ (o : Node). o.array ≡ true → fragments_of o ≡ spine_words_of o + 1) (λ cells kind. omega arith) (λ cells kind. absurd (cc kind)) object

-- a record has none
pub record_has_no_words : (object : Node) → object.array ≡ false → spine_words_of object ≡ 0
record_has_no_words object = node_cases (λ (o : Node). o.array ≡ false → spine_words_of o ≡ 0) (λ cells kind. absurd (cc kind)) (λ cells kind. refl) object

module _ (heap : Heap) (words : List ℕ) (g : Graph) (made : List Id) (owner : ℕ → Owner) (fragments : ℕ → List ℕ)
    (limits : IsHeap heap) (bits : Bits heap words owner) where
  -- a value that names a kept object has room
  pub named_value_has_room : (value : Value) → NamesKept made owner fragments value → HasRoom (object_head made fragments) value
  named_value_has_room values.Nil names = tt
  named_value_has_room (values.Number n) names = names
  named_value_has_room (values.Object id) names = omega (arith, limits.groups_fit, owned_within_heap heap words owner _ _ _ bits names.1)

  module _ {spines : ℕ → Spot} (ids : AreMade g made) (objects : Objects heap words g made owner fragments spines) (index : ℕ) (below : index < length made) (kept : IsKept owner fragments index) where
    abbrev object : Node
    object = node_at g made index

    the_object : KeptObject heap words owner (object_head made fragments) index (id_at made index) object (fragments index) (spines index)
    the_object = objects.kept index below kept

    few : (1 ≤ length object.cells) × (length object.cells ≤ 4096)
    few = sized_cells_are_few object.array (length object.cells) the_object.sized

    small : (k : ℕ) → k < length (fragments index) → fragment_at (fragments index) k < 2 ^ 30
    small k within = omega (arith, limits.groups_fit, owned_within_heap heap words owner _ _ _ bits (the_object.owned k within))

    second : fragment_at (fragments index) 1 < 2 ^ 32
    second = elim (cases_lt 1 (length (fragments index))) [
      | inl more ↦ omega (arith, small 1 more)
      | inr one ↦ let none : fragment_at (fragments index) 1 ≡ 0 = get_or_past (fragments index) 1 0 one in omega (arith, none)
    ]

    pub object_has_fragment : 0 < length (fragments index)
    object_has_fragment = subst (λ n. 0 < n) (sym the_object.whole) (node_cases (λ o. 0 < fragments_of o) (λ cells. omega arith) (λ cells. omega arith) object)

    -- of a record its meta was found, and of an array
    meta_found : object.array ≡ false → at heap words (Word (fragment_at (fragments index) 0) 0) ≡ record_meta (length object.cells) (fragments index)
    meta_found kind = the_object.stored 0 0 object_has_fragment (omega arith) ∙ object_word_is_record_meta _ _ _ _ object kind

    array_found : object.array ≡ true → at heap words (Word (fragment_at (fragments index) 0) 0) ≡ array_meta (length object.cells)
    array_found kind = the_object.stored 0 0 object_has_fragment (omega arith) ∙ object_word_is_array_meta _ _ _ _ object kind

    -- it is one or the other
    pub array_or_record_cases : (P : Type 0) → (object.array ≡ true → P) → (object.array ≡ false → P) → P
    array_or_record_cases P an_array a_record = by object.array refl
      where
        by : (array : Bool) → object.array ≡ array → P
        by true is = an_array is
        by false is = a_record is

    -- its length stands in its meta, which tells an array's alone to be one
    pub meta_tells_length : length_of (at heap words (Word (fragment_at (fragments index) 0) 0)) ≡ length (cells_at g made index)
    meta_tells_length = array_or_record_cases _
        (λ kind. ap length_of (array_found kind) ∙ length_in-array_meta _ (omega (arith, few.1)))
        (λ kind. ap length_of (meta_found kind) ∙ length_in-meta _ (fragments index) (omega (arith, few.1)) second)

    pub meta_tells_array_length : array_length_of (at heap words (Word (fragment_at (fragments index) 0) 0)) ≡ (if object.array then Some (length object.cells) else None)
    meta_tells_array_length = array_or_record_cases _
        (λ kind. ap array_length_of (array_found kind) ∙ array_length_in-meta (length object.cells) (omega (arith, few.1)) ∙ rw kind refl)
        (λ kind. ap array_length_of (meta_found kind) ∙ array_length_in-record (length object.cells) (fragments index) (omega (arith, few.1)) second ∙ rw kind refl)

    -- the way of a record leads from each fragment to the next
    pub link_tells_next_fragment : object.array ≡ false → (k : ℕ) → k + 1 < length (fragments index)
        → link_of (at heap words (Word (fragment_at (fragments index) k) 0)) ≡ fragment_at (fragments index) (k + 1)
    link_tells_next_fragment kind zero more = ap link_of (meta_found kind) ∙ link_in-meta _ (fragments index) (omega (arith, few.1)) second
    link_tells_next_fragment kind (suc k) more =
        ap link_of (the_object.stored (suc k) 0 (omega (arith, more)) (omega arith) ∙ object_word_is_link _ _ _ _ object k kind)
        ∙ link_in-link (fragments index) (suc k) more (small (suc k + 1) more)

    -- an array tells how many spine words it has, and where they stand; and each names a fragment of it
    pub meta_tells_spine_words : object.array ≡ true → spine_words_in (at heap words (Word (fragment_at (fragments index) 0) 0)) ≡ spine_words_of object
    meta_tells_spine_words kind = ap spine_words_in (array_found kind) ∙ spine_words_in-meta (length object.cells) (omega (arith, few.1)) ∙ rw kind refl

    pub word_tells_spine_spot : object.array ≡ true → FitsSpot (spines index) → spot_in (at heap words (Word (fragment_at (fragments index) 0) 2)) ≡ spines index
    word_tells_spine_spot kind fits = ap spot_in (the_object.stored 0 2 object_has_fragment (omega arith) ∙ object_word_is_spot _ _ _ _ object kind) ∙ spot_in-word (spines index) fits

    pub payload_within_spine_words : object.array ≡ true → (j : ℕ) → j + 1 < length (fragments index) → j < spine_words_of object
    payload_within_spine_words kind j within = omega (arith, within, the_object.whole, array_payloads object kind)

    payload_there : (j : ℕ) → j < spine_words_of object → j + 1 < length (fragments index)
    payload_there j within = array_or_record_cases _
        (λ kind. omega (arith, within, the_object.whole, array_payloads object kind))
        (λ kind. absurd (omega (arith, within, record_has_no_words object kind)))

    pub spine_word_tells_payload : (j : ℕ) → j < spine_words_of object
        → (j + 1 < length (fragments index)) × (payload_in (at heap words (spine_place (spines index) j)) ≡ fragment_at (fragments index) (j + 1))
    spine_word_tells_payload j within = (payload_there j within, ap payload_in (the_object.listed j within) ∙ payload_in-word _ (small (j + 1) (payload_there j within)))

    -- its id stands in its name
    pub name_tells_id : id_of (at heap words (Word (fragment_at (fragments index) 0) 1)) ≡ id_at made index
    name_tells_id = ap id_of (the_object.stored 0 1 object_has_fragment (omega arith) ∙ object_word_is_name _ _ _ _ object) ∙ id_in-name (id_at made index) (ids.fit index below)

    -- it has the row of each of its fields
    pub object_has_row : (i : ℕ) → i < length (cells_at g made index) → row_in object i < length (fragments index)
    object_has_row i within = subst (λ n. row_in object i < n) (sym the_object.whole) (field_row_within_fragments object i within)

    -- and in it the field's cell
    pub word_tells_field_cell : (i : ℕ) (cell : Cell) → slice_get (cells_at g made index) i ≡ Some cell
        → at heap words (Word (fragment_at (fragments index) (row_in object i)) (field_part object i)) ≡ value_word (object_head made fragments) cell.value cell.stamp
    word_tells_field_cell i cell there =
        the_object.stored (row_in object i) (field_part object i) (object_has_row i (slice_get_within _ i cell there)) (field_part_is_small object i)
        ∙ object_word_is_cell _ _ _ _ object i cell there

  module _ {spines : ℕ → Spot} (ids : AreMade g made) (objects : Objects heap words g made owner fragments spines) (seat : Seat) (finds : Finds (node_at g made) made owner fragments seat) where
    -- the object has the row to which a way leads
    pub way_row_within_object : finds.row + seat.links < length (fragments finds.index)
    way_row_within_object = subst (λ n. n < length (fragments finds.index)) (sym finds.field.leads) (object_has_row ids objects finds.index finds.way.below finds.way.kept (field_of seat.command) finds.field.within)

    -- where links lead on it is a record, and the first of them leads to the next row
    pub linked_object_is_record : 0 < seat.links → (node_at g made finds.index).array ≡ false
    linked_object_is_record more = array_or_record_cases ids objects finds.index finds.way.below finds.way.kept _ (λ kind. absurd (omega (arith, more, finds.field.linked kind))) (λ kind. kind)

    -- in an array the way has come to a fragment behind the first
    pub way_is_behind_first : (node_at g made finds.index).array ≡ true → 1 ≤ finds.row
    way_is_behind_first kind =
        let field = field_of seat.command in
        let row : row_in (node_at g made finds.index) field ≡ field / 4 + 1 = rw kind refl in
        let there : finds.row + seat.links ≡ field / 4 + 1 = finds.field.leads ∙ row in omega (arith, there, finds.field.linked kind)

    pub link_tells_next_row : 0 < seat.links → link_of (at heap words (Word seat.reached 0)) ≡ fragment_at (fragments finds.index) (finds.row + 1)
    link_tells_next_row more = ap (λ f. link_of (at heap words (Word f 0))) finds.way.here
        ∙ link_tells_next_fragment ids objects finds.index finds.way.below finds.way.kept (linked_object_is_record more) finds.row (omega (arith, more, way_row_within_object))

    -- where none does, the way stands at the field
    pub way_stands_at_field : seat.links ≡ 0
        → Word seat.reached seat.part ≡ Word (fragment_at (fragments finds.index) (row_in (node_at g made finds.index) (field_of seat.command))) (field_part (node_at g made finds.index) (field_of seat.command))
    way_stands_at_field arrived = cc (finds.way.here, finds.field.there, row)
      where
        row : finds.row ≡ row_in (node_at g made finds.index) (field_of seat.command)
        row = omega (arith, arrived) ∙ finds.field.leads

    -- and its cell is found
    pub way_word_is_cell : seat.links ≡ 0 → (cell : Cell) → slice_get (cells_at g made finds.index) (field_of seat.command) ≡ Some cell
        → at heap words (Word seat.reached seat.part) ≡ value_word (object_head made fragments) cell.value cell.stamp
    way_word_is_cell arrived cell there = ap (at heap words) (way_stands_at_field arrived) ∙ word_tells_field_cell ids objects finds.index finds.way.below finds.way.kept (field_of seat.command) cell there
