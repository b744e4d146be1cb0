-- The objects after one cell of one of them was set: its word is the new one, and no other word changes.
use Rattle.std.proofs.Common.{◌≡◌, ◌≢◌, ℕ, ◌*◌, ◌^◌, ◌<◌, inl, inr, List, length, set, slice_get, Option, Some, IsSome, refl, sym, ap, ◌∙◌, subst}
use Rattle.std.proofs.lemmas.Bool.{cases_eq}
use Rattle.std.proofs.lemmas.List.{length-set}
use Rattle.heap_words.specs.declared.spot.Spot.{Spot}
use Rattle.heap_model.specs.declared.graph.cell.Cell.{Cell}
use Rattle.core_rule.proofs.Terms.{Heap, Id, with_cell, node, Graph, Node, Word, at, put, table_length, fragment_at, id_at, object_head, object_number, AreMade, IsKept, IsSized}
use Rattle.core_rule.proofs.Terms.{NamesKept, KeptObject, Objects, node_in, node_at, cells_at, name_of, value_word, object_word, Owner, Kept, row_in, field_part}
use Rattle.core_rule.proofs.words.Addresses.{control_same_after_word, other_fragment_word_stays, other_part_stays, written_word_is_read, same_spines_after_word}
use Rattle.heap_model.proofs.graph_changes.CellSet.{Sets, slice_get-set_same, slice_get-set_other}
use Rattle.core_rule.proofs.graph.SameNodes.{made_has_node}
use Rattle.heap_model.proofs.graph_changes.Shapes.{SameShape, same_shape_of_equal, same_shape_same_words, same_shape_same_fragments}
use Rattle.core_rule.proofs.objects.CellWords.{set_cell_word_is_value, other_word_stays_with_cell}
use Rattle.core_rule.proofs.objects.ObjectWords.{object_word_is_cell}
use Rattle.core_rule.proofs.ways.Rows.{field_part_is_small, field_row_within_fragments}
use Rattle.core_rule.proofs.graph.Numbering.{same_id_test_decides}
use Rattle.core_rule.proofs.hand.StoredFrames.{SameUnkept}
use Rattle.core_rule.proofs.spines.OtherWords.{leaves_spines_after_word}

module _ (heap : Heap) (words : List ℕ) (g now : Graph) (number : ℕ) (made : List Id) (owner : ℕ → Owner) (fragments : ℕ → List ℕ) (spines : ℕ → Spot) (n i : ℕ) (cell : Cell) (word : ℕ)
    (ids : AreMade g made) (old : Objects heap words g made owner fragments spines) (below : n < length made) (kept : IsKept owner fragments n)
    (sets : Sets g now number (id_at made n) i cell) (within : i < length (cells_at g made n)) where
  abbrev object : Node
  object = node_at g made n

  is_object : node g (id_at made n) ≡ Some object
  is_object = made_has_node (node g (id_at made n)) (ids.in_graph n below)

  object_set : node_at now made n ≡ with_cell object i cell
  object_set = ap node_in (sets.written object is_object)

  object_rest : (x : Id) → x ≢ id_at made n → node_in (node now x) ≡ node_in (node g x)
  object_rest x apart = ap node_in (sets.rest x apart)

  id_apart : (j : ℕ) → j < length made → j ≢ n → id_at made j ≢ id_at made n
  id_apart j less apart e = apart (sym (ids.distinct j less) ∙ ap (object_number made) e ∙ ids.distinct n below)

  -- each object is of its kind and as long as before
  pub same_shapes_after_set : (j : ℕ) → SameShape (node_at now made j) (node_at g made j)
  same_shapes_after_set j = elim (same_id_test_decides (id_at made j) (id_at made n)) as (λ _. SameShape (node_at now made j) (node_at g made j)) [
    | inl e ↦ subst (λ x. SameShape (node_in (node now x)) (node_in (node g x))) (sym e.1)
        (subst (λ o. SameShape o object) (sym object_set) record { kind = refl; cells = length-set object.cells i cell })
    | inr e ↦ same_shape_of_equal _ _ (object_rest (id_at made j) e.1)
  ]

  -- the same ids are those of objects
  node_made : (x : Id) → IsSome (node g x) → IsSome (node now x)
  node_made x is = elim (same_id_test_decides x (id_at made n)) [
    | inl e ↦ subst (λ y. IsSome (node now y)) (sym e.1) (subst (λ (o : Option Node). IsSome o) (sym (sets.written object is_object)) refl)
    | inr e ↦ subst (λ (o : Option Node). IsSome o) (sym (sets.rest x e.1)) is
  ]

  made_node_was : (x : Id) → IsSome (node now x) → IsSome (node g x)
  made_node_was x is = elim (same_id_test_decides x (id_at made n)) [
    | inl e ↦ subst (λ y. IsSome (node g y)) (sym e.1) (ids.in_graph n below)
    | inr e ↦ subst (λ (o : Option Node). IsSome o) (sets.rest x e.1) is
  ]

  pub are_made_after_set : AreMade now made
  are_made_after_set = record {
    board = ids.board;
    in_graph = λ j less. node_made (id_at made j) (ids.in_graph j less);
    numbered = λ x is. ids.numbered x (made_node_was x is);
    distinct = ids.distinct;
    fit = ids.fit;
  }

  abbrev row : ℕ
  row = row_in object i

  abbrev part : ℕ
  part = field_part object i

  abbrev target : ℕ
  target = fragment_at (fragments n) row

  abbrev now_words : List ℕ
  now_words = put heap words (Word target part) word

  abbrev head : Id → ℕ
  head = object_head made fragments

  one : KeptObject heap words owner head n (id_at made n) object (fragments n) (spines n)
  one = old.kept n below kept

  row_is_there : row < length (fragments n)
  row_is_there = subst (λ m. row < m) (sym one.whole) (field_row_within_fragments object i within)

  part_is_one : part < 4
  part_is_one = field_part_is_small object i

  target_owned : owner target ≡ Kept n row
  target_owned = one.owned row row_is_there

  -- the word of the field is the old cell's
  pub found_word_is_old_cell : (c : Cell) → slice_get (cells_at g made n) i ≡ Some c → at heap words (Word target part) ≡ value_word head c.value c.stamp
  found_word_is_old_cell c there = one.stored row part row_is_there part_is_one ∙ object_word_is_cell head (name_of (id_at made n)) (spines n) (fragments n) object i c there

  -- another word of an object is as before
  word_rest : (j k p : ℕ) → owner (fragment_at (fragments j) k) ≡ Kept j k → p < 4 → (j ≡ n → k ≡ row → p ≡ part → ⊥)
      → at heap now_words (Word (fragment_at (fragments j) k) p) ≡ at heap words (Word (fragment_at (fragments j) k) p)
  word_rest j k p is fits apart = elim (cases_eq (fragment_at (fragments j) k) target) [
    | inl same ↦
        let keeps : Kept j k ≡ Kept n row = sym is ∙ ap owner same ∙ target_owned in
        other_part_stays heap words word target part (fragment_at (fragments j) k) p (λ e. apart (cc (keeps)) (cc (keeps)) e) same
    | inr other ↦ other_fragment_word_stays heap words word target part (fragment_at (fragments j) k) p part_is_one fits other
  ]

  named_rest : (j m : ℕ) → j < length made → j ≢ n → IsKept owner fragments j → (c : Cell) → slice_get (cells_at now made j) m ≡ Some c → NamesKept made owner fragments c.value × (c.stamp < 2 ^ 32)
  named_rest j m less apart is c there = old.named j m less is c (ap (λ (o : Node). slice_get o.cells m) (sym (object_rest (id_at made j) (id_apart j less apart))) ∙ there)

  module _ (whole : length words ≡ table_length heap) (inside : target < 16 * heap.groups) (is_word : word ≡ value_word head cell.value cell.stamp)
      (names : NamesKept made owner fragments cell.value × (cell.stamp < 2 ^ 32)) where
    kept_rest : (j : ℕ) → j < length made → j ≢ n → IsKept owner fragments j → KeptObject heap now_words owner head j (id_at made j) (node_at now made j) (fragments j) (spines j)
    kept_rest j less apart is =
        let was = old.kept j less is in
        subst (λ o. KeptObject heap now_words owner head j (id_at made j) o (fragments j) (spines j)) (sym (object_rest (id_at made j) (id_apart j less apart)))
        record {
          sized = was.sized;
          whole = was.whole;
          owned = was.owned;
          stored = λ k p q r. word_rest j k p (was.owned k q) r (λ e f h. apart e) ∙ was.stored k p q r;
          listed = λ m p. same_spines_after_word heap words word target part inside part_is_one _ _ ∙ was.listed m p;
        }

    -- the words of the object are those of its cells then
    abbrev IsStoredNow : ℕ → ℕ → Type 0
    IsStoredNow k p = at heap now_words (Word (fragment_at (fragments n) k) p) ≡ object_word head (name_of (id_at made n)) (with_cell object i cell) (spines n) (fragments n) k p

    stored_rest : (k p : ℕ) → k < length (fragments n) → p < 4 → (k ≡ row → p ≡ part → ⊥) → IsStoredNow k p
    stored_rest k p q r apart =
        word_rest n k p (one.owned k q) r (λ e. apart) ∙ one.stored k p q r
        ∙ sym (other_word_stays_with_cell head (name_of (id_at made n)) (spines n) (fragments n) i cell object k p r apart)

    stored_there : IsStoredNow row part
    stored_there = written_word_is_read heap words word target part whole inside part_is_one ∙ is_word
        ∙ sym (set_cell_word_is_value head (name_of (id_at made n)) (spines n) (fragments n) i cell object within)

    stored_set : (k p : ℕ) → k < length (fragments n) → p < 4 → IsStoredNow k p
    stored_set k p q r = elim (cases_eq k row) [
      | inl e ↦ elim (cases_eq p part) [
        | inl f ↦ subst (λ x. IsStoredNow x p) (sym e) (subst (λ y. IsStoredNow row y) (sym f) stored_there)
        | inr f ↦ stored_rest k p q r (λ same. f)
      ]
      | inr e ↦ stored_rest k p q r (λ same f. e same)
    ]

    long : length (set object.cells i cell) ≡ length object.cells
    long = length-set object.cells i cell

    same_shape : SameShape (with_cell object i cell) object
    same_shape = record { kind = refl; cells = long }

    kept_set : KeptObject heap now_words owner head n (id_at made n) (node_at now made n) (fragments n) (spines n)
    kept_set =
        subst (λ o. KeptObject heap now_words owner head n (id_at made n) o (fragments n) (spines n)) (sym object_set)
        record {
          sized = subst (IsSized object.array) (sym long) one.sized;
          whole = one.whole ∙ sym (same_shape_same_fragments (with_cell object i cell) object same_shape);
          owned = one.owned;
          stored = stored_set;
          listed = λ m p. same_spines_after_word heap words word target part inside part_is_one _ _
              ∙ one.listed m (subst (λ w. m < w) (same_shape_same_words (with_cell object i cell) object same_shape) p);
        }

    named_set : (m : ℕ) (c : Cell) → slice_get (cells_at now made n) m ≡ Some c → NamesKept made owner fragments c.value × (c.stamp < 2 ^ 32)
    named_set m c there =
        let set_there : slice_get (set (cells_at g made n) i cell) m ≡ Some c = ap (λ (o : Node). slice_get o.cells m) (sym object_set) ∙ there in
        elim (cases_eq m i) [
          | inl e ↦
              let new : Some cell ≡ Some c = sym (slice_get-set_same (cells_at g made n) i cell within) ∙ ap (slice_get (set (cells_at g made n) i cell)) (sym e) ∙ set_there in
              let same : cell ≡ c = cc in
              subst (λ (x : Cell). NamesKept made owner fragments x.value × (x.stamp < 2 ^ 32)) same names
          | inr apart ↦ old.named n m below kept c (sym (slice_get-set_other (cells_at g made n) i m cell apart) ∙ set_there)
        ]

    -- the objects stand
    pub objects_after_set : Objects heap now_words now made owner fragments spines
    objects_after_set = record {
      kept = λ j less is. elim (cases_eq j n) [
        | inl e ↦ subst (λ x. KeptObject heap now_words owner head x (id_at made x) (node_at now made x) (fragments x) (spines x)) (sym e) kept_set
        | inr apart ↦ kept_rest j less apart is
      ];
      named = λ j m less is c there. elim (cases_eq j n) [
        | inl e ↦ named_set m c (ap (λ x. slice_get (cells_at now made x) m) (sym e) ∙ there)
        | inr apart ↦ named_rest j m less apart is c there
      ];
      back = old.back;
      board = old.board;
    }

  -- no word but an object's changes
  pub same_unkept_after_set : target < 16 * heap.groups → SameUnkept heap owner words now_words
  same_unkept_after_set target_below = record {
    controls = λ group less. control_same_after_word heap words word target part group less;
    unkept = λ f p free fits. other_fragment_word_stays heap words word target part f p part_is_one fits (λ e. free n row (ap owner e ∙ target_owned));
    spines = leaves_spines_after_word heap words word target part target_below part_is_one;
  }
