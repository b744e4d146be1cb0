-- The objects once marking has ended: those that are kept then are whole, and refer to kept ones alone.
use Rattle.std.proofs.Common.{◌≡◌, ◌≢◌, ℕ, ◌<◌, ◌%◌, List, length, slice_get, Some, IfSome, ap, ◌∙◌}
use Rattle.std.proofs.lemmas.Option.{slice_get_within}
use Rattle.core_rule.proofs.Terms.{cycle_phases, Heap, Id, Value, graph_of, phase, Node, State, pointer_in, Book, Colour, Grey, fragment_at, id_at, object_head, object_number}
use Rattle.core_rule.proofs.Terms.{IsMarked, WordPointsTo, Objects, KeptObject, NamesKept, IsKept, node_at, value_word, Owner, Rule, row_in, field_part}
use Rattle.heap_model.specs.PhasePlan.{marking as marking_phase}
use Rattle.heap_model.specs.declared.graph.cell.Cell.{Cell}
use Rattle.heap_model.specs.declared.id.Value.TheVariants as values
use Rattle.core_rule.proofs.colours.SourceCases.{leads_by_word}
use Rattle.core_rule.proofs.lists.Options.{if_some_of_all}
use Rattle.core_rule.proofs.marking.Ended.{marked_leads_to_marked, first_fragment_is_marked, whole_object_is_marked}
use Rattle.core_rule.proofs.marking.Settled.{settled_owners, settled_kept_was_marked, marked_kept_stays_kept}
use Rattle.core_rule.proofs.ways.KeptWords.{owned_within_heap, named_value_has_room, object_has_row, word_tells_field_cell}
use Rattle.core_rule.proofs.ways.ArrayWords.{plain_pointer_is_head, value_word_is_not_fixed}
use Rattle.core_rule.proofs.ways.Rows.{field_part_is_small}
use Rattle.core_rule.proofs.ways.Told.{named_head, head_in-value}

module _ (made : List Id) (owner : ℕ → Owner) (colour : ℕ → Colour) (fragments : ℕ → List ℕ) where
  abbrev later : ℕ → Owner
  later = settled_owners owner colour

  -- a name of a kept object names a kept one where its first fragment is marked
  pub names_kept_after_settling : (value : Value) → NamesKept made owner fragments value → IfSome (named_head (object_head made fragments) value) (IsMarked colour) → NamesKept made later fragments value
  names_kept_after_settling values.Nil names marked = tt
  names_kept_after_settling (values.Number n) names marked = names
  names_kept_after_settling (values.Object id) names marked = (names.0, marked_kept_stays_kept (owner (object_head made fragments id)) (colour (object_head made fragments id)) (object_number made id) 0 names.1 marked)

module _ (heap : Heap) (state : State) (book : Book) (rule : Rule heap state book) (third : phase book.history % cycle_phases ≡ marking_phase) (none : (f : ℕ) → book.colour f ≢ Grey) where
  abbrev now : ℕ → Owner
  now = settled_owners book.owner book.colour

  abbrev head : Id → ℕ
  head = object_head book.made book.fragments

  abbrev object : ℕ → Node
  object i = node_at (graph_of heap book.history) book.made i

  abbrev cells : ℕ → List Cell
  cells i = (object i).cells

  -- an object that is kept was, and is marked
  was_kept : (i : ℕ) → IsKept now book.fragments i → IsKept book.owner book.fragments i × IsMarked book.colour (fragment_at (book.fragments i) 0)
  was_kept i kept = settled_kept_was_marked (book.owner (fragment_at (book.fragments i) 0)) (book.colour (fragment_at (book.fragments i) 0)) i 0 kept

  module _ (i : ℕ) (below : i < length book.made) (kept : IsKept book.owner book.fragments i) where
    -- a field that refers to an object leads to its first fragment
    field_leads : (j : ℕ) (cell : Cell) (f : ℕ) → slice_get (cells i) j ≡ Some cell → named_head head cell.value ≡ Some f
        → WordPointsTo heap state.words (fragment_at (book.fragments i) (row_in (object i) j)) (field_part (object i) j) f
    field_leads j cell f there names =
        let stands = rule.heap_stands in
        let named = stands.objects.named i j below kept cell there in
        let within = slice_get_within (cells i) j cell there in
        let room = named_value_has_room heap state.words (graph_of heap book.history) book.made book.owner book.fragments rule.machine.limits stands.control_words cell.value named.0 in
        let row = object_has_row heap state.words (graph_of heap book.history) book.made book.owner book.fragments rule.machine.limits stands.control_words stands.ids stands.objects i below kept j within in
        leads_by_word heap state.words (fragment_at (book.fragments i) (row_in (object i) j)) (field_part (object i) j) f
        (owned_within_heap heap state.words book.owner (fragment_at (book.fragments i) (row_in (object i) j)) i (row_in (object i) j) stands.control_words ((stands.objects.kept i below kept).owned (row_in (object i) j) row))
        (field_part_is_small (object i) j)
        (ap (pointer_in (field_part (object i) j)) (word_tells_field_cell heap state.words (graph_of heap book.history) book.made book.owner book.fragments rule.machine.limits stands.control_words stands.ids stands.objects i below kept j cell there)
        ∙ plain_pointer_is_head (field_part (object i) j) (value_word head cell.value cell.stamp) (value_word_is_not_fixed head cell.value cell.stamp room named.1)
        ∙ head_in-value head cell.value cell.stamp room named.1
        ∙ names)

    -- so what a marked object's fields name is kept
    named_later : IsMarked book.colour (fragment_at (book.fragments i) 0) → (j : ℕ) (cell : Cell) → slice_get (cells i) j ≡ Some cell → NamesKept book.made now book.fragments cell.value
    named_later marked j cell there =
        let stands = rule.heap_stands in
        let within = slice_get_within (cells i) j cell there in
        let row = object_has_row heap state.words (graph_of heap book.history) book.made book.owner book.fragments rule.machine.limits stands.control_words stands.ids stands.objects i below kept j within in
        names_kept_after_settling book.made book.owner book.colour book.fragments cell.value (stands.objects.named i j below kept cell there).0
        (if_some_of_all (IsMarked book.colour) (named_head head cell.value)
        (λ f names. marked_leads_to_marked heap state book rule third none (fragment_at (book.fragments i) (row_in (object i) j)) (field_part (object i) j) f
        (whole_object_is_marked heap state book rule third none i (row_in (object i) j) below kept marked row) (field_leads j cell f there names)))

    -- and a marked object is whole
    object_later : IsMarked book.colour (fragment_at (book.fragments i) 0)
        → KeptObject heap state.words now head i (id_at book.made i) (object i) (book.fragments i) (book.spines i)
    object_later marked =
        let one = rule.heap_stands.objects.kept i below kept in
        record {
          sized = one.sized;
          whole = one.whole;
          owned = λ k within. marked_kept_stays_kept _ _ i k (one.owned k within) (whole_object_is_marked heap state book rule third none i k below kept marked within);
          stored = one.stored;
          listed = one.listed;
        }

  -- the objects stand
  pub objects_after_settling : Objects heap state.words (graph_of heap book.history) book.made now book.fragments book.spines
  objects_after_settling = record {
    kept = λ i below is. let was = was_kept i is in object_later i below was.0 was.1;
    named = λ i j below is cell there. let was = was_kept i is in (named_later i below was.0 was.1 j cell there, (rule.heap_stands.objects.named i j below was.0 cell there).1);
    back = λ f i k is.
        let was = settled_kept_was_marked (book.owner f) (book.colour f) i k is in
        let one = rule.heap_stands.objects.back f i k was.0 in
        (one.0, marked_kept_stays_kept _ _ i 0 one.1 (first_fragment_is_marked heap state book rule third none f i k was.0 was.1), one.2, one.3);
    board = rule.heap_stands.objects.board;
  }
