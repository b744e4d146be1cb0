-- What named kept objects names the same ones, by the same words, when one more object is made.
use Rattle.std.proofs.Common.{◌≡◌, ◌≢◌, ℕ, ◌<◌, ◌≤◌, List, [], ◌∷◌, ◌++◌, length, slice_get, Option, Some, None, refl, sym, ap, ◌∙◌, subst, arith, length-append}
use Rattle.heap_words.specs.declared.name.Name.{Name}
use Rattle.heap_words.specs.declared.spot.Spot.{Spot}
use Rattle.heap_model.specs.declared.graph.cell.Cell.{Cell}
use Rattle.core_rule.proofs.Terms.{Id, Value, Graph, Node, tally, fragment_at, object_number, object_head, IsKept, NamesKept, value_word, field_word, object_word, AreMade, node_in}
use Rattle.core_rule.proofs.Terms.{node_at, Owner, Kept}
use Rattle.heap_model.specs.declared.id.Value.TheVariants as values
use Rattle.core_rule.proofs.graph.IdsGrowth.{OneMore, made_nodes_stay}
use Rattle.heap_model.proofs.graph_changes.Shapes.{same_shape_of_equal}
use Rattle.core_rule.proofs.objects.ObjectWords.{object_words_same_by_cells}
use Rattle.core_rule.proofs.owners.Keeping.{kept_by, with_object, old_object_keeps_fragments, new_object_has_body, kept_by_others_stays, kept_by_others_was, body_fragment_is_kept_at_position}
use Rattle.core_rule.proofs.graph.Numbering.{id_stays_by_append, number_stays_by_append}
use Rattle.core_rule.proofs.entries.SeatLists.{NamesStay}
use Rattle.core_rule.proofs.ways.WayFrames.{ObjectStays}

-- an object of a number that was there
pub old_number_is_not_new : (made : List Id) (i : ℕ) → i < length made → i ≢ length made
old_number_is_not_new made i below e = omega (arith, below, e)

module _ (made : List Id) (id : Id) (owner : ℕ → Owner) (fragments : ℕ → List ℕ) (body : List ℕ) (free : (f i k : ℕ) → 1 ≤ tally f body → owner f ≢ Kept i k) where
  abbrev now_owner : ℕ → Owner
  now_owner = kept_by (length made) body owner

  abbrev now_fragments : ℕ → List ℕ
  now_fragments = with_object fragments (length made) body

  -- an object that was kept is, and no other but the new one
  pub old_kept_stays_kept : (i : ℕ) → i < length made → IsKept owner fragments i → IsKept now_owner now_fragments i
  old_kept_stays_kept i below is = subst (λ fs. now_owner (fragment_at fs 0) ≡ Kept i 0) (sym (old_object_keeps_fragments fragments (length made) body i (old_number_is_not_new made i below)))
      (kept_by_others_stays (length made) body owner free (fragment_at (fragments i) 0) i 0 is)

  pub old_kept_was_kept : (i : ℕ) → i < length made → IsKept now_owner now_fragments i → IsKept owner fragments i
  old_kept_was_kept i below is = kept_by_others_was (length made) body owner (fragment_at (fragments i) 0) i 0 (old_number_is_not_new made i below)
      (subst (λ fs. now_owner (fragment_at fs 0) ≡ Kept i 0) (old_object_keeps_fragments fragments (length made) body i (old_number_is_not_new made i below)) is)

  pub new_object_is_kept : ((f : ℕ) → tally f body ≤ 1) → 1 ≤ length body → IsKept now_owner now_fragments (length made)
  new_object_is_kept once some = subst (λ fs. now_owner (fragment_at fs 0) ≡ Kept (length made) 0) (sym (new_object_has_body fragments (length made) body))
      (body_fragment_is_kept_at_position (length made) body owner once 0 (omega arith))

  -- so names of kept objects name kept ones, by the same first fragments
  pub names_kept_after_growth : (value : Value) → NamesKept made owner fragments value → NamesKept (made ++ id ∷ []) now_owner now_fragments value
  names_kept_after_growth values.Nil names = tt
  names_kept_after_growth (values.Number n) names = names
  names_kept_after_growth (values.Object x) names =
      let same : object_number (made ++ id ∷ []) x ≡ object_number made x = number_stays_by_append made id x names.0 in (
        omega (arith, same, names.0, length-append made (id ∷ [])),
        subst (λ i. IsKept now_owner now_fragments i) (sym same) (old_kept_stays_kept (object_number made x) names.0 names.1),
      )

  head_old : (x : Id) → object_number made x < length made → object_head (made ++ id ∷ []) now_fragments x ≡ object_head made fragments x
  head_old x below =
      ap (λ i. fragment_at (now_fragments i) 0) (number_stays_by_append made id x below)
      ∙ ap (λ fs. fragment_at fs 0) (old_object_keeps_fragments fragments (length made) body (object_number made x) (old_number_is_not_new made (object_number made x) below))

  value_old : (value : Value) (stamp : ℕ) → NamesKept made owner fragments value
      → value_word (object_head (made ++ id ∷ []) now_fragments) value stamp ≡ value_word (object_head made fragments) value stamp
  value_old values.Nil stamp names = refl
  value_old (values.Number n) stamp names = refl
  value_old (values.Object x) stamp names = rw (head_old x names.0) refl

  field_old : (cell : Option Cell) → ((c : Cell) → cell ≡ Some c → NamesKept made owner fragments c.value)
      → field_word (object_head (made ++ id ∷ []) now_fragments) cell ≡ field_word (object_head made fragments) cell
  field_old None names = refl
  field_old (Some c) names = value_old c.value c.stamp (names c refl)

  -- the words of an object that was there
  pub old_words_stay_after_growth : (name : Name) (object : Node) (spine : Spot) (fs : List ℕ) (k part : ℕ) → ((j : ℕ) (c : Cell) → slice_get object.cells j ≡ Some c → NamesKept made owner fragments c.value)
      → object_word (object_head (made ++ id ∷ []) now_fragments) name object spine fs k part ≡ object_word (object_head made fragments) name object spine fs k part
  old_words_stay_after_growth name object spine fs k part names =
      object_words_same_by_cells (object_head made fragments) (object_head (made ++ id ∷ []) now_fragments) name object spine fs k part (λ j. field_old (slice_get object.cells j) (names j))

-- names and ways go on when one object more is made
pub names_stay_after_growth : (made : List Id) (id : Id) (owner : ℕ → Owner) (fragments : ℕ → List ℕ) (body : List ℕ) → ((f i k : ℕ) → 1 ≤ tally f body → owner f ≢ Kept i k)
    → NamesStay made (made ++ id ∷ []) owner (kept_by (length made) body owner) fragments (with_object fragments (length made) body)
names_stay_after_growth made id owner fragments body free = record {
  names = λ x kept. names_kept_after_growth made id owner fragments body free (values.Object x) kept;
  heads = λ x kept. head_old made id owner fragments body free x kept.0;
}

pub object_stays_after_growth : (g now : Graph) (made : List Id) (id : Id) (owner : ℕ → Owner) (fragments : ℕ → List ℕ) (object : Node) (body : List ℕ)
    → ((f i k : ℕ) → 1 ≤ tally f body → owner f ≢ Kept i k) → AreMade g made → OneMore g now id object → (i : ℕ) → i < length made → IsKept owner fragments i
    → ObjectStays (node_at g made) (node_at now (made ++ id ∷ [])) made (made ++ id ∷ []) owner (kept_by (length made) body owner) fragments (with_object fragments (length made) body) i
object_stays_after_growth g now made id owner fragments object body free ids more i below kept = record {
  below = omega (arith, below, length-append made (id ∷ []));
  kept = old_kept_stays_kept made id owner fragments body free i below kept;
  id = id_stays_by_append made id i below;
  fragments_stay = old_object_keeps_fragments fragments (length made) body i (old_number_is_not_new made i below);
  shape = same_shape_of_equal _ _ (ap node_in (made_nodes_stay g now made id object ids more i below));
}
