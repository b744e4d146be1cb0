-- The objects when one more is made of a seat's fragments.
use Rattle.std.specs.Prelude.{if◌then◌else◌, ◌==◌}
use Rattle.std.proofs.Common.{◌≡◌, ◌^◌, ◌≢◌, ℕ, zero, suc, ◌+◌, ◌<◌, ◌≤◌, Bool, true, false, List, [], ◌∷◌, ◌++◌, length, replicate, slice_get, Some, inl, inr, sym, ap, ◌∙◌, subst, arith, length-append}
use Rattle.std.proofs.lemmas.Bool.Decides.{nat_tests}
use Rattle.std.proofs.lemmas.Option.{slice_get_within}
use Rattle.std.proofs.lemmas.List.{length-replicate}
use Rattle.heap_words.specs.declared.spot.Spot.{Spot}
use Rattle.core_rule.proofs.Terms.{Board, Heap, Id, record_fragments, array_fragments, array_words, node, Graph, Node, fresh, unset, Word, tally, at, spine_place, spine_word}
use Rattle.core_rule.proofs.Terms.{fragment_at, id_at, object_head, AreMade, IsKept, IsSized, NamesKept, KeptObject, Objects, node_in, node_at, cells_at, name_of, Owner, Kept}
use Rattle.heap_model.specs.declared.graph.cell.Cell.{Cell}
use Rattle.core_rule.proofs.graph.IdsGrowth.{OneMore, old_or_new_cases, made_nodes_stay}
use Rattle.core_rule.proofs.owners.Keeping.{kept_by, with_object, new_object_has_body, old_object_keeps_fragments, kept_by_others_stays, body_fragment_is_kept_at_position, kept_is_body_or_before}
use Rattle.core_rule.proofs.objects.NamesGrowth.{old_number_is_not_new, old_kept_stays_kept, old_kept_was_kept, new_object_is_kept, names_kept_after_growth, old_words_stay_after_growth}
use Rattle.core_rule.proofs.objects.Newborn.{fresh_word, object_word_is_fresh}
use Rattle.core_rule.proofs.graph.Numbering.{id_stays_by_append, new_id_stands_last}

-- a cell of an object that was never set
pub fresh_cell_is_unset : (n j : ℕ) (cell : Cell) → slice_get (replicate n unset) j ≡ Some cell → cell ≡ unset
fresh_cell_is_unset zero j cell there = absurd (cc)
fresh_cell_is_unset (suc n) zero cell there = cc
fresh_cell_is_unset (suc n) (suc j) cell there = fresh_cell_is_unset n j cell there

-- the fragments and the spine words of an object of so many cells
abbrev pub fresh_fragments : Bool → ℕ → ℕ
fresh_fragments array cells = if array then array_fragments cells else record_fragments cells

abbrev pub fresh_words : Bool → ℕ → ℕ
fresh_words array cells = if array then array_words cells else 0

-- the body of a new object: each fragment once, none that an object keeps, and stored as one whose cells were never set; and the words of an array's spine name its payload fragments
pub record NewBody (heap : Heap) (words : List ℕ) (owner : ℕ → Owner) (id : Id) (array : Bool) (cells : ℕ) (body : List ℕ) (spine : Spot) : Type 0 where
  pub sized : IsSized array cells
  pub whole : length body ≡ fresh_fragments array cells
  pub once : (f : ℕ) → tally f body ≤ 1
  pub unkept : (f i k : ℕ) → 1 ≤ tally f body → owner f ≢ Kept i k
  pub newborn : (k part : ℕ) → k < length body → part < 4 → at heap words (Word (fragment_at body k) part) ≡ fresh_word array (name_of id) cells spine body k part
  pub listed : (j : ℕ) → j < fresh_words array cells → at heap words (spine_place spine j) ≡ spine_word (fragment_at body (j + 1))

-- it has at least one fragment
pub fresh_body_is_some : (array : Bool) (cells : ℕ) (body : List ℕ) → length body ≡ fresh_fragments array cells → 1 ≤ length body
fresh_body_is_some true cells body whole = omega (arith, whole)
fresh_body_is_some false cells body whole = omega (arith, whole)

-- the spine of the object of this number stands there
abbrev pub with_spine : (ℕ → Spot) → ℕ → Spot → ℕ → Spot
with_spine spines n spine i = if i == n then spine else spines i

pub new_spine_is_spine : (spines : ℕ → Spot) (n : ℕ) (spine : Spot) → with_spine spines n spine n ≡ spine
new_spine_is_spine spines n spine = grind (arith, nat_tests)

pub old_spine_stays : (spines : ℕ → Spot) (n : ℕ) (spine : Spot) (i : ℕ) → i ≢ n → with_spine spines n spine i ≡ spines i
old_spine_stays spines n spine i apart = grind (arith, nat_tests, apart)

module _ (heap : Heap) (words : List ℕ) (g now : Graph) (made : List Id) (id : Id) (owner : ℕ → Owner) (fragments : ℕ → List ℕ) (spines : ℕ → Spot) (array : Bool) (cells : ℕ) (body : List ℕ) (spine : Spot)
    (ids : AreMade g made) (more : OneMore g now id (fresh array cells)) (new : NewBody heap words owner id array cells body spine) (old : Objects heap words g made owner fragments spines) where
  abbrev now_owner : ℕ → Owner
  now_owner = kept_by (length made) body owner

  abbrev now_fragments : ℕ → List ℕ
  now_fragments = with_object fragments (length made) body

  abbrev now_spines : ℕ → Spot
  now_spines = with_spine spines (length made) spine

  abbrev now_made : List Id
  now_made = made ++ id ∷ []

  abbrev IsKeptNow : ℕ → Id → Node → List ℕ → Spot → Type 0
  IsKeptNow i x object fs spot = KeptObject heap words now_owner (object_head now_made now_fragments) i x object fs spot

  kept_at : (i : ℕ) (x y : Id) (object now_object : Node) (fs gs : List ℕ) (s t : Spot) → x ≡ y → object ≡ now_object → fs ≡ gs → s ≡ t → IsKeptNow i x object fs s → IsKeptNow i y now_object gs t
  kept_at i x y object now_object fs gs s t e c f h kept =
      subst (λ z. IsKeptNow i y now_object gs z) h (subst (λ z. IsKeptNow i y now_object z s) f (subst (λ z. IsKeptNow i y z fs s) c (subst (λ z. IsKeptNow i z object fs s) e kept)))

  -- the nodes of the old objects are as before, and that of the new one is fresh
  pub old_nodes_stay : (i : ℕ) → i < length made → node_at now now_made i ≡ node_at g made i
  old_nodes_stay i below = ap node_in (made_nodes_stay g now made id (fresh array cells) ids more i below)

  pub new_node_is_fresh : node_at now now_made (length made) ≡ fresh array cells
  new_node_is_fresh = ap (λ x. node_in (node now x)) (new_id_stands_last made id) ∙ ap node_in more.new

  old_kept : (i : ℕ) → i < length made → IsKept now_owner now_fragments i → IsKeptNow i (id_at now_made i) (node_at now now_made i) (now_fragments i) (now_spines i)
  old_kept i below is =
      let before = old_kept_was_kept made id owner fragments body new.unkept i below is in
      let one = old.kept i below before in
      kept_at i (id_at made i) (id_at now_made i) (node_at g made i) (node_at now now_made i) (fragments i) (now_fragments i) (spines i) (now_spines i)
      (sym (id_stays_by_append made id i below)) (sym (old_nodes_stay i below)) (sym (old_object_keeps_fragments fragments (length made) body i (old_number_is_not_new made i below)))
      (sym (old_spine_stays spines (length made) spine i (old_number_is_not_new made i below)))
      record {
        sized = one.sized;
        whole = one.whole;
        owned = λ k p. kept_by_others_stays (length made) body owner new.unkept _ i k (one.owned k p);
        stored = λ k part p number. one.stored k part p number
            ∙ sym (old_words_stay_after_growth made id owner fragments body new.unkept (name_of (id_at made i)) (node_at g made i) (spines i) (fragments i) k part
            (λ j c there. (old.named i j below before c there).0));
        listed = one.listed;
      }

  long : length (replicate cells unset) ≡ cells
  long = length-replicate cells unset

  new_kept : IsKept now_owner now_fragments (length made)
      → IsKeptNow (length made) (id_at now_made (length made)) (node_at now now_made (length made)) (now_fragments (length made)) (now_spines (length made))
  new_kept is =
      kept_at (length made) id (id_at now_made (length made)) (fresh array cells) (node_at now now_made (length made)) body (now_fragments (length made)) spine (now_spines (length made))
      (sym (new_id_stands_last made id)) (sym new_node_is_fresh) (sym (new_object_has_body fragments (length made) body)) (sym (new_spine_is_spine spines (length made) spine))
      record {
        sized = subst (IsSized array) (sym long) new.sized;
        whole = new.whole ∙ ap (fresh_fragments array) (sym long);
        owned = body_fragment_is_kept_at_position (length made) body owner new.once;
        stored = λ k part p number. new.newborn k part p number ∙ sym (object_word_is_fresh (object_head now_made now_fragments) (name_of id) array cells spine body k part);
        listed = λ j p. new.listed j (subst (λ n. j < fresh_words array n) long p);
      }

  new_named : (j : ℕ) (cell : Cell) → slice_get (cells_at now now_made (length made)) j ≡ Some cell → NamesKept now_made now_owner now_fragments cell.value × (cell.stamp < 2 ^ 32)
  new_named j cell there =
      let is : cell ≡ unset = fresh_cell_is_unset cells j cell (ap (λ (o : Node). slice_get o.cells j) (sym new_node_is_fresh) ∙ there) in
      subst (λ (c : Cell). NamesKept now_made now_owner now_fragments c.value × (c.stamp < 2 ^ 32)) (sym is) (tt, omega arith)

  old_named : (i j : ℕ) → i < length made → IsKept now_owner now_fragments i → (cell : Cell) → slice_get (cells_at now now_made i) j ≡ Some cell → NamesKept now_made now_owner now_fragments cell.value × (cell.stamp < 2 ^ 32)
  old_named i j below is cell there =
      let one = old.named i j below (old_kept_was_kept made id owner fragments body new.unkept i below is) cell (ap (λ (o : Node). slice_get o.cells j) (sym (old_nodes_stay i below)) ∙ there) in
      (names_kept_after_growth made id owner fragments body new.unkept cell.value one.0, one.1)

  abbrev Back : ℕ → ℕ → ℕ → Type 0
  Back f i k = (i < length now_made) × IsKept now_owner now_fragments i × (k < length (now_fragments i)) × (f ≡ fragment_at (now_fragments i) k)

  longer : length now_made ≡ length made + 1
  longer = omega (arith, length-append made (id ∷ []))

  new_back : (f k : ℕ) → k < length body → f ≡ fragment_at body k → Back f (length made) k
  new_back f k within same = (
    omega (arith, longer),
    new_object_is_kept made id owner fragments body new.unkept new.once (fresh_body_is_some array cells body new.whole),
    subst (λ fs. k < length fs) (sym (new_object_has_body fragments (length made) body)) within,
    same ∙ ap (λ fs. fragment_at fs k) (sym (new_object_has_body fragments (length made) body)),
  )

  old_back : (f i k : ℕ) → owner f ≡ Kept i k → Back f i k
  old_back f i k is =
      let one = old.back f i k is in
      let same : now_fragments i ≡ fragments i = old_object_keeps_fragments fragments (length made) body i (old_number_is_not_new made i one.0) in (
        omega (arith, longer, one.0),
        old_kept_stays_kept made id owner fragments body new.unkept i one.0 one.1,
        subst (λ fs. k < length fs) (sym same) one.2,
        one.3 ∙ ap (λ fs. fragment_at fs k) (sym same),
      )

  -- the old objects stand, and the new one
  pub objects_after_growth : Objects heap words now now_made now_owner now_fragments now_spines
  objects_after_growth = record {
    kept = old_or_new_cases g now made id (fresh array cells) ids more
        (λ i. IsKept now_owner now_fragments i → IsKeptNow i (id_at now_made i) (node_at now now_made i) (now_fragments i) (now_spines i)) old_kept new_kept;
    named = λ i j below. old_or_new_cases g now made id (fresh array cells) ids more
        (λ x. IsKept now_owner now_fragments x → (cell : Cell) → slice_get (cells_at now now_made x) j ≡ Some cell → NamesKept now_made now_owner now_fragments cell.value × (cell.stamp < 2 ^ 32))
        (λ x less. old_named x j less) (λ is. new_named j) i below;
    back = λ f i k is. elim (kept_is_body_or_before (length made) body owner f i k is) [
      | inl here ↦ subst (λ x. Back f x k) (sym here.0) (new_back f k here.1 here.2)
      | inr before ↦ old_back f i k before
    ];
    board = ap (λ fs. fragment_at fs 0) (old_object_keeps_fragments fragments (length made) body 0 (λ none. omega (arith, slice_get_within made 0 Board ids.board, none))) ∙ old.board;
  }
