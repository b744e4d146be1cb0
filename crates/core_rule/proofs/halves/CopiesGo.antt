-- What copying has found stands as before where each kept array goes on, and what was marked is.
use Rattle.std.proofs.Common.{◌≡◌, ℕ, ◌+◌, ◌*◌, List, sym, ap, ◌∙◌}
use Rattle.heap_words.specs.declared.spot.Spot.{Spot}
use Rattle.core_rule.proofs.Terms.{Id, Node, Stage, spine_word, Colour, fragment_at, id_at, IsMarked, WhileCopying, Owner, Kept, VisitIsMarked, BeginsArray, HasFoundArray}
use Rattle.core_rule.proofs.Terms.{IsToCopy, CopyingStands}
use Rattle.core_machine.specs.collector.CopyingTurns.{visited, sentinel_at}
use Rattle.core_machine.specs.declared.collector.stage.ArrayAt.{ArrayAt}
use Rattle.core_machine.specs.declared.collector.stage.Copying.{Copying}
use Rattle.core_machine.specs.declared.collector.stage.Copying.TheVariants as copying
use Rattle.core_machine.specs.declared.collector.stage.Stage.TheVariants as stages
use Rattle.core_machine.specs.declared.collector.stage.Visit.{Visit}
use Rattle.heap_model.proofs.graph_changes.Shapes.{SameShape, same_shape_same_words}

-- the object of this number is kept, with its name, its fragments, its spine and its shape
pub record HeadStays (nodes now_nodes : ℕ → Node) (made now_made : List Id) (now_owner : ℕ → Owner) (fragments now_fragments : ℕ → List ℕ) (spines now_spines : ℕ → Spot) (f i : ℕ) : Type 0 where
  pub kept : now_owner f ≡ Kept i 0
  pub id : id_at now_made i ≡ id_at made i
  pub fragments_stay : now_fragments i ≡ fragments i
  pub spine : now_spines i ≡ spines i
  pub shape : SameShape (now_nodes i) (nodes i)

module _ (nodes now_nodes : ℕ → Node) (made now_made : List Id) (owner now_owner : ℕ → Owner) (colour now_colour : ℕ → Colour) (fragments now_fragments : ℕ → List ℕ) (spines now_spines : ℕ → Spot)
    (marked : (f : ℕ) → IsMarked colour f → IsMarked now_colour f)
    (heads : (f i : ℕ) → owner f ≡ Kept i 0 → HeadStays nodes now_nodes made now_made now_owner fragments now_fragments spines now_spines f i) where
  abbrev begins_go : (f words : ℕ) → BeginsArray nodes owner f words → BeginsArray now_nodes now_owner f words
  begins_go f words is =
      let one = heads f is.index is.kept in
      record { index = is.index; kept = one.kept; is_array = one.shape.kind ∙ is.is_array; as_many = is.as_many ∙ sym (same_shape_same_words (now_nodes is.index) (nodes is.index) one.shape) }

  marked_go : (visit : Visit) → VisitIsMarked colour visit → VisitIsMarked now_colour visit
  marked_go visit are position set = marked (16 * visit.group + position) (are position set)

  abbrev found_go : (array : ArrayAt) → HasFoundArray nodes made owner colour array → HasFoundArray now_nodes now_made now_owner now_colour array
  found_go array is = record {
    marked = marked_go array.visit is.marked;
    begins = begins_go (sentinel_at array) array.words is.begins;
    named = is.named ∙ sym (heads (sentinel_at array) is.begins.index is.begins.kept).id;
  }

  abbrev to_copy_go : (half : ℕ) (array : ArrayAt) (from : Spot) → IsToCopy nodes made owner colour spines half array from → IsToCopy now_nodes now_made now_owner now_colour now_spines half array from
  to_copy_go half array from is = record {
    found = found_go array is.found;
    own = is.own ∙ sym (heads (sentinel_at array) is.found.begins.index is.found.begins.kept).spine;
    left = is.left;
  }

  pub copies_go : (half : ℕ) (stage : Copying) → CopyingStands nodes made owner colour fragments spines half stage → CopyingStands now_nodes now_made now_owner now_colour now_fragments now_spines half stage
  copies_go half (copying.Visiting group) is = tt
  copies_go half (copying.Inspecting visit) is = marked_go visit is
  copies_go half (copying.Naming visit words) is = (marked_go visit is.0, begins_go (visited visit) words is.1)
  copies_go half (copying.Locating array) is = found_go array is
  copies_go half (copying.Claiming array from) is = to_copy_go half array from is
  copies_go half (copying.Loading copy) is = (to_copy_go half copy.array copy.from is.0, is.1)
  copies_go half (copying.Storing copy word) is = (
    to_copy_go half copy.array copy.from is.0,
    is.1 ∙ ap (λ fs. spine_word (fragment_at fs (copy.index + 1))) (sym (heads (sentinel_at copy.array) is.0.found.begins.index is.0.found.begins.kept).fragments_stay),
    is.2,
  )
  copies_go half (copying.Swinging copy) is = (to_copy_go half copy.array copy.from is.0, is.1)

  pub copying_stands_still : (half : ℕ) (stage : Stage) → WhileCopying (CopyingStands nodes made owner colour fragments spines half) stage
      → WhileCopying (CopyingStands now_nodes now_made now_owner now_colour now_fragments now_spines half) stage
  copying_stands_still half (stages.Copying stage) is = copies_go half stage is
  copying_stands_still half _ is = tt
