-- What stays where the graph's objects do.
use Rattle.std.proofs.Common.{◌≡◌, ℕ, List, Option, Some, None, IsSome, slice_get, refl, sym, ap, ◌∙◌, subst}
use Rattle.std.specs.Option.{option_map_or}
use Rattle.heap_words.specs.declared.spot.Spot.{Spot}
use Rattle.core_rule.proofs.Terms.{Heap, Id, Graph, Node, fragments_of, id_at, AreMade, Objects, node_in}
use Rattle.core_rule.proofs.Terms.{node_at, cells_at, Owner}
use Rattle.heap_model.proofs.graph_changes.Shapes.{SameShape, same_shape_of_equal, SameNodes}

-- an object that was made is there
pub made_has_node : (o : Option Node) → IsSome o → o ≡ Some (node_in o)
made_has_node None some = absurd (cc)
made_has_node (Some object) some = refl

-- and has its size
pub made_node_has_size : (o : Option Node) → IsSome o → fragments_of (node_in o) ≡ option_map_or fragments_of o 0
made_node_has_size None some = absurd (cc)
made_node_has_size (Some object) some = refl

module _ (g now : Graph) (made : List Id) (same : SameNodes g now) where
  pub objects_alike : (index : ℕ) → node_at now made index ≡ node_at g made index
  objects_alike index = ap node_in (same.nodes (id_at made index))

  pub same_shape_of_made : (index : ℕ) → SameShape (node_at now made index) (node_at g made index)
  same_shape_of_made index = same_shape_of_equal _ _ (objects_alike index)

  pub cells_stay : (index : ℕ) → cells_at now made index ≡ cells_at g made index
  cells_stay index = ap (λ (o : Node). o.cells) (objects_alike index)

  -- the ids are those of the objects
  pub are_made_still : AreMade g made → AreMade now made
  are_made_still ids = record {
    board = ids.board;
    in_graph = λ i below. subst (λ (o : Option Node). IsSome o) (sym (same.nodes (id_at made i))) (ids.in_graph i below);
    numbered = λ id is. ids.numbered id (subst (λ (o : Option Node). IsSome o) (same.nodes id) is);
    distinct = ids.distinct;
    fit = ids.fit;
  }

  module _ (owner : ℕ → Owner) (fragments : ℕ → List ℕ) (spines : ℕ → Spot) where
    -- their words are theirs
    pub objects_with_same_nodes : (heap : Heap) (words : List ℕ) → Objects heap words g made owner fragments spines → Objects heap words now made owner fragments spines
    objects_with_same_nodes heap words objects = record {
      kept = λ i below is. rw (objects_alike i) (objects.kept i below is);
      named = λ i j below is cell there. objects.named i j below is cell (sym (ap (λ cells. slice_get cells j) (cells_stay i)) ∙ there);
      back = objects.back;
      board = objects.board;
    }
