-- Objects of the same shape, and graphs with the same objects.
use Rattle.std.proofs.Common.{◌≡◌, Bool, true, false, List, length, ap, ◌∙◌}
use Rattle.std.specs.Prelude.{if◌then◌else◌}
use Rattle.heap_model.specs.declared.graph.cell.Cell.{Cell}
use Rattle.heap_model.specs.declared.id.Id.{Id}
use Rattle.heap_model.specs.Needs.{record_fragments, array_fragments, array_words}
use Rattle.heap_model.specs.graph.Objects.{node}
use Rattle.heap_model.specs.graph.Graph.{Graph, Node}
use Rattle.heap_model.specs.graph.Sizes.{fragments_of, spine_words_of}

-- an object is an array of some cells or a record of them
pub node_cases : (P : Node → Type 0) → ((cells : List Cell) → P (record { array = true; cells = cells })) → ((cells : List Cell) → P (record { array = false; cells = cells }))
    → (object : Node) → P object
node_cases P an_array a_record object = by object.array
  where
    by : (array : Bool) → P (record { array = array; cells = object.cells })
    by true = an_array object.cells
    by false = a_record object.cells

-- the object is a record or an array as that one is, with as many cells
pub record SameShape (now before : Node) : Type 0 where
  pub kind : now.array ≡ before.array
  pub cells : length now.cells ≡ length before.cells

-- so it has as many spine words and fragments
pub same_shape_same_words : (now before : Node) → SameShape now before → spine_words_of now ≡ spine_words_of before
same_shape_same_words now before same = ap (λ a. if a then array_words (length now.cells) else 0) same.kind ∙ ap (λ n. if before.array then array_words n else 0) same.cells

pub same_shape_same_fragments : (now before : Node) → SameShape now before → fragments_of now ≡ fragments_of before
same_shape_same_fragments now before same = ap (λ a. if a then array_fragments (length now.cells) else record_fragments (length now.cells)) same.kind
    ∙ ap (λ n. if before.array then array_fragments n else record_fragments n) same.cells

pub same_shape_of_equal : (now before : Node) → now ≡ before → SameShape now before
same_shape_of_equal now before same = record { kind = ap (λ (o : Node). o.array) same; cells = ap (λ (o : Node). length o.cells) same }

-- each object is as it was
pub record SameNodes (g now : Graph) : Type 0 where
  pub nodes : (id : Id) → node now id ≡ node g id

-- so it is where nothing changes
pub same_nodes_of_equal : (g now : Graph) → now ≡ g → SameNodes g now
same_nodes_of_equal g now same = record { nodes = λ id. ap (λ (x : Graph). node x id) same }
