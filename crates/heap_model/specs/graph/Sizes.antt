-- How many fragments and spine words the objects of a graph have.
use Rattle.std.specs.Prelude.{◌≡◌, ℕ, if◌then◌else◌, List, length, sum_by}
use Rattle.std.specs.Option.{option_map_or}
use Rattle.heap_model.specs.declared.id.Id.{Id}
use Rattle.heap_model.specs.graph.Objects.{node}
use Rattle.heap_model.specs.graph.Graph.{Node, Graph}
use Rattle.heap_model.specs.graph.Reach.{IsReach}
use Rattle.heap_model.specs.Needs.{record_fragments, array_fragments, array_words}

-- the fragments of an object
abbrev pub fragments_of : Node → ℕ
fragments_of object = if object.array then array_fragments (length object.cells) else record_fragments (length object.cells)

-- the spine words of an object: an array has one for every four cells
abbrev pub spine_words_of : Node → ℕ
spine_words_of object = if object.array then array_words (length object.cells) else 0

-- the fragments of the object of this id, and 0 where there is none
abbrev pub fragments_at : Graph → Id → ℕ
fragments_at g id = option_map_or fragments_of (node g id) 0

-- the spine words of the object of this id, and 0 where there is none
abbrev pub spine_words_at : Graph → Id → ℕ
spine_words_at g id = option_map_or spine_words_of (node g id) 0

-- the fragments of all these objects
abbrev pub fragments_of_all : Graph → List Id → ℕ
fragments_of_all g ids = sum_by (fragments_at g) ids

-- the spine words of all these objects
abbrev pub spine_words_of_all : Graph → List Id → ℕ
spine_words_of_all g ids = sum_by (spine_words_at g) ids

-- what is reached in the graph has so many fragments
pub record HasReach (g : Graph) (fragments : ℕ) : Type 0 where
  pub ids : List Id
  pub reached : IsReach g ids
  pub counted : fragments ≡ fragments_of_all g ids
