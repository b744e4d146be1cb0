-- What the rule keeps beside the state: the history so far, and whose each fragment and each spine word is.
use Rattle.std.specs.Prelude.{ℕ, ◌+◌, if◌then◌else◌, List, [], ◌∷◌, slice_index_or}
use Rattle.heap_words.specs.declared.spot.Spot.{Spot}
use Rattle.heap_model.specs.declared.entry.Entry.{Entry}
use Rattle.heap_model.specs.declared.id.Id.{Id}
use Rattle.heap_model.specs.declared.id.Id.TheVariants.{Board}
use Rattle.core_machine.specs.seat.Registers.{is_same_id}
use Rattle.core_rule.specs.owners.Owners.{Owner, SpineOwner}

-- a fragment is white where it isn't marked, grey where it is marked and not scanned, and black where it is both
pub data Colour : Type 0 where
  White : Colour
  Grey : Colour
  Black : Colour

-- what is kept beside the state
pub record Book : Type 0 where
  -- the entries so far, the oldest first
  pub history : List Entry
  -- the ids of all objects that were made, in the order of making, the board first
  pub made : List Id
  -- whose each fragment is
  pub owner : ℕ → Owner
  -- the fragments of each object, by its number in the order of making
  pub fragments : ℕ → List ℕ
  -- where the spine of each array stands, by its number in the order of making
  pub spines : ℕ → Spot
  -- whose each spine word is, by its half and its offset in that
  pub spine_owner : ℕ → ℕ → SpineOwner
  -- the colour of each fragment
  pub colour : ℕ → Colour
  -- how long the history was when each seat last began a call
  pub begun : ℕ → ℕ

-- fragment k of a list of fragments
abbrev pub fragment_at : List ℕ → ℕ → ℕ
fragment_at fragments k = slice_index_or fragments k 0

-- the id that was made at this position
abbrev pub id_at : List Id → ℕ → Id
id_at made i = slice_index_or made i Board

-- the number of an id in the order of making; how many were made where it is none of them
abbrev pub object_number : List Id → Id → ℕ
object_number [] id = 0
object_number (first ∷ made) id = if is_same_id first id then 0 else object_number made id + 1

-- the first fragment of an object
abbrev pub object_head : List Id → (ℕ → List ℕ) → Id → ℕ
object_head made fragments id = fragment_at (fragments (object_number made id)) 0
