-- The fragments of a group stand together in what is gathered for an object, the groups in the order of the claims.
use Rattle.std.specs.Prelude.{◌≡◌, ◌≢◌, ℕ, ◌+◌, ◌-◌, ◌/◌, ◌%◌, ◌<◌, ◌≤◌, List, [], ◌++◌, All, AllPairs}
use Rattle.heap_model.specs.declared.heap.Heap.{Heap}

-- how many groups come before the fragment's, from the group `start` on, wrapping at the last
abbrev pub claim_rank : Heap → ℕ → ℕ → ℕ
claim_rank heap start f = (f / 16 + heap.groups - start) % heap.groups

-- the fragments stand in the order of the claims that begin with this group
abbrev pub InClaims : Heap → ℕ → List ℕ → Type 0
InClaims heap start fragments = AllPairs (λ f g. claim_rank heap start f ≤ claim_rank heap start g) fragments

-- an object's fragments stand in the order of claims, and those that aren't born are the first of them
pub record IsInOrder (heap : Heap) (hand body : List ℕ) : Type 0 where
  pub start : ℕ
  pub below : start < heap.groups
  pub ordered : InClaims heap start body
  pub born : List ℕ
  pub front : body ≡ hand ++ born

-- what was claimed so far stands in the order of the claims; and so does the object's body
pub record AreTogether (heap : Heap) (cursor tried : ℕ) (hand body : List ℕ) : Type 0 where
  pub gathered : body ≡ [] → InClaims heap cursor hand × All (λ f. claim_rank heap cursor f < tried) hand
  pub chosen : body ≢ [] → IsInOrder heap hand body
