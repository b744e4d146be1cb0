-- Fragment 0 is the board's first one, and nothing else.
use Rattle.std.proofs.Common.{◌≡◌, ◌≢◌, ℕ, ◌<◌, List, length, sym, ap, ◌∙◌, subst, arith}
use Rattle.heap_words.specs.declared.spot.Spot.{Spot}
use Rattle.core_rule.proofs.Terms.{Heap, Id, Graph, fragment_at, Objects, IsKept, Owner, Kept, IsBoards, OwnersStand}

module _ (seats : ℕ) (owner : ℕ → Owner) (owners : OwnersStand seats owner) where
  -- a fragment that is number k of object number i is 0 where both are
  pub board_alone : (f i k : ℕ) → owner f ≡ Kept i k → f ≡ 0 → (i ≡ 0) × (k ≡ 0)
  board_alone f i k is first = subst IsBoards (sym (ap owner first) ∙ is) owners.board

  module _ (heap : Heap) (words : List ℕ) (g : Graph) (made : List Id) (fragments : ℕ → List ℕ) {spines : ℕ → Spot} (objects : Objects heap words g made owner fragments spines) where
    -- no fragment of a kept object behind its first is 0
    pub chain_fragment_is_not_zero : (i k : ℕ) → i < length made → IsKept owner fragments i → k < length (fragments i) → 0 < k → fragment_at (fragments i) k ≢ 0
    chain_fragment_is_not_zero i k below kept within later first =
        let both = board_alone (fragment_at (fragments i) k) i k ((objects.kept i below kept).owned k within) first in
        omega (arith, later, both.1)
