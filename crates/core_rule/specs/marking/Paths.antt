-- Paths of white fragments, by which marking comes to all that is in use.
use Rattle.std.specs.Prelude.{◌≡◌, ℕ, ◌⊎◌, List}
use Rattle.heap_model.specs.declared.heap.Heap.{Heap}
use Rattle.core_rule.specs.Book.{Colour, White, Grey}
use Rattle.core_rule.specs.colours.Colours.{IsMarked, WordPointsTo}
use Rattle.core_rule.specs.owners.Owners.{Owner, born_bit}

-- the fragment is born and unmarked
pub record IsWhite (owner : ℕ → Owner) (colour : ℕ → Colour) (f : ℕ) : Type 0 where
  pub unmarked : colour f ≡ White
  pub born : born_bit (owner f) ≡ 1

-- one of the fragment's sources leads to g
pub record Edge (heap : Heap) (words : List ℕ) (f g : ℕ) : Type 0 where
  pub source : ℕ
  pub points : WordPointsTo heap words f source g

-- a path along these edges comes here from a grey fragment, and all behind that are white
pub data Guarded (edge : ℕ → ℕ → Type 0) (white grey : ℕ → Type 0) : ℕ → Type 0 where
  from_grey : (f g : ℕ) → grey f → edge f g → white g → Guarded edge white grey g
  from_white : (f g : ℕ) → Guarded edge white grey f → edge f g → white g → Guarded edge white grey g

-- a path of white fragments comes to this one from a grey one of the heap
abbrev pub IsGuarded : Heap → List ℕ → (ℕ → Owner) → (ℕ → Colour) → ℕ → Type 0
IsGuarded heap words owner colour = Guarded (Edge heap words) (IsWhite owner colour) (λ f. colour f ≡ Grey)

-- the fragment is marked, or marking still comes to it
abbrev pub IsReached : Heap → List ℕ → (ℕ → Owner) → (ℕ → Colour) → ℕ → Type 0
IsReached heap words owner colour f = IsMarked colour f ⊎ IsGuarded heap words owner colour f
