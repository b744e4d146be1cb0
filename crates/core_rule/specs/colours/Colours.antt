-- The colours of fragments: their bits in the control words, and what is true of them in each phase of a cycle.
use Rattle.std.specs.Prelude.{◌≡◌, ◌≢◌, ℕ, ◌*◌, ◌%◌, ◌<◌, ◌≤◌, List, Some}
use Rattle.std.specs.Int.{bit_at}
use Rattle.heap_words.specs.Control.{marked_at, scanned_at}
use Rattle.heap_model.specs.declared.heap.Heap.{Heap}
use Rattle.heap_model.specs.PhasePlan.{cycle_phases, rest as resting, barriers, black_births, sweep}
use Rattle.core_rule.specs.owners.Owners.{Owner, Borne, Kept, born_bit}
use Rattle.core_rule.specs.Book.{Colour, White, Grey, Black, fragment_at}
use Rattle.core_rule.specs.words.ControlWords.{control_of}
use Rattle.core_rule.specs.marking.Sources.{source_pointer}

-- whether a fragment of the colour is marked
abbrev pub marked_bit : Colour → ℕ
marked_bit White = 0
marked_bit Grey = 1
marked_bit Black = 1

-- whether a fragment of the colour is scanned
abbrev pub scanned_bit : Colour → ℕ
scanned_bit White = 0
scanned_bit Grey = 0
scanned_bit Black = 1

-- the fragment is grey or black
abbrev pub IsMarked : (ℕ → Colour) → ℕ → Type 0
IsMarked colour f = colour f ≢ White

-- the marked and the scanned bits of the control words are those of the colours
pub record Marks (heap : Heap) (words : List ℕ) (colour : ℕ → Colour) : Type 0 where
  pub marked : (f : ℕ) → f < 16 * heap.groups → bit_at (control_of heap words f) (marked_at f) ≡ marked_bit (colour f)
  pub scanned : (f : ℕ) → f < 16 * heap.groups → bit_at (control_of heap words f) (scanned_at f) ≡ scanned_bit (colour f)
  pub outside : (f : ℕ) → 16 * heap.groups ≤ f → colour f ≡ White

-- the fragment is one of the heap's, and this source of it leads to the fragment g
pub record WordPointsTo (heap : Heap) (words : List ℕ) (f source g : ℕ) : Type 0 where
  pub within : f < 16 * heap.groups
  pub to : source_pointer heap words f source ≡ Some g

-- the phase is one of its cycle's phases from the one to the other
pub record IsBetween (low high phase : ℕ) : Type 0 where
  pub from : low ≤ phase % cycle_phases
  pub upto : phase % cycle_phases ≤ high

-- the colours are right for this phase, these owners and these words
pub record Coloured (heap : Heap) (words : List ℕ) (owner : ℕ → Owner) (colour : ℕ → Colour) (fragments : ℕ → List ℕ) (phase : ℕ) : Type 0 where
  -- at rest all is white
  pub rest : phase % cycle_phases ≡ resting → (f : ℕ) → colour f ≡ White
  -- in a cycle's first phase nothing is black
  pub early : phase % cycle_phases ≡ barriers → (f : ℕ) → colour f ≢ Black
  -- what is marked is born
  pub born : (f : ℕ) → IsMarked colour f → born_bit (owner f) ≡ 1
  -- from black births to the sweep black fragments lead to marked ones alone
  pub black : IsBetween black_births sweep phase → (f source g : ℕ) → colour f ≡ Black → WordPointsTo heap words f source g → IsMarked colour g
  -- from barriers to the sweep a kept object with a marked fragment is marked by its first
  pub first : IsBetween barriers sweep phase → (f i k : ℕ) → owner f ≡ Kept i k → IsMarked colour f → IsMarked colour (fragment_at (fragments i) 0)

-- what a seat has borne of its new object is black where its last answer is from black births to the sweep, and else white
pub record BornColours (owner : ℕ → Owner) (colour : ℕ → Colour) (number answer : ℕ) : Type 0 where
  pub dark : IsBetween black_births sweep answer → (f : ℕ) → owner f ≡ Borne number → colour f ≡ Black
  pub light : ¬ IsBetween black_births sweep answer → (f : ℕ) → owner f ≡ Borne number → colour f ≡ White

-- the fragment's marked and scanned bits are those of the colour
pub record HasColour (heap : Heap) (words : List ℕ) (f : ℕ) (c : Colour) : Type 0 where
  pub marked : bit_at (control_of heap words f) (marked_at f) ≡ marked_bit c
  pub scanned : bit_at (control_of heap words f) (scanned_at f) ≡ scanned_bit c

-- the fragment's marked and scanned bits are those that a seat with this last answer gives to what it bears
pub record HasBirthColour (heap : Heap) (words : List ℕ) (f answer : ℕ) : Type 0 where
  pub dark : IsBetween black_births sweep answer → HasColour heap words f Black
  pub light : ¬ IsBetween black_births sweep answer → HasColour heap words f White
