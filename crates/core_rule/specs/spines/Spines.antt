-- Whose each spine word is, and where the spines of arrays stand.
use Rattle.std.specs.Prelude.{◌≡◌, ℕ, ◌+◌, ◌<◌, ◌≤◌, List}
use Rattle.heap_words.specs.declared.spot.Spot.{Spot}
use Rattle.heap_words.specs.Spot.{spot_in, spot_word}
use Rattle.heap_model.specs.declared.heap.Heap.{Heap}
use Rattle.heap_model.specs.graph.Graph.{Node}
use Rattle.heap_model.specs.graph.Sizes.{spine_words_of}
use Rattle.core_machine.specs.declared.point.Making.TheVariants.{Listing, Storing, Bearing}
use Rattle.core_machine.specs.declared.point.Point.{Point}
use Rattle.core_machine.specs.declared.point.Point.TheVariants as points
use Rattle.core_machine.specs.declared.table.address.Address.TheVariants as addresses
use Rattle.core_machine.specs.seat.Commands.{IsArrayCall}
use Rattle.core_machine.specs.seat.Seat.{Seat, spine_need}
use Rattle.core_machine.specs.table.Layout.{at, spine_place}
use Rattle.heap_words.specs.Newborn.{spine_word}
use Rattle.core_rule.specs.owners.Owners.{Owner, SpineOwner, Placed, Spined}
use Rattle.core_rule.specs.Book.{fragment_at}
use Rattle.core_rule.specs.objects.Objects.{IsKept}
use Rattle.core_rule.specs.marking.Sweep.{DeadTell}

-- the place of the next spine, as the spot word tells
abbrev pub next_spine : Heap → List ℕ → Spot
next_spine heap words = spot_in (at heap words addresses.Spot)

-- the word at this place of the spine space is that spine's word k
pub record IsWordOf (spine : Spot) (half offset k : ℕ) : Type 0 where
  pub half_is : half ≡ spine.half
  pub offset_is : offset ≡ spine.offset + k

-- what is true of spine words: whose they are, and how many an array has that is to be freed
pub record SpinesStand (heap : Heap) (words : List ℕ) (seats made : ℕ) (nodes : ℕ → Node) (owner : ℕ → Owner) (fragments : ℕ → List ℕ) (spines : ℕ → Spot) (spine_owner : ℕ → ℕ → SpineOwner) : Type 0 where
  pub spot : at heap words addresses.Spot ≡ spot_word (next_spine heap words)
  -- a party is a seat or the collector
  pub parties : (half offset party k : ℕ) → spine_owner half offset ≡ Placed party k → party ≤ seats
  -- each kept array has the words of its spine
  pub kept : (i j : ℕ) → i < made → IsKept owner fragments i → j < spine_words_of (nodes i) → spine_owner (spines i).half ((spines i).offset + j) ≡ Spined i j
  -- and it has no others
  pub back : (half offset i j : ℕ) → spine_owner half offset ≡ Spined i j
      → (i < made) × IsKept owner fragments i × (j < spine_words_of (nodes i)) × IsWordOf (spines i) half offset j
  -- what is to be freed tells how many spine words its array has
  pub tells : DeadTell heap words made nodes owner

-- a spine has its place while its words and those of its array are stored, and until the array is whole
abbrev pub HasPlace : Seat → Point → Type 0
HasPlace seat (points.Making Listing) = IsArrayCall seat.command
HasPlace seat (points.Making Storing) = IsArrayCall seat.command
HasPlace seat (points.Making Bearing) = IsArrayCall seat.command
HasPlace seat _ = ⊥

-- the seat has exactly the words of the spine that it makes, once that has its place, and has stored the first ones
pub record SpineInHand (heap : Heap) (words : List ℕ) (spine_owner : ℕ → ℕ → SpineOwner) (number : ℕ) (seat : Seat) : Type 0 where
  pub placed : HasPlace seat seat.point → (j : ℕ) → j < spine_need seat → spine_owner seat.spine.half (seat.spine.offset + j) ≡ Placed number j
  pub own : (half offset j : ℕ) → spine_owner half offset ≡ Placed number j → HasPlace seat seat.point × (j < spine_need seat) × IsWordOf seat.spine half offset j
  pub stored : HasPlace seat seat.point → (j : ℕ) → j < seat.listed → at heap words (spine_place seat.spine j) ≡ spine_word (fragment_at seat.body (j + 1))
