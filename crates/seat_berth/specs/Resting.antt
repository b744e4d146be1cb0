-- The rule of a berth: where the seat is by its word, and who has it.
use Rattle.std.specs.Prelude.{◌≡◌, ℕ, ◌⊎◌, List, [], ◌∷◌, Option, Some, None}
use Rattle.std.specs.declared.alloc.Global.{Global}
use Rattle.std.specs.declared.boxed.Box.{Box}
use mathlib.Core.Option.{Option as Found, none, some}
use lib.ListN.{get_elem?}
use Rattle.atomic_table.specs.Table.{State as Table}
use Rattle.heap_table.specs.SeatHeld.{SeatHeld}
use Rattle.seat_berth.specs.Known.{HelperKnown, Taken}
use Rattle.seat_berth.specs.OnlyAnswered.{OnlyAnswered}
use Rattle.seat_berth.specs.Views.{Slot, slot_of, helper_view}
use Rattle.seat_berth.specs.declared.view.View.{View}
use Rattle.seat_berth.specs.declared.view.View.TheVariants.{Opening, OfOwner, OfHelper}

-- the seat is of this table, of its heap and of this number
pub record IsOf (home seat : SeatHeld) : Type 0 where
  pub table_is : seat.table ≡ home.table
  pub heap_is : seat.heap ≡ home.heap
  pub number_is : seat.number ≡ home.number

-- of each helper it is so, by its number among the parties and what it has
abbrev pub EachHelper : List View → (ℕ → Option Taken → Type 0) → Type 0
EachHelper views Is = (party : ℕ) (known : HelperKnown) → get_elem? views party ≡ some (helper_view known) → Is party known.has

-- no helper has the seat
abbrev pub NoneHas : List View → Type 0
NoneHas views = EachHelper views (λ party has. has ≡ None)

-- what this party has is nothing; or it is that one party, and has the seat that was handed in so
abbrev pub HasAlone : ℕ → SeatHeld → ℕ → Option Taken → Type 0
HasAlone one parked party None = Unit {0}
HasAlone one parked party (Some taken) = (party ≡ one) × (taken.parked ≡ parked)

-- the seat rests in the slot, nothing but answers was done with it since it was handed in, and no helper has it
pub record IsResting (word : ℕ) (homes : List (Found Slot)) (views : List View) (parked : SeatHeld) : Type 0 where
  pub word_is : word ≡ 1
  pub boxed : Box SeatHeld Global
  pub home : get_elem? homes 0 ≡ some (some (slot_of boxed))
  pub answered : OnlyAnswered parked boxed.value
  pub free : NoneHas views

-- one helper has the seat
pub record IsHelped (word : ℕ) (views : List View) (parked : SeatHeld) : Type 0 where
  pub word_is : word ≡ 2
  pub one : ℕ
  pub alone : EachHelper views (HasAlone one parked)

-- the owner has handed this seat in, or has it
abbrev pub StandsOwner : SeatHeld → ℕ → List (Found Slot) → List View → Option SeatHeld → Type 0
StandsOwner home word homes views (Some parked) = IsOf home parked × (IsResting word homes views parked ⊎ IsHelped word views parked)
StandsOwner home word homes views None = (word ≡ 0) × NoneHas views

-- so it is by the owner's view, which is the first; before it has one, the slot is empty
abbrev pub StandsBy : SeatHeld → ℕ → List (Found Slot) → List View → Found View → Type 0
StandsBy home word homes views (some Opening) = (word ≡ 0) × (get_elem? homes 0 ≡ some (some None)) × NoneHas views
StandsBy home word homes views (some (OfOwner view)) = StandsOwner home word homes views view.known.parked
StandsBy home word homes views (some (OfHelper view)) = ⊥
StandsBy home word homes views none = ⊥

-- the rule: 0 says that the owner has the seat, 1 that it rests, 2 that a helper has it
pub record Holds (home : SeatHeld) (table : Table Slot View) : Type 0 where
  pub word : ℕ
  pub words_are : table.words ≡ word ∷ []
  pub stands : StandsBy home word table.homes table.views (get_elem? table.views 0)
