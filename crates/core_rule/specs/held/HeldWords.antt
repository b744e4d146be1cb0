-- Which spine words are held: those of held arrays' spines, of a spine in a party's hand, and of one whose place a call has loaded.
use Rattle.std.specs.Prelude.{◌≡◌, ℕ, ◌<◌, ◌⊎◌, Some}
use Rattle.heap_words.specs.declared.spot.Spot.{Spot}
use Rattle.heap_words.specs.Spot.{spot_in}
use Rattle.heap_model.specs.declared.heap.Heap.{Heap}
use Rattle.core_machine.specs.declared.collector.stage.SpineCopy.{SpineCopy}
use Rattle.core_machine.specs.declared.table.address.Address.TheVariants.{Word}
use Rattle.core_machine.specs.machine.Machine.{State, seat_at}
use Rattle.core_machine.specs.seat.Seat.{spine_need}
use Rattle.core_machine.specs.table.Decode.{spine_words_in}
use Rattle.core_machine.specs.table.Layout.{at}
use Rattle.core_rule.specs.words.ControlWords.{IsBorn}
use Rattle.core_rule.specs.held.Held.{IsHeld}
use Rattle.core_rule.specs.copies.Replicas.{copy_in, CallsObject, HasLoaded}
use Rattle.core_rule.specs.spines.Spines.{HasPlace, IsWordOf}

-- the word is one of so many of the spine at this place
pub record IsAmong (spine : Spot) (words half offset : ℕ) : Type 0 where
  pub index : ℕ
  pub within : index < words
  pub is : IsWordOf spine half offset index

-- the seat has the spine word in its hand: its call has claimed it for the spine that it makes
pub record IsInHandOf (state : State) (number half offset : ℕ) : Type 0 where
  pub has : HasPlace (seat_at state number) (seat_at state number).point
  pub among : IsAmong (seat_at state number).spine (spine_need (seat_at state number)) half offset

-- the seat's call, which isn't over, has loaded the place of a spine with this word: that of the array in the call's register
pub record IsLoadedBy (heap : Heap) (state : State) (number half offset : ℕ) : Type 0 where
  pub loaded : HasLoaded (seat_at state number).point
  pub sentinel : ℕ
  pub calls : CallsObject (seat_at state number) sentinel
  pub among : IsAmong (seat_at state number).address (spine_words_in (at heap state.words (Word sentinel 0))) half offset

-- the collector has claimed the spine word for the copy in progress
pub record IsInCopy (state : State) (half offset : ℕ) : Type 0 where
  pub copy : SpineCopy
  pub progress : copy_in state.collector.stage ≡ Some copy
  pub among : IsAmong copy.to copy.array.words half offset

-- the spine word belongs to the spine of a held fragment that is born and begins an array
pub record IsOfHeld (heap : Heap) (state : State) (half offset : ℕ) : Type 0 where
  pub sentinel : ℕ
  pub held : IsHeld heap state sentinel
  pub born : IsBorn heap state.words sentinel
  pub among : IsAmong (spot_in (at heap state.words (Word sentinel 2))) (spine_words_in (at heap state.words (Word sentinel 0))) half offset

-- a seat has the spine word in its hand, or its call has loaded the spine's place
abbrev pub IsHeldBySeat : Heap → State → ℕ → ℕ → Type 0
IsHeldBySeat heap state half offset = (number : ℕ) × (number < heap.seats) × (IsInHandOf state number half offset ⊎ IsLoadedBy heap state number half offset)

-- the spine word is held
abbrev pub IsHeldWord : Heap → State → ℕ → ℕ → Type 0
IsHeldWord heap state half offset = IsOfHeld heap state half offset ⊎ IsHeldBySeat heap state half offset ⊎ IsInCopy state half offset
