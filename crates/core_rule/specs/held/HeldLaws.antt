-- The laws of what is held, of any state and book that meet the rule.
use Rattle.std.specs.Prelude.{◌≡◌, ℕ, ◌*◌, ◌<◌, ◌≤◌, Some}
use Rattle.heap_words.specs.Spot.{spot_in}
use Rattle.core_machine.specs.collector.Collector.{next_turn}
use Rattle.core_machine.specs.declared.step.CopyingStep.TheVariants.{CopyClaim, CopyStore}
use Rattle.core_machine.specs.declared.step.MakingStep.TheVariants.{NewbornStore}
use Rattle.core_machine.specs.declared.step.SpineStep.TheVariants.{SpotClaim, SpineStore}
use Rattle.core_machine.specs.Moves.{due_step}
use Rattle.core_machine.specs.declared.step.Step.TheVariants as steps
use Rattle.core_machine.specs.declared.table.address.Address.TheVariants as addresses
use Rattle.core_machine.specs.table.Fragments.{tally}
use Rattle.core_machine.specs.table.Layout.{at}
use Rattle.heap_model.specs.declared.heap.Heap.{Heap}
use Rattle.core_rule.specs.marking.Sweep.{IsSettled}
use Rattle.core_machine.specs.machine.Machine.{State, seat_at, Event, Turns, Can, state_after}
use Rattle.core_rule.specs.Book.{Book}
use Rattle.core_rule.specs.words.ControlWords.{IsTaken, IsBorn, IsMarkedIn}
use Rattle.core_rule.specs.held.Held.{IsHeld}
use Rattle.core_rule.specs.held.HeldWords.{IsAmong, IsInHandOf, IsLoadedBy, IsInCopy, IsOfHeld, IsHeldWord}
use Rattle.core_rule.specs.Rule.{Rule}

-- each held fragment is one of the heap's, and its taken bit is set
abbrev pub EachHeldIsTaken : Type 0
EachHeldIsTaken = (heap : Heap) (state : State) (book : Book) (f : ℕ) → Rule heap state book → IsHeld heap state f
    → (f < 16 * heap.groups) × IsTaken heap state.words f

-- a fragment whose taken bit an event sets anew was not held before the event
abbrev pub NoClaimTakesHeld : Type 0
NoClaimTakesHeld = (heap : Heap) (state : State) (book : Book) (event : Event) (f : ℕ) → Rule heap state book → Can heap state event
    → ¬ IsTaken heap state.words f → IsTaken heap (state_after heap state event).words f → ¬ IsHeld heap state f

-- a turn of the collector leaves taken what is held
abbrev pub NoFreeTakesHeld : Type 0
NoFreeTakesHeld = (heap : Heap) (state : State) (book : Book) (f : ℕ) → Rule heap state book → IsHeld heap state f
    → IsTaken heap (state_after heap state Turns).words f

-- from the end of marking to the end of the sweep the marked bit of each held fragment that is born is set
abbrev pub EachHeldIsMarked : Type 0
EachHeldIsMarked = (heap : Heap) (state : State) (book : Book) (f : ℕ) → Rule heap state book → IsSettled state.collector.phase state.collector.stage
    → IsHeld heap state f → IsBorn heap state.words f → IsMarkedIn heap state.words f

-- no word that a seat's claim of a place gives it is held before
abbrev pub NoPlaceTakesHeld : Type 0
NoPlaceTakesHeld = (heap : Heap) (state : State) (book : Book) (number words half offset : ℕ) → Rule heap state book → number < heap.seats
    → due_step heap number (seat_at state number) ≡ Some (steps.Spine (SpotClaim words))
    → IsAmong (spot_in (at heap state.words addresses.Spot)) words half offset → ¬ IsHeldWord heap state half offset

-- no word that the collector's claim gives to a copy is held before
abbrev pub NoCopyTakesHeld : Type 0
NoCopyTakesHeld = (heap : Heap) (state : State) (book : Book) (words half offset : ℕ) → Rule heap state book
    → (next_turn heap state.collector).step ≡ steps.Copying (CopyClaim words)
    → IsAmong (spot_in (at heap state.words addresses.Spot)) words half offset → ¬ IsHeldWord heap state half offset

-- a newborn word is stored into an own fragment that isn't born
abbrev pub EachStoreIsOwn : Type 0
EachStoreIsOwn = (heap : Heap) (state : State) (book : Book) (number fragment part word : ℕ) → Rule heap state book → number < heap.seats
    → due_step heap number (seat_at state number) ≡ Some (steps.Making (NewbornStore fragment part word))
    → (1 ≤ tally fragment (seat_at state number).hand) × ¬ IsBorn heap state.words fragment

-- no held array's spine has the word, no call has loaded it, it is in no other seat's hand and in no copy
pub record OnlyInHandOf (heap : Heap) (state : State) (half offset number : ℕ) : Type 0 where
  pub unheld : ¬ IsOfHeld heap state half offset
  pub seats : (r : ℕ) → r < heap.seats → IsInHandOf state r half offset → r ≡ number
  pub unloaded : (r : ℕ) → r < heap.seats → ¬ IsLoadedBy heap state r half offset
  pub uncopied : ¬ IsInCopy state half offset

-- no held array's spine has the word, no call has loaded it, and it is in no seat's hand
pub record OnlyInCopy (heap : Heap) (state : State) (half offset : ℕ) : Type 0 where
  pub unheld : ¬ IsOfHeld heap state half offset
  pub seats : (r : ℕ) → r < heap.seats → ¬ IsInHandOf state r half offset
  pub unloaded : (r : ℕ) → r < heap.seats → ¬ IsLoadedBy heap state r half offset

-- a spine word of a seat is stored into its own range, and where it is held it is so by that alone
abbrev pub EachSpineStoreIsOwn : Type 0
EachSpineStoreIsOwn = (heap : Heap) (state : State) (book : Book) (number half offset fragment : ℕ) → Rule heap state book → number < heap.seats
    → due_step heap number (seat_at state number) ≡ Some (steps.Spine (SpineStore half offset fragment))
    → IsInHandOf state number half offset × OnlyInHandOf heap state half offset number

-- a word of a copy is stored into the copy's own range, and where it is held it is so by that alone
abbrev pub EachCopyStoreIsOwn : Type 0
EachCopyStoreIsOwn = (heap : Heap) (state : State) (book : Book) (half offset word : ℕ) → Rule heap state book
    → (next_turn heap state.collector).step ≡ steps.Copying (CopyStore half offset word)
    → IsInCopy state half offset × OnlyInCopy heap state half offset
