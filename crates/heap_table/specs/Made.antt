-- Steps that a seat has made, one after another, with the word that each has found.
use Rattle.std.specs.Prelude.{◌≡◌, ℕ, ◌+◌, ◌<◌, ◌≤◌, List, [], ◌∷◌, length, Some, Contains}
use Rattle.heap_model.specs.Heap.{IsHeap}
use Rattle.heap_model.specs.declared.heap.Heap.{Heap}
use Rattle.core_machine.specs.declared.step.Step.{Step}
use Rattle.core_machine.specs.Moves.{due_step}
use Rattle.core_machine.specs.seat.Fits.{Fits}
use Rattle.core_machine.specs.seat.Seat.{Seat}
use Rattle.core_rule.specs.told.Found.{TellsWord}
use Rattle.heap_table.specs.Begun.{next_seat}
use Rattle.heap_table.specs.SeatHeld.{SeatHeld}
use Rattle.heap_table.specs.Told.{ToldAtStep}

-- the heap is within its limits, the seat is one of its seats, and the seat's data fit together: so it is with every holder
pub record IsSound (held : SeatHeld) : Type 0 where
  pub limits : IsHeap held.heap
  pub within : held.number < held.heap.seats
  pub fits : Fits held.heap held.seat

-- a step that was made, and the word that it found
pub record Made : Type 0 where
  pub step : Step
  pub found : ℕ

-- this step was made, and found this word
abbrev pub FoundIn : List Made → Step → ℕ → Type 0
FoundIn steps step word = Contains steps (record { step = step; found = word })

-- one of the steps found this word, of which the rule tells so much by what the seat had when its call began
abbrev pub ToldIn : SeatHeld → List Made → Step → ℕ → Type 0
ToldIn old made step word = FoundIn made step word × TellsWord old.heap old.number old.seat step word

-- each of the steps was due when it was made, and they led from the old seat to the new one
abbrev pub LeadsTo : Heap → ℕ → Seat → List Made → Seat → Type 0
LeadsTo heap number old [] new = new ≡ old
LeadsTo heap number old (made ∷ more) new =
    (due_step heap number old ≡ Some made.step) × ToldAtStep heap number old made.found × LeadsTo heap number (next_seat heap number old made.found) more new

-- the seat made these steps; else the holder is as it was, but for the room of new entries, and no room was made
pub record MakesSteps (old new : SeatHeld) (made : List Made) : Type 0 where
  pub table_stays : new.table ≡ old.table
  pub heap_stays : new.heap ≡ old.heap
  pub number_stays : new.number ≡ old.number
  pub leads : LeadsTo old.heap old.number old.seat made new.seat
  pub room_stays : old.spare + length old.seat.mine ≤ new.spare + length new.seat.mine
  pub no_more : new.spare ≤ old.spare

-- so it is by whatever steps the seat has come here
abbrev pub BySteps : SeatHeld → SeatHeld → (List Made → Type 0) → Type 0
BySteps old new Holds = (made : List Made) → MakesSteps old new made → Holds made
