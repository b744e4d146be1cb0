-- What follows of steps that a seat has made, one after another.
use Rattle.std.specs.Prelude.{◌≡◌, ℕ, ◌+◌, ◌<◌, ◌≤◌, List, [], ◌∷◌, ◌++◌, length, Some}
use Rattle.heap_model.specs.Heap.{IsHeap}
use Rattle.heap_model.specs.declared.command.Command.{Command}
use Rattle.heap_model.specs.declared.entry.Entry.{Entry}
use Rattle.heap_model.specs.declared.heap.Heap.{Heap}
use Rattle.core_machine.specs.Moves.{due_step}
use Rattle.core_machine.specs.calls.OwnStage.{OwnStage}
use Rattle.core_machine.specs.calls.Owes.{owes, steps_left}
use Rattle.core_machine.specs.declared.step.Step.{Step}
use Rattle.core_machine.specs.seat.Fits.{Fits}
use Rattle.core_machine.specs.seat.Seat.{Seat}
use Rattle.core_rule.specs.cycle.Flight.{WhileAccess}
use Rattle.core_rule.specs.told.Reached.{HasReached}
use Rattle.heap_table.specs.Begun.{next_seat}
use Rattle.heap_table.specs.Made.{Made, FoundIn, ToldIn, LeadsTo, MakesSteps, IsSound}
use Rattle.heap_table.specs.SeatHeld.{SeatHeld, StepFinds}

-- a holder that stays as it is has made no steps
abbrev pub EachMakesNone : Type 0
EachMakesNone = (held : SeatHeld) → MakesSteps held held []

-- a step that was due, and of which is told what the rule tells, is one made
abbrev pub EachStepIsMade : Type 0
EachStepIsMade =
    (old new : SeatHeld) (step : Step) (found : ℕ) → due_step old.heap old.number old.seat ≡ Some step → StepFinds old new found
    → MakesSteps old new (record { step = step; found = found } ∷ [])

-- steps made behind other steps are all of them made
abbrev pub StepsJoin : Type 0
StepsJoin = (first mid last : SeatHeld) (made more : List Made) → MakesSteps first mid made → MakesSteps mid last more → MakesSteps first last (made ++ more)

-- so is one step more behind those that were made
abbrev pub OneMoreIsMade : Type 0
OneMoreIsMade =
    (first now new : SeatHeld) (made : List Made) (step : Step) (found : ℕ) → MakesSteps first now made → due_step now.heap now.number now.seat ≡ Some step → StepFinds now new found
    → MakesSteps first new (made ++ record { step = step; found = found } ∷ [])

-- fewer steps are left, and no more entries are owed than were, but for those added
pub record IsNearer (old new : SeatHeld) : Type 0 where
  pub fewer : steps_left new.heap new.seat < steps_left old.heap old.seat
  pub paid : owes new.seat + length new.seat.mine ≤ owes old.seat + length old.seat.mine

-- each step brings the call nearer to its end
abbrev pub EachStepIsNearer : Type 0
EachStepIsNearer = (old new : SeatHeld) (step : Step) (found : ℕ) → IsSound old → due_step old.heap old.number old.seat ≡ Some step → StepFinds old new found → IsNearer old new

-- where there was room for what a call owes, there is still after the steps that it has made
abbrev pub RoomIsLeft : Type 0
RoomIsLeft = (old new : SeatHeld) (made : List Made) → IsSound old → MakesSteps old new made → owes old.seat + 2 ≤ old.spare → owes new.seat + 2 ≤ new.spare

-- after the steps that it has made the seat's data fit together as before
abbrev pub EachStaysSound : Type 0
EachStaysSound = (old new : SeatHeld) (made : List Made) → IsSound old → MakesSteps old new made → IsSound new

-- a call on an object has come after the step to what the rule tells
abbrev pub EachStepReaches : Type 0
EachStepReaches = (old new : SeatHeld) (found : ℕ) → StepFinds old new found → WhileAccess (HasReached new.heap new.number new.seat) new.seat.point

-- by the words that these steps found the call stands so now, and some entries more were told
abbrev pub StandsBy : List Made → Heap → ℕ → Command → Seat → Seat → List Entry → Type 0
StandsBy all heap number command old new told = (more : List Entry) × OwnStage (FoundIn all) heap number command old new (told ++ more)

-- a call stands after its due step as it is to, by the words that some steps found of which that is one
abbrev pub EachStageGoesOn : Type 0
EachStageGoesOn =
    (all : List Made) (heap : Heap) (number : ℕ) (command : Command) (old seat : Seat) (told : List Entry) (step : Step) (found : ℕ) → IsHeap heap → number < 16 → Fits heap seat
    → due_step heap number seat ≡ Some step → FoundIn all step found → OwnStage (FoundIn all) heap number command old seat told → StandsBy all heap number command old (next_seat heap number seat found) told

-- so it stands after all steps that were made, by the words that these found and those that were made before them
abbrev pub EachStageGoesAlong : Type 0
EachStageGoesAlong =
    (before made : List Made) (heap : Heap) (number : ℕ) (command : Command) (old seat new : Seat) (told : List Entry) → IsHeap heap → number < 16 → Fits heap seat
    → LeadsTo heap number seat made new → OwnStage (FoundIn (before ++ made)) heap number command old seat told → StandsBy (before ++ made) heap number command old new told

-- by what the rule tells of the words that these steps found, by what the seat had when its call began, the call stands so now, and some entries more were told
abbrev pub StandsAsTold : SeatHeld → List Made → Command → Seat → List Entry → Type 0
StandsAsTold old made command new told = (more : List Entry) × OwnStage (ToldIn old made) old.heap old.number command old.seat new (told ++ more)

-- and so it stands after all of its steps by what the rule tells of their words
abbrev pub EachStageIsTold : Type 0
EachStageIsTold =
    (old : SeatHeld) (made : List Made) (command : Command) (seat new : Seat) (told : List Entry) → IsHeap old.heap → old.number < 16 → Fits old.heap seat
    → LeadsTo old.heap old.number seat made new → OwnStage (ToldIn old made) old.heap old.number command old.seat seat told → StandsAsTold old made command new told
