-- A call in flight is made to its end, step by step.
use Rattle.std.proofs.Common.{◌≡◌, ◌+◌, ◌<◌, ◌≤◌, ℕ, List, [], ◌∷◌, ◌++◌, Option, Some, None, refl, sym, ap, subst, ◌∙◌, arith}
use Rattle.std.specs.Prelude.{option_map}
use Rattle.heap_model.specs.Heap.{IsHeap}
use Rattle.heap_model.specs.declared.heap.Heap.{Heap}
use Rattle.core_machine.specs.Moves.{Move, move_at, due_step}
use Rattle.core_machine.specs.calls.Owes.{owes, steps_left}
use Rattle.core_machine.specs.declared.point.Point.{Point}
use Rattle.core_machine.specs.declared.point.Point.TheVariants as points
use Rattle.core_machine.specs.declared.step.Step.{Step}
use Rattle.core_machine.specs.seat.Fits.{Fits}
use Rattle.core_machine.specs.seat.Seat.{Seat}
use Rattle.core_machine.proofs.call_lemmas.CallEnd.{none_due}
use Rattle.heap_table.specs.Made.{Made, MakesSteps, IsSound}
use Rattle.heap_table.specs.SeatHeld.{SeatHeld, IsStepped, StepFinds}
use Rattle.heap_table.specs.StepLaws.{EachMakesNone, EachStepIsMade, StepsJoin, EachStepIsNearer, EachStaysSound}
use Rattle.heap_table.specs.Told.{ToldAtStep}

-- while the call is made: its steps so far, and room for what it owes
pub record WhileRunning (first now : SeatHeld) : Type 0 where
  pub made : List Made
  pub makes : MakesSteps first now made
  pub sound : IsSound now
  pub room : owes now.seat + 2 ≤ now.spare

pub while_running_at_begin : EachMakesNone → (held : SeatHeld) → IsSound held → owes held.seat + 2 ≤ held.spare → WhileRunning held held
while_running_at_begin none held sound room = record { made = []; makes = none held; sound = sound; room = room }

pub running_has_room : (first now : SeatHeld) → WhileRunning first now → 2 ≤ now.spare
running_has_room first now while = omega (arith, while.room)

pub while_running_after_step : EachStepIsMade → StepsJoin → EachStepIsNearer → EachStaysSound → (first now new : SeatHeld) (step : Step) (found : ℕ) → WhileRunning first now → due_step now.heap now.number now.seat ≡ Some step → IsStepped now new found
    → ToldAtStep now.heap now.number now.seat found → WhileRunning first new × (steps_left new.heap new.seat < steps_left now.heap now.seat)
while_running_after_step one joined nearer stays first now new step found while due stepped told =
    let finds : StepFinds now new found = record { stepped = stepped; told = told } in
    let last : List Made = record { step = step; found = found } ∷ [] in
    let makes = one now new step found due finds in
    let near = nearer now new step found while.sound due finds in (
      record {
        made = while.made ++ last;
        makes = joined first now new while.made last while.makes makes;
        sound = stays now new last while.sound makes;
        room = omega (arith, while.room, near.paid, stepped.room_stays);
      },
      near.fewer,
    )

-- once none is due no call is in flight
idle_at : (heap : Heap) (number : ℕ) (seat : Seat) (point : Point) → option_map (λ (m : Move). m.step) (move_at heap number seat point) ≡ None → point ≡ points.Idle
idle_at heap number seat points.Idle e = refl
idle_at heap number seat (points.Making point) e = cc
idle_at heap number seat points.Local e = cc
idle_at heap number seat (points.Access point) e = cc
idle_at heap number seat (points.Polling point) e = cc
idle_at heap number seat (points.Collecting point) e = cc
idle_at heap number seat (points.Leaving point) e = cc

pub idle_when_none_due : (held : SeatHeld) (due : Option Step) → due ≡ due_step held.heap held.number held.seat → ((step : Step) → due ≡ Some step → ⊥) → held.seat.point ≡ points.Idle
idle_when_none_due held due is none = idle_at held.heap held.number held.seat held.seat.point (sym is ∙ none_due due none)
