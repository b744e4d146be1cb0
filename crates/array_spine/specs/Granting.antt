-- Spine words are asked for, granted or turned down, and taken back.
use Rattle.std.specs.Prelude.{◌≡◌, ℕ, ◌+◌, ◌<◌, Bool, true, false, List}
use Rattle.heap_model.specs.declared.heap.Heap.{Heap}
use Rattle.core_machine.specs.calls.Kept.{WasMade}
use Rattle.core_machine.specs.declared.point.Making.TheVariants.{Granting, Withdrawing, Refusing}
use Rattle.core_machine.specs.declared.point.Point.{Point}
use Rattle.core_machine.specs.declared.point.Point.TheVariants as points
use Rattle.core_machine.specs.declared.step.SpineStep.TheVariants.{BudgetAdd, BudgetTakeBack}
use Rattle.core_machine.specs.declared.step.Step.TheVariants.{Spine}
use Rattle.core_machine.specs.seat.Commands.{IsArrayCall}
use Rattle.core_machine.specs.seat.Seat.{spine_need}
use Rattle.heap_table.specs.Made.{Made, FoundIn}
use Rattle.heap_table.specs.SeatHeld.{SeatHeld}
use Rattle.array_spine.specs.declared.budget.SpineFull.{SpineFull}

-- the call in flight makes an array, and is about to ask for its spine words, which are so many
pub record BeginsGranting (held : SeatHeld) (words : ℕ) : Type 0 where
  pub point_is : held.seat.point ≡ points.Making Granting
  pub words_are : spine_need held.seat ≡ words

-- the call in flight has too few fragments for its array, and has given back what it claimed; so many spine words were granted to it
pub record BeginsDropping (held : SeatHeld) (words : ℕ) : Type 0 where
  pub point_is : held.seat.point ≡ points.Making Refusing
  pub an_array : IsArrayCall held.seat.command
  pub words_are : spine_need held.seat ≡ words

-- the words that were asked for are to be taken back
abbrev pub is_withdrawing : Point → Bool
is_withdrawing (points.Making Withdrawing) = true
is_withdrawing _ = false

-- one of these steps asked for the words that were needed, and found so many used as is shown, beside which they are too many; another took them back
pub record IsTurnedDown (made : List Made) (heap : Heap) (full : SpineFull) : Type 0 where
  pub asked : FoundIn made (Spine (BudgetAdd full.need)) full.used
  pub too_many : heap.spine < full.used + full.need
  pub taken_back : WasMade (FoundIn made) (Spine (BudgetTakeBack full.need))
