-- A store finds no word: what is told at its step is told of any word.
use Rattle.std.specs.Prelude.{option_map}
use Rattle.std.proofs.Common.{◌≡◌, ℕ, Some, ap, ◌∙◌}
use Rattle.core_rule.proofs.Terms.{Heap, LoadingMeta, Point, Move, move_at, due_step, access_move, Seat, operation_of, WhileAccess}
use Rattle.core_machine.specs.declared.point.Access.{Access}
use Rattle.core_machine.specs.declared.point.Point.TheVariants as points
use Rattle.core_machine.specs.declared.step.AccessStep.TheVariants.{WalkLoad}
use Rattle.core_machine.specs.declared.step.operation.Operation.TheVariants.{Store}
use Rattle.core_machine.specs.declared.step.SpineStep.TheVariants.{BudgetAdd}
use Rattle.core_machine.specs.declared.step.Step.{Step}
use Rattle.core_machine.specs.declared.step.Step.TheVariants as steps
use Rattle.core_machine.specs.declared.step.TurningStep.TheVariants.{LookLoad}
use Rattle.core_rule.specs.told.Found.{TellsWord, TellsFound}

module _ (heap : Heap) (number : ℕ) (seat : Seat) (stored word : ℕ) where
  -- of no word that is loaded
  none_loaded : (step : Step) → operation_of step ≡ Store stored → TellsWord heap number seat step word
  none_loaded steps.PollLoad stores = absurd (cc stores)
  none_loaded (steps.Access (WalkLoad fragment)) stores = absurd (cc stores)
  none_loaded (steps.Spine (BudgetAdd words)) stores = absurd (cc stores)
  none_loaded (steps.Turning (LookLoad other)) stores = absurd (cc stores)
  none_loaded step stores = tt

  -- and at no point of a call on an object
  no_access : (point : Access) → operation_of (access_move heap number seat point).step ≡ Store stored → ⊥
  no_access LoadingMeta stores = cc stores
  no_access _ stores = cc stores

  module _ (step : Step) (stores : operation_of step ≡ Store stored) where
    nowhere : (P : Access → Type 0) (point : Point) → option_map (λ (m : Move). m.step) (move_at heap number seat point) ≡ Some step → WhileAccess P point
    nowhere P (points.Access point) due = let same : (access_move heap number seat point).step ≡ step = cc due in absurd (no_access point (ap operation_of same ∙ stores))
    nowhere P point due = tt

    pub store_tells_found : due_step heap number seat ≡ Some step → TellsFound heap number seat word
    store_tells_found due = record {
      word = rw due (none_loaded step stores);
      reached = nowhere _ seat.point due;
    }
