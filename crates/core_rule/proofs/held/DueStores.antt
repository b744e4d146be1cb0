-- Where a seat stands whose due step stores a newborn word or a spine word.
use Rattle.std.proofs.Common.{◌≡◌, ℕ, ◌+◌, ◌/◌, Option, Some, inl, inr, sym, subst}
use Rattle.std.specs.Prelude.{option_map, slice_index_or}
use Rattle.core_rule.proofs.Terms.{Heap, Listing, Point, move_at, due_step, Seat}
use Rattle.core_machine.specs.declared.point.Making.TheVariants.{Storing}
use Rattle.core_machine.specs.declared.point.Point.TheVariants as points
use Rattle.core_machine.specs.declared.step.MakingStep.TheVariants.{NewbornStore}
use Rattle.core_machine.specs.declared.step.SpineStep.TheVariants.{SpineStore}
use Rattle.core_machine.specs.declared.step.Step.{Step}
use Rattle.core_machine.specs.declared.step.Step.TheVariants as steps
use Rattle.core_rule.proofs.steps.Seats.{step_kind_of_each_point}
use Rattle.core_rule.proofs.steps.StepKinds.{IsStore}

module _ (heap : Heap) (number : ℕ) (seat : Seat) where
  -- the step that is due at a point
  abbrev due_at : Point → Option Step
  due_at point = option_map (λ move. move.step) (move_at heap number seat point)

  -- so a newborn word is stored where a seat stores, and into the fragment whose turn it is
  pub newborn_store_is_due : (fragment part word : ℕ) → due_step heap number seat ≡ Some (steps.Making (NewbornStore fragment part word))
      → (seat.point ≡ points.Making Storing) × (fragment ≡ slice_index_or seat.body (seat.stored / 4) 0)
  newborn_store_is_due fragment part word due = elim ((step_kind_of_each_point seat.point).words.stores heap number seat (subst IsStore (sym due) tt)) [
    | inl storing ↦ (storing, cc (subst (λ point. due_at point ≡ Some (steps.Making (NewbornStore fragment part word))) storing due))
    | inr listing ↦ absurd (cc (subst (λ point. due_at point ≡ Some (steps.Making (NewbornStore fragment part word))) listing due))
  ]

  -- and a spine word where it lists, at the next word's place
  pub listing_store_is_due : (half offset fragment : ℕ) → due_step heap number seat ≡ Some (steps.Spine (SpineStore half offset fragment))
      → (seat.point ≡ points.Making Listing) × (half ≡ seat.spine.half) × (offset ≡ seat.spine.offset + seat.listed)
  listing_store_is_due half offset fragment due = elim ((step_kind_of_each_point seat.point).words.stores heap number seat (subst IsStore (sym due) tt)) [
    | inl storing ↦ absurd (cc (subst (λ point. due_at point ≡ Some (steps.Spine (SpineStore half offset fragment))) storing due))
    | inr listing ↦
        let is : due_at (points.Making Listing) ≡ Some (steps.Spine (SpineStore half offset fragment)) = subst (λ point. due_at point ≡ Some (steps.Spine (SpineStore half offset fragment))) listing due in
        (listing, cc, cc)
  ]
