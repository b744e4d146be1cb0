-- Giving back a reserve: one step, where there is something to give back.
use Rattle.std.proofs.Common.{◌≡◌, ℕ, ◌<◌, List, [], ◌∷◌, length, Option, Some, None, refl, sym, ap, subst, ◌∙◌, arith}
use Rattle.std.specs.Prelude.{option_map}
use Rattle.core_machine.specs.Moves.{Move, move_at, due_step, seat_after_due}
use Rattle.core_machine.specs.calls.Kept.{WasMade}
use Rattle.core_machine.specs.declared.point.Leaving.TheVariants.{Emptying}
use Rattle.core_machine.specs.declared.point.Point.{Point}
use Rattle.core_machine.specs.declared.point.Point.TheVariants as points
use Rattle.core_machine.specs.declared.step.MakingStep.TheVariants.{GiveBack}
use Rattle.core_machine.specs.declared.step.Step.{Step}
use Rattle.core_machine.specs.declared.step.Step.TheVariants.{Making}
use Rattle.core_machine.specs.seat.Handshake.{leave_point}
use Rattle.core_machine.specs.seat.Seat.{Seat}
use Rattle.core_machine.specs.table.Fragments.{mask_of}
use Rattle.heap_table.specs.Made.{Made, FoundIn, LeadsTo, MakesSteps}
use Rattle.heap_table.specs.SeatHeld.{SeatHeld, IsStepped}
use Rattle.heap_table.specs.Told.{ToldAtStep}
use Rattle.heap_table.specs.StepLaws.{EachStepIsMade}
use Rattle.frag_claim.specs.Begins.{BeginsEmptying}
use Rattle.frag_claim.specs.Due.{due_of_emptying}
use Rattle.frag_claim.specs.Emptied.{GivesBackReserve}

-- which step is such a give back
of_emptying : (point : Point) (due : Option Step) (step : Step) → due_of_emptying point due ≡ Some step → (point ≡ points.Leaving Emptying) × (due ≡ Some step)
of_emptying (points.Leaving Emptying) due step e = (refl, e)
of_emptying _ due step e = cc

-- by the step
pub give_back_makes_step : EachStepIsMade → (old new : SeatHeld) (step : Step) (found : ℕ) → due_of_emptying old.seat.point (due_step old.heap old.number old.seat) ≡ Some step → IsStepped old new found
    → ToldAtStep old.heap old.number old.seat found → (made : List Made) × MakesSteps old new made
give_back_makes_step one old new step found due stepped told =
    (record { step = step; found = found } ∷ [], one old new step found (of_emptying old.seat.point (due_step old.heap old.number old.seat) step due).1 (record { stepped = stepped; told = told }))

-- a seat with a reserve isn't where it would be without one
none_left : (reserve : List ℕ) → 0 < length reserve → leave_point reserve ≡ Emptying
none_left [] some = absurd (omega (arith, some))
none_left (fragment ∷ more) some = refl

-- it leaves no reserve
pub step_leaves_no_reserve : (old new : SeatHeld) (step : Step) (found : ℕ) → due_of_emptying old.seat.point (due_step old.heap old.number old.seat) ≡ Some step → IsStepped old new found → new.seat.reserve ≡ []
step_leaves_no_reserve old new step found due stepped =
    let at = (of_emptying old.seat.point (due_step old.heap old.number old.seat) step due).0 in
    ap (λ (s : Seat). s.reserve) (stepped.seat_is ∙ ap (λ (p : Point). seat_after_due old.seat (move_at old.heap old.number old.seat p) found) at)

-- where it isn't due there is none
pub nothing_due_no_reserve : (old : SeatHeld) (reserve : List ℕ) → BeginsEmptying old reserve → due_of_emptying old.seat.point (due_step old.heap old.number old.seat) ≡ None → old.seat.reserve ≡ []
nothing_due_no_reserve old reserve begins none = by old.seat.reserve refl
  where
    differ : {step : Step} → Some step ≡ None → ⊥
    differ e = cc

    by : (kept : List ℕ) → old.seat.reserve ≡ kept → kept ≡ []
    by [] is = refl
    by (fragment ∷ more) is =
        let point : old.seat.point ≡ points.Leaving Emptying = begins.point_is ∙ ap (λ (l : List ℕ). points.Leaving (leave_point l)) is in
        absurd (differ (sym (ap (λ (p : Point). option_map (λ (v : Move). v.step) (move_at old.heap old.number old.seat p)) point)
        ∙ ap (λ (p : Point). due_of_emptying p (due_step old.heap old.number old.seat)) (sym point) ∙ none))

-- by whatever steps the reserve was given back, one of them gave back just its fragments
pub gives_back_whole_reserve : (old new : SeatHeld) (reserve : List ℕ) → BeginsEmptying old reserve → new.seat.reserve ≡ [] → (made : List Made) → MakesSteps old new made → GivesBackReserve made old.seat.cursor reserve
gives_back_whole_reserve old new reserve begins empty made makes = λ some. by made makes.leads some
  where
    by : (made : List Made) → LeadsTo old.heap old.number old.seat made new.seat → 0 < length reserve → WasMade (FoundIn made) (Making (GiveBack old.seat.cursor (mask_of reserve)))
    by [] leads some = absurd (omega (arith, some, ap (length {A = ℕ}) (sym begins.reserve_is ∙ ap (λ (s : Seat). s.reserve) (sym leads) ∙ empty)))
    by (m ∷ more) leads some =
        let point : old.seat.point ≡ points.Leaving Emptying =
        begins.point_is ∙ ap points.Leaving (none_left old.seat.reserve (omega (arith, some, ap (length {A = ℕ}) begins.reserve_is))) in
        let due : Some (Making (GiveBack old.seat.cursor (mask_of old.seat.reserve))) ≡ Some m.step =
        sym (ap (λ (p : Point). option_map (λ (v : Move). v.step) (move_at old.heap old.number old.seat p)) point) ∙ leads.0 in
        let is : m.step ≡ Making (GiveBack old.seat.cursor (mask_of reserve)) = same_step due ∙ ap (λ (l : List ℕ). Making (GiveBack old.seat.cursor (mask_of l))) begins.reserve_is in
        (m.found, subst (λ (s : Step). FoundIn (m ∷ more) s m.found) is (0, omega arith, refl))
      where
        same_step : {a b : Step} → Some a ≡ Some b → b ≡ a
        same_step e = cc
