-- An array's spine gets its place, and the array is stored and born, step by step.
use Rattle.std.proofs.Common.{◌≡◌, ℕ, ◌+◌, ◌*◌, ◌<◌, ◌≤◌, List, [], ◌∷◌, ◌++◌, length, Some, None, refl, sym, ap, subst, ◌∙◌, inl, inr, arith}
use Rattle.std.proofs.lemmas.Bool.Decides.{eqb_tells}
use Rattle.std.specs.Prelude.{option_map}
use Rattle.heap_model.specs.declared.heap.Heap.{Heap}
use Rattle.core_machine.specs.Moves.{Move, move_at, due_step, seat_after, seat_after_due, is_last_birth, bearing_move}
use Rattle.core_machine.specs.declared.point.Making.TheVariants.{Placing, Listing, Storing, Bearing}
use Rattle.core_machine.specs.declared.point.Point.{Point}
use Rattle.core_machine.specs.declared.point.Point.TheVariants as points
use Rattle.core_machine.specs.declared.step.Step.{Step}
use Rattle.core_machine.specs.seat.Making.{store_point}
use Rattle.core_machine.specs.seat.Seat.{Seat, spine_need}
use Rattle.core_machine.specs.calls.Owes.{owes, owes_at, steps_left}
use Rattle.core_machine.proofs.seat_lemmas.Fitting.{listing_cases}
use Rattle.core_machine.proofs.table_lemmas.Bits.{true_or_false}
use Rattle.heap_table.specs.Made.{Made, MakesSteps, IsSound}
use Rattle.heap_table.specs.SeatHeld.{SeatHeld, IsStepped, StepFinds}
use Rattle.heap_table.specs.StepLaws.{EachMakesNone, EachStepIsMade, StepsJoin, EachStepIsNearer, EachStaysSound}
use Rattle.heap_table.specs.Told.{ToldAtStep}
use Rattle.array_spine.specs.Bearing.{BeginsPlacing}

-- the points from that of the spine's claim on, and that behind them
abbrev pub StandsPlacing : Point → Type 0
StandsPlacing (points.Making Placing) = Unit {0}
StandsPlacing (points.Making Listing) = Unit {0}
StandsPlacing (points.Making Storing) = Unit {0}
StandsPlacing (points.Making Bearing) = Unit {0}
StandsPlacing points.Idle = Unit {0}
StandsPlacing _ = ⊥

-- while the array is placed, stored and born: no more entries are added than were owed
pub record WhilePlacing (first now : SeatHeld) : Type 0 where
  pub steps : (made : List Made) × MakesSteps first now made
  pub sound : IsSound now
  pub stands : StandsPlacing now.seat.point
  pub reserve_stays : now.seat.reserve ≡ first.seat.reserve
  pub paid : owes now.seat + length now.seat.mine ≤ 1 + length first.seat.mine
  pub room : owes now.seat + 2 ≤ now.spare

pub while_placing_at_begin : EachMakesNone → (held : SeatHeld) (fragments : List ℕ) (cells words d : ℕ) → BeginsPlacing held fragments cells words d → IsSound held → 3 ≤ held.spare → WhilePlacing held held
while_placing_at_begin none held fragments cells words d begins sound room =
    let owed : owes held.seat ≡ 1 = ap (owes_at held.seat) begins.point_is in
    record {
      steps = ([], none held);
      sound = sound;
      stands = subst StandsPlacing (sym begins.point_is) tt;
      reserve_stays = refl;
      paid = omega (arith, owed);
      room = omega (arith, owed, room);
    }

-- each of these steps leads to such a point, and leaves the reserve
abbrev StandsOn : Seat → Seat → Type 0
StandsOn seat next = StandsPlacing next.point × (next.reserve ≡ seat.reserve)

stands_on : (heap : Heap) (number : ℕ) (seat : Seat) (found : ℕ) (point : Point) → seat.point ≡ point → StandsPlacing point → StandsOn seat (seat_after_due seat (move_at heap number seat point) found)
stands_on heap number seat found (points.Making Placing) is stands = (tt, refl)
stands_on heap number seat found (points.Making Listing) is stands =
    (listing_cases (λ m. StandsPlacing (points.Making m)) (seat.listed + 1) (spine_need seat) (λ more. tt) (λ all. tt), refl)
stands_on heap number seat found (points.Making Storing) is stands = (
  elim (eqb_tells (seat.stored + 1) (4 * length seat.body)) as (λ _. StandsPlacing (points.Making (store_point (seat.stored + 1) seat.body))) [ inl all ↦ rw all.0 tt | inr left ↦ rw left.0 tt ],
  refl,
)
stands_on heap number seat found (points.Making Bearing) is stands =
    elim (true_or_false (is_last_birth seat)) as (λ _. StandsOn seat (seat_after (bearing_move number seat) found)) [
      | inl last ↦ rw last (tt, refl)
      | inr more ↦ rw more (subst StandsPlacing (sym is) tt, refl)
    ]
stands_on heap number seat found points.Idle is stands = (subst StandsPlacing (sym is) tt, refl)
stands_on heap number seat found _ is stands = absurd stands

pub while_placing_after_step : EachStepIsMade → StepsJoin → EachStepIsNearer → EachStaysSound → (first now new : SeatHeld) (step : Step) (found : ℕ) → WhilePlacing first now → due_step now.heap now.number now.seat ≡ Some step → IsStepped now new found
    → ToldAtStep now.heap now.number now.seat found → WhilePlacing first new × (steps_left new.heap new.seat < steps_left now.heap now.seat)
while_placing_after_step one joined nearer stays first now new step found while due stepped told =
    let finds : StepFinds now new found = record { stepped = stepped; told = told } in
    let last : List Made = record { step = step; found = found } ∷ [] in
    let makes = one now new step found due finds in
    let near = nearer now new step found while.sound due finds in
    let on = subst (λ (s : Seat). StandsOn now.seat s) (sym stepped.seat_is) (stands_on now.heap now.number now.seat found now.seat.point refl while.stands) in (
      record {
        steps = (while.steps.0 ++ last, joined first now new while.steps.0 last while.steps.1 makes);
        sound = stays now new last while.sound makes;
        stands = on.0;
        reserve_stays = on.1 ∙ while.reserve_stays;
        paid = omega (arith, while.paid, near.paid);
        room = omega (arith, while.room, near.paid, stepped.room_stays);
      },
      near.fewer,
    )

-- once no step is due the call is over
pub placing_over_is_idle : (held : SeatHeld) → due_step held.heap held.number held.seat ≡ None → held.seat.point ≡ points.Idle
placing_over_is_idle held none = by held.seat.point none
  where
    by : (point : Point) → option_map (λ (m : Move). m.step) (move_at held.heap held.number held.seat point) ≡ None → point ≡ points.Idle
    by points.Idle none = refl
    by (points.Making point) none = cc
    by points.Local none = cc
    by (points.Access point) none = cc
    by (points.Polling point) none = cc
    by (points.Collecting point) none = cc
    by (points.Leaving point) none = cc

-- and has added one entry at most
pub placing_adds_one_entry : (first held : SeatHeld) → WhilePlacing first held → length held.seat.mine ≤ 1 + length first.seat.mine
placing_adds_one_entry first held while = omega (arith, while.paid)
