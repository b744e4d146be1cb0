-- A record is stored and born, step by step.
use Rattle.std.proofs.Common.{◌≡◌, ℕ, ◌+◌, ◌*◌, ◌<◌, ◌≤◌, List, [], ◌∷◌, ◌++◌, length, Option, Some, None, refl, sym, ap, subst, ◌∙◌, inl, inr, arith}
use Rattle.std.proofs.lemmas.Bool.Decides.{eqb_tells}
use Rattle.std.specs.Prelude.{option_map}
use Rattle.heap_model.specs.declared.heap.Heap.{Heap}
use Rattle.core_machine.specs.Moves.{Move, move_at, due_step, seat_after, seat_after_due, is_last_birth, bearing_move}
use Rattle.core_machine.specs.declared.point.Making.TheVariants.{Storing, Bearing}
use Rattle.core_machine.specs.declared.point.Point.{Point}
use Rattle.core_machine.specs.declared.point.Point.TheVariants as points
use Rattle.core_machine.specs.declared.step.Step.{Step}
use Rattle.core_machine.specs.seat.Making.{store_point}
use Rattle.core_machine.specs.seat.Seat.{Seat}
use Rattle.core_machine.specs.calls.Owes.{owes, owes_at, steps_left}
use Rattle.core_machine.proofs.table_lemmas.Bits.{true_or_false}
use Rattle.heap_table.specs.Made.{Made, MakesSteps, IsSound}
use Rattle.heap_table.specs.SeatHeld.{SeatHeld, IsStepped, StepFinds}
use Rattle.heap_table.specs.StepLaws.{EachMakesNone, OneMoreIsMade, EachStepIsNearer}
use Rattle.heap_table.specs.Told.{ToldAtStep}
use Rattle.object_chain.specs.Bearing.{BeginsBearing}
use Rattle.object_chain.specs.Due.{due_of_bearing}

-- the points of stores and births, and that behind them
abbrev pub StandsBearing : Point → Type 0
StandsBearing (points.Making Storing) = Unit {0}
StandsBearing (points.Making Bearing) = Unit {0}
StandsBearing points.Idle = Unit {0}
StandsBearing _ = ⊥

-- while the record is stored and born: no more entries are added than were owed
pub record WhileBearing (first now : SeatHeld) : Type 0 where
  pub steps : (made : List Made) × MakesSteps first now made
  pub stands : StandsBearing now.seat.point
  pub reserve_stays : now.seat.reserve ≡ first.seat.reserve
  pub paid : owes now.seat + length now.seat.mine ≤ 1 + length first.seat.mine
  pub room : owes now.seat + 2 ≤ now.spare

pub while_bearing_at_begin : EachMakesNone → (held : SeatHeld) (fragments : List ℕ) (fields d : ℕ) → BeginsBearing held fragments fields d → 3 ≤ held.spare → WhileBearing held held
while_bearing_at_begin none held fragments fields d begins room =
    let owed : owes held.seat ≡ 1 = ap (owes_at held.seat) begins.point_is in
    record {
      steps = ([], none held);
      stands = subst StandsBearing (sym begins.point_is) tt;
      reserve_stays = refl;
      paid = omega (arith, owed);
      room = omega (arith, owed, room);
    }

of_bearing : (point : Point) (due : Option Step) (step : Step) → due_of_bearing point due ≡ Some step → due ≡ Some step
of_bearing (points.Making Storing) due step e = e
of_bearing (points.Making Bearing) due step e = e
of_bearing _ due step e = cc

-- each of these steps leads to such a point
stands_on : (heap : Heap) (number : ℕ) (seat : Seat) (found : ℕ) (point : Point) (due : Option Step) (step : Step) → seat.point ≡ point → due_of_bearing point due ≡ Some step
    → StandsBearing (seat_after_due seat (move_at heap number seat point) found).point
stands_on heap number seat found (points.Making Storing) due step is e =
    elim (eqb_tells (seat.stored + 1) (4 * length seat.body)) as (λ _. StandsBearing (points.Making (store_point (seat.stored + 1) seat.body))) [ inl all ↦ rw all.0 tt | inr left ↦ rw left.0 tt ]
stands_on heap number seat found (points.Making Bearing) due step is e =
    elim (true_or_false (is_last_birth seat)) as (λ _. StandsBearing (seat_after (bearing_move number seat) found).point) [
      | inl last ↦ rw last tt
      | inr more ↦ rw more (subst StandsBearing (sym is) tt)
    ]
stands_on heap number seat found _ due step is e = cc

keeps_on : (heap : Heap) (number : ℕ) (seat : Seat) (found : ℕ) (point : Point) (due : Option Step) (step : Step) → due_of_bearing point due ≡ Some step
    → (seat_after_due seat (move_at heap number seat point) found).reserve ≡ seat.reserve
keeps_on heap number seat found (points.Making Storing) due step e = refl
keeps_on heap number seat found (points.Making Bearing) due step e =
    elim (true_or_false (is_last_birth seat)) as (λ _. (seat_after (bearing_move number seat) found).reserve ≡ seat.reserve) [ inl last ↦ rw last refl | inr more ↦ rw more refl ]
keeps_on heap number seat found _ due step e = cc

pub while_bearing_after_step : OneMoreIsMade → EachStepIsNearer → (first now new : SeatHeld) (step : Step) (found : ℕ) → IsSound now → WhileBearing first now → due_of_bearing now.seat.point (due_step now.heap now.number now.seat) ≡ Some step
    → IsStepped now new found → ToldAtStep now.heap now.number now.seat found → WhileBearing first new × (steps_left new.heap new.seat < steps_left now.heap now.seat)
while_bearing_after_step more nearer first now new step found sound while is stepped told =
    let finds : StepFinds now new found = record { stepped = stepped; told = told } in
    let due = of_bearing now.seat.point (due_step now.heap now.number now.seat) step is in
    let near = nearer now new step found sound due finds in (
      record {
        steps = (while.steps.0 ++ record { step = step; found = found } ∷ [], more first now new while.steps.0 step found while.steps.1 due finds);
        stands = subst (λ (s : Seat). StandsBearing s.point) (sym stepped.seat_is) (stands_on now.heap now.number now.seat found now.seat.point (due_step now.heap now.number now.seat) step refl is);
        reserve_stays = ap (λ (s : Seat). s.reserve) stepped.seat_is ∙ keeps_on now.heap now.number now.seat found now.seat.point (due_step now.heap now.number now.seat) step is ∙ while.reserve_stays;
        paid = omega (arith, while.paid, near.paid);
        room = omega (arith, while.room, near.paid, stepped.room_stays);
      },
      near.fewer,
    )

-- once none is due the call is over
pub bearing_over_is_idle : (first held : SeatHeld) → WhileBearing first held → due_of_bearing held.seat.point (due_step held.heap held.number held.seat) ≡ None → held.seat.point ≡ points.Idle
bearing_over_is_idle first held while none = over held.seat.point refl while.stands
  where
    some_due : {step : Step} → due_step held.heap held.number held.seat ≡ None → due_step held.heap held.number held.seat ≡ Some step → ⊥
    some_due a b = cc

    is_due : (point : Point) → held.seat.point ≡ point → due_step held.heap held.number held.seat ≡ option_map (λ (m : Move). m.step) (move_at held.heap held.number held.seat point)
    is_due point is = ap (λ (p : Point). option_map (λ (m : Move). m.step) (move_at held.heap held.number held.seat p)) is

    over : (point : Point) → held.seat.point ≡ point → StandsBearing point → point ≡ points.Idle
    over (points.Making Storing) is stands = absurd (some_due (ap (λ (p : Point). due_of_bearing p (due_step held.heap held.number held.seat)) (sym is) ∙ none) (is_due (points.Making Storing) is))
    over (points.Making Bearing) is stands = absurd (some_due (ap (λ (p : Point). due_of_bearing p (due_step held.heap held.number held.seat)) (sym is) ∙ none) (is_due (points.Making Bearing) is))
    over points.Idle is stands = refl
    over _ is stands = absurd stands

-- and has added one entry at most
pub bearing_adds_one_entry : (first held : SeatHeld) → WhileBearing first held → length held.seat.mine ≤ 1 + length first.seat.mine
bearing_adds_one_entry first held while = omega (arith, while.paid)
