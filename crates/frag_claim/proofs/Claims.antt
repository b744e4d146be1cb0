-- The two loops of a gather: claims, and give backs of what was claimed.
use Rattle.std.proofs.Common.{◌≡◌, ℕ, ◌+◌, ◌*◌, ◌<◌, ◌≤◌, true, false, List, [], ◌∷◌, ◌++◌, length, Option, Some, None, refl, sym, ap, subst, ◌∙◌, arith}
use Rattle.std.proofs.lemmas.List.Filters.{length-filter_both}
use Rattle.heap_model.specs.declared.command.Command.{Command}
use Rattle.heap_model.specs.declared.heap.Heap.{Heap}
use Rattle.core_machine.specs.Moves.{move_at, due_step, seat_after_due, takes_some, give_back_move}
use Rattle.core_machine.specs.declared.point.Making.TheVariants.{Gathering, GivingBack, Refusing, Placing, Storing}
use Rattle.core_machine.specs.declared.point.Point.{Point}
use Rattle.core_machine.specs.declared.point.Point.TheVariants as points
use Rattle.core_machine.specs.declared.step.Step.{Step}
use Rattle.core_machine.specs.seat.Commands.{IsArrayCall}
use Rattle.core_machine.specs.seat.Fits.{FitsPoint}
use Rattle.core_machine.specs.seat.Making.{next_group_of, first_group_of, settled_point, after_gather, gather_next, after_give_back}
use Rattle.core_machine.specs.seat.Seat.{Seat, need, with_entries}
use Rattle.core_machine.specs.table.Fragments.{in_group, out_of_group, inside_group, outside_group, clear_in}
use Rattle.core_machine.specs.calls.Owes.{owes, owes_making, steps_left}
use Rattle.core_machine.proofs.seat_lemmas.Fitting.{goes_on_cases, returning_cases, settled_cases}
use Rattle.heap_table.specs.Made.{Made, MakesSteps, IsSound}
use Rattle.heap_table.specs.SeatHeld.{SeatHeld, IsStepped, StepFinds}
use Rattle.heap_table.specs.StepLaws.{EachMakesNone, OneMoreIsMade, EachStepIsNearer}
use Rattle.heap_table.specs.Told.{ToldAtStep}
use Rattle.frag_claim.specs.Begins.{BeginsGathering}
use Rattle.frag_claim.specs.Due.{due_of_claims, due_of_returns, IsGivingBack, has_its_fragments}
use Rattle.frag_claim.specs.Gathered.{EndsClaiming}

-- the points of claims and those to which they lead
abbrev pub StandsClaiming : Command → Point → Type 0
StandsClaiming command (points.Making Gathering) = Unit {0}
StandsClaiming command (points.Making GivingBack) = Unit {0}
StandsClaiming command (points.Making Refusing) = Unit {0}
StandsClaiming command (points.Making Placing) = IsArrayCall command
StandsClaiming command (points.Making Storing) = IsArrayCall command → ⊥
StandsClaiming command _ = ⊥

-- a seat that has claimed and given back nothing
abbrev HasClaims : Seat → Type 0
HasClaims seat = StandsClaiming seat.command seat.point × (seat.given ≡ 0) × (seat.stored ≡ 0)

-- it goes on so
goes_claiming : (heap : Heap) (seat : Seat) → seat.given ≡ 0 → seat.stored ≡ 0 → HasClaims (gather_next heap seat)
goes_claiming heap seat given stored =
    goes_on_cases HasClaims heap seat
    (λ enough. (settled_cases (λ m. StandsClaiming seat.command (points.Making m)) seat.command (λ an_array. an_array) (λ other. other), given, stored))
    (λ lacks left. (tt, given, stored))
    (λ lacks all. (returning_cases (λ m. StandsClaiming seat.command (points.Making m)) seat.hand (λ none. tt) (λ some. tt), given, stored))

-- where it has claimed nothing it has room
goes_with_room : (heap : Heap) (seat : Seat) → seat.hand ≡ [] → owes (gather_next heap seat) ≤ 2 * need seat + 2
goes_with_room heap seat empty =
    goes_on_cases (λ s. owes s ≤ 2 * need seat + 2) heap seat
    (λ enough. settled_cases (λ m. owes_making (after_gather heap seat) m ≤ 2 * need seat + 2) seat.command (λ an_array. omega arith) (λ other. omega arith))
    (λ lacks left. omega arith)
    (λ lacks all. returning_cases (λ m. owes_making (record seat { point = points.Making m }) m ≤ 2 * need seat + 2) seat.hand (λ none. omega arith)
    (λ some. absurd (omega (arith, some, ap (length {A = ℕ}) empty))))

-- which step is a claim, or a give back of what was claimed
of_claims : (point : Point) (due : Option Step) (step : Step) → due_of_claims point due ≡ Some step → (point ≡ points.Making Gathering) × (due ≡ Some step)
of_claims (points.Making Gathering) due step e = (refl, e)
of_claims _ due step e = cc

of_returns : (point : Point) (due : Option Step) (step : Step) → due_of_returns point due ≡ Some step → (point ≡ points.Making GivingBack) × (due ≡ Some step)
of_returns (points.Making GivingBack) due step e = (refl, e)
of_returns _ due step e = cc

-- while groups are claimed
pub record WhileClaiming (first now : SeatHeld) : Type 0 where
  pub steps : (made : List Made) × MakesSteps first now made
  pub stands : StandsClaiming now.seat.command now.seat.point
  pub none_given : now.seat.given ≡ 0
  pub none_stored : now.seat.stored ≡ 0
  pub room : owes now.seat + 2 ≤ now.spare

pub while_claiming_at_begin : EachMakesNone → (held : SeatHeld) (reserve : List ℕ) (cursor need_ : ℕ) → BeginsGathering held reserve cursor need_ → 2 * need_ + 4 ≤ held.spare → WhileClaiming held held
while_claiming_at_begin none held reserve cursor need_ begins room =
    let start = goes_claiming held.heap begins.before begins.rests.none_given begins.rests.none_stored in
    let has : HasClaims held.seat = subst HasClaims (sym begins.goes_on) start in
    let owed : owes held.seat ≤ 2 * need_ + 2 = subst (λ (s : Seat). owes s ≤ 2 * need_ + 2) (sym begins.goes_on)
    (subst (λ (n : ℕ). owes (gather_next held.heap begins.before) ≤ 2 * n + 2) begins.need_is (goes_with_room held.heap begins.before begins.rests.empty_hand)) in
    record { steps = ([], none held); stands = has.0; none_given = has.1; none_stored = has.2; room = at_most (owes held.seat) need_ held.spare owed room }
  where
    at_most : (owed n spare : ℕ) → owed ≤ 2 * n + 2 → 2 * n + 4 ≤ spare → owed + 2 ≤ spare
    at_most owed n spare a b = omega arith

pub while_claiming_after_step : OneMoreIsMade → EachStepIsNearer → (first now new : SeatHeld) (step : Step) (found : ℕ) → IsSound now → WhileClaiming first now → due_of_claims now.seat.point (due_step now.heap now.number now.seat) ≡ Some step
    → IsStepped now new found → ToldAtStep now.heap now.number now.seat found → WhileClaiming first new × (steps_left new.heap new.seat < steps_left now.heap now.seat)
while_claiming_after_step more nearer first now new step found sound while is stepped told =
    let finds : StepFinds now new found = record { stepped = stepped; told = told } in
    let at = of_claims now.seat.point (due_step now.heap now.number now.seat) step is in
    let near = nearer now new step found sound at.1 finds in
    let group = next_group_of now.heap now.seat in
    let next : Seat = record now.seat { hand = now.seat.hand ++ clear_in group found; tried = now.seat.tried + 1 } in
    let claimed : new.seat ≡ with_entries (gather_next now.heap next) (takes_some now.number (length (clear_in group found))) =
    stepped.seat_is ∙ ap (λ (p : Point). seat_after_due now.seat (move_at now.heap now.number now.seat p) found) at.0 in
    let has : HasClaims new.seat = subst HasClaims (sym claimed) (goes_claiming now.heap next while.none_given while.none_stored) in (
      record {
        steps = (while.steps.0 ++ record { step = step; found = found } ∷ [], more first now new while.steps.0 step found while.steps.1 at.1 finds);
        stands = has.0;
        none_given = has.1;
        none_stored = has.2;
        room = omega (arith, while.room, near.paid, stepped.room_stays);
      },
      near.fewer,
    )

-- once no claim is due
module _ (held : SeatHeld) (sound : IsSound held) (none : due_of_claims held.seat.point (due_step held.heap held.number held.seat) ≡ None) where
  -- at each point
  abbrev EndsAt : Point → Type 0
  EndsAt point = (has_its_fragments point ≡ true → point ≡ points.Making (settled_point held.seat.command)) × (has_its_fragments point ≡ false → IsGivingBack point)
      × (3 ≤ held.spare) × (has_its_fragments point ≡ false → length held.seat.hand + 3 ≤ held.spare)

  settled_of : (command : Command) → IsArrayCall command → settled_point command ≡ Placing
  settled_of command an_array = settled_cases (λ m. m ≡ Placing) command (λ e. refl) (λ other. absurd (other an_array))

  stored_of : (command : Command) → (IsArrayCall command → ⊥) → settled_point command ≡ Storing
  stored_of command other = settled_cases (λ m. m ≡ Storing) command (λ an_array. absurd (other an_array)) (λ e. refl)

  ends_at : (point : Point) → held.seat.point ≡ point → StandsClaiming held.seat.command point → Rattle.core_machine.specs.calls.Owes.owes_at held.seat point + 2 ≤ held.spare → EndsAt point
  ends_at (points.Making Gathering) is stands room =
      absurd (some_due (ap (λ (p : Point). due_of_claims p (due_step held.heap held.number held.seat)) (sym is) ∙ none) (ap (λ (p : Point). Rattle.std.specs.Prelude.option_map (λ (m : Rattle.core_machine.specs.Moves.Move). m.step) (move_at held.heap held.number held.seat p)) is))
    where
      some_due : {step : Step} → due_step held.heap held.number held.seat ≡ None → due_step held.heap held.number held.seat ≡ Some step → ⊥
      some_due a b = cc
  ends_at (points.Making GivingBack) is stands room = (λ e. cc, λ e. tt, omega (arith, room), λ e. omega (arith, room))
  ends_at (points.Making Refusing) is stands room =
      let fits : FitsPoint held.heap held.seat (points.Making Refusing) = subst (FitsPoint held.heap held.seat) is sound.fits.at_point in
      (λ e. cc, λ e. tt, omega (arith, room), λ e. omega (arith, room, ap (length {A = ℕ}) fits.1))
  ends_at (points.Making Placing) is stands room = (λ e. ap points.Making (sym (settled_of held.seat.command stands)), λ e. cc, omega (arith, room), λ e. cc)
  ends_at (points.Making Storing) is stands room = (λ e. ap points.Making (sym (stored_of held.seat.command stands)), λ e. cc, omega (arith, room), λ e. cc)
  ends_at _ is stands room = absurd stands

  pub ends_claiming_when_over : (first : SeatHeld) → WhileClaiming first held → EndsClaiming held
  ends_claiming_when_over first while =
      let ends = ends_at held.seat.point refl while.stands while.room in
      record { settled = ends.0; returning = ends.1; none_given = while.none_given; none_stored = while.none_stored; room = ends.2; room_to_return = ends.3 }

-- while what was claimed is given back
pub record WhileGivingBack (first now : SeatHeld) : Type 0 where
  pub steps : (made : List Made) × MakesSteps first now made
  pub stands : IsGivingBack now.seat.point
  pub all : length now.seat.hand + now.seat.given ≡ length first.seat.hand + first.seat.given
  pub room : owes now.seat + 2 ≤ now.spare

returning_room : (seat : Seat) (point : Point) (spare : ℕ) → seat.point ≡ point → IsGivingBack point → length seat.hand + 3 ≤ spare → owes seat + 2 ≤ spare
returning_room seat (points.Making GivingBack) spare is stands room = subst (λ (p : Point). Rattle.core_machine.specs.calls.Owes.owes_at seat p + 2 ≤ spare) (sym is) (omega (arith, room))
returning_room seat (points.Making Refusing) spare is stands room = subst (λ (p : Point). Rattle.core_machine.specs.calls.Owes.owes_at seat p + 2 ≤ spare) (sym is) (omega (arith, room))
returning_room seat _ spare is stands room = absurd stands

pub while_returning_at_begin : EachMakesNone → (held : SeatHeld) → IsGivingBack held.seat.point → length held.seat.hand + 3 ≤ held.spare → WhileGivingBack held held
while_returning_at_begin none held stands room = record { steps = ([], none held); stands = stands; all = refl; room = returning_room held.seat held.seat.point held.spare refl stands room }

pub while_returning_after_step : OneMoreIsMade → EachStepIsNearer → (first now new : SeatHeld) (step : Step) (found : ℕ) → IsSound now → WhileGivingBack first now → due_of_returns now.seat.point (due_step now.heap now.number now.seat) ≡ Some step
    → IsStepped now new found → ToldAtStep now.heap now.number now.seat found → WhileGivingBack first new × (steps_left new.heap new.seat < steps_left now.heap now.seat)
while_returning_after_step more nearer first now new step found sound while is stepped told =
    let finds : StepFinds now new found = record { stepped = stepped; told = told } in
    let at = of_returns now.seat.point (due_step now.heap now.number now.seat) step is in
    let near = nearer now new step found sound at.1 finds in
    let group = first_group_of now.seat.hand in
    let given : new.seat ≡ with_entries (after_give_back now.seat) ((give_back_move now.number now.seat).adds found) =
    stepped.seat_is ∙ ap (λ (p : Point). seat_after_due now.seat (move_at now.heap now.number now.seat p) found) at.0 in
    let both = length-filter_both (in_group group) (out_of_group group) (λ f. refl) now.seat.hand in
    let stands : IsGivingBack (after_give_back now.seat).point = returning_cases (λ m. IsGivingBack (points.Making m)) (outside_group group now.seat.hand) (λ none. tt) (λ some. tt) in
    let all : length (outside_group group now.seat.hand) + (now.seat.given + length (inside_group group now.seat.hand)) ≡ length first.seat.hand + first.seat.given = omega (arith, both, while.all) in (
      record {
        steps = (while.steps.0 ++ record { step = step; found = found } ∷ [], more first now new while.steps.0 step found while.steps.1 at.1 finds);
        stands = subst (λ (s : Seat). IsGivingBack s.point) (sym given) stands;
        all = subst (λ (s : Seat). length s.hand + s.given ≡ length first.seat.hand + first.seat.given) (sym given) all;
        room = omega (arith, while.room, near.paid, stepped.room_stays);
      },
      near.fewer,
    )

-- once none is due all was given back
pub returned_all_at_end : (first held : SeatHeld) → IsSound held → WhileGivingBack first held → due_of_returns held.seat.point (due_step held.heap held.number held.seat) ≡ None
    → (held.seat.point ≡ points.Making Refusing) × (held.seat.given ≡ length first.seat.hand + first.seat.given) × (3 ≤ held.spare)
returned_all_at_end first held sound while none = ends held.seat.point refl while.stands while.room
  where
    some_due : {step : Step} → due_step held.heap held.number held.seat ≡ None → due_step held.heap held.number held.seat ≡ Some step → ⊥
    some_due a b = cc

    ends : (point : Point) → held.seat.point ≡ point → IsGivingBack point → Rattle.core_machine.specs.calls.Owes.owes_at held.seat point + 2 ≤ held.spare
        → (point ≡ points.Making Refusing) × (held.seat.given ≡ length first.seat.hand + first.seat.given) × (3 ≤ held.spare)
    ends (points.Making GivingBack) is stands room =
        absurd (some_due (ap (λ (p : Point). due_of_returns p (due_step held.heap held.number held.seat)) (sym is) ∙ none) (ap (λ (p : Point). Rattle.std.specs.Prelude.option_map (λ (m : Rattle.core_machine.specs.Moves.Move). m.step) (move_at held.heap held.number held.seat p)) is))
    ends (points.Making Refusing) is stands room =
        let fits : FitsPoint held.heap held.seat (points.Making Refusing) = subst (FitsPoint held.heap held.seat) is sound.fits.at_point in
        (refl, omega (arith, while.all, ap (length {A = ℕ}) fits.1), omega (arith, room))
    ends _ is stands room = absurd stands
