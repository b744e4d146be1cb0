-- The steps by which spine words are granted, or turned down and taken back.
use Rattle.std.proofs.Common.{◌≡◌, ℕ, ◌+◌, ◌<◌, ◌≤◌, true, false, Bool, List, [], ◌∷◌, Some, refl, sym, ap, subst, ◌∙◌, append-nil, arith}
use Rattle.std.specs.Prelude.{option_map}
use Rattle.heap_model.specs.declared.command.Command.{Command}
use Rattle.heap_model.specs.declared.command.Command.TheVariants as commands
use Rattle.heap_model.specs.declared.entry.Entry.{Entry}
use Rattle.heap_model.specs.declared.heap.Heap.{Heap}
use Rattle.core_machine.specs.Moves.{Move, move_at, due_step, seat_after_due, refusal_step}
use Rattle.core_machine.specs.calls.Claims.{IsGranted}
use Rattle.core_machine.specs.calls.Kept.{WasMade}
use Rattle.core_machine.specs.declared.point.Making.TheVariants.{Withdrawing}
use Rattle.core_machine.specs.declared.point.Point.{Point}
use Rattle.core_machine.specs.declared.point.Point.TheVariants as points
use Rattle.core_machine.specs.declared.step.SpineStep.TheVariants.{BudgetAdd, BudgetTakeBack}
use Rattle.core_machine.specs.declared.step.Step.{Step}
use Rattle.core_machine.specs.declared.step.Step.TheVariants.{Spine}
use Rattle.core_machine.specs.seat.Commands.{IsArrayCall}
use Rattle.core_machine.specs.seat.Making.{gather_next, after_budget}
use Rattle.core_machine.specs.seat.Seat.{Seat, spine_need, with_entries}
use Rattle.core_machine.proofs.seat_lemmas.Fitting.{budget_cases, goes_on_cases, settled_cases, returning_cases}
use Rattle.core_machine.proofs.own_stages.Gather.{going_on_keeps_command}
use Rattle.heap_table.specs.Made.{Made, FoundIn, MakesSteps}
use Rattle.heap_table.specs.SeatHeld.{SeatHeld, IsStepped}
use Rattle.heap_table.specs.Told.{ToldAtStep}
use Rattle.heap_table.specs.StepLaws.{EachStepIsMade, StepsJoin}
use Rattle.array_spine.specs.Granting.{BeginsGranting, BeginsDropping, IsTurnedDown, is_withdrawing}
use Rattle.array_spine.specs.declared.budget.SpineFull.{SpineFull}

no_entries : (seat : Seat) → with_entries seat [] ≡ seat
no_entries seat = ap (λ (mine : List Entry). record seat { mine = mine }) (append-nil seat.mine)

-- a seat that gathers takes nothing back
gathers_on : (heap : Heap) (seat : Seat) → is_withdrawing (gather_next heap seat).point ≡ false
gathers_on heap seat =
    goes_on_cases (λ s. is_withdrawing s.point ≡ false) heap seat
    (λ enough. settled_cases (λ m. is_withdrawing (points.Making m) ≡ false) seat.command (λ an_array. refl) (λ other. refl))
    (λ lacks left. refl)
    (λ lacks all. returning_cases (λ m. is_withdrawing (points.Making m) ≡ false) seat.hand (λ none. refl) (λ some. refl))

differ : true ≡ false → ⊥
differ e = cc

-- the seat that has asked for too many words
abbrev asked_for_too_many : Seat → ℕ → Seat
asked_for_too_many seat found = record seat { used = found; point = points.Making Withdrawing }

module _ (one : EachStepIsMade) (old mid : SeatHeld) (words found : ℕ) (begins : BeginsGranting old words) (stepped : IsStepped old mid found) (told : ToldAtStep old.heap old.number old.seat found) where
  abbrev asks : Made
  asks = record { step = Spine (BudgetAdd words); found = found }

  -- the words are asked for
  add_due : due_step old.heap old.number old.seat ≡ Some (Spine (BudgetAdd words))
  add_due =
      ap (λ (p : Point). option_map (λ (m : Move). m.step) (move_at old.heap old.number old.seat p)) begins.point_is
      ∙ ap (λ (n : ℕ). Some (Spine (BudgetAdd n))) begins.words_are

  asked : mid.seat ≡ after_budget old.heap old.seat found
  asked =
      stepped.seat_is ∙ ap (λ (p : Point). seat_after_due old.seat (move_at old.heap old.number old.seat p) found) begins.point_is
      ∙ no_entries (after_budget old.heap old.seat found)

  makes_asked : MakesSteps old mid (asks ∷ [])
  makes_asked = one old mid (Spine (BudgetAdd words)) found add_due (record { stepped = stepped; told = told })

  withdraws : (b : Bool) → is_withdrawing mid.seat.point ≡ b → is_withdrawing (after_budget old.heap old.seat found).point ≡ b
  withdraws b is = ap (λ (s : Seat). is_withdrawing s.point) (sym asked) ∙ is

  -- where nothing is to be taken back they were granted
  pub made_steps_are_granted : is_withdrawing mid.seat.point ≡ false → (made : List Made) × MakesSteps old mid made × IsGranted (FoundIn made) old.heap old.seat.command
  made_steps_are_granted is = (
    asks ∷ [],
    makes_asked,
    record {
      word = found;
      told = subst (λ (n : ℕ). FoundIn (asks ∷ []) (Spine (BudgetAdd n)) found) (sym begins.words_are) (0, omega arith, refl);
      enough = budget_cases (λ s. is_withdrawing s.point ≡ false → found + spine_need old.seat ≤ old.heap.spine) old.heap old.seat found (λ lacks e. absurd (differ e)) (λ grants e. grants) (withdraws false is);
    },
  )

  -- whichever it is, its command stays
  pub asking_keeps_command : mid.seat.command ≡ old.seat.command
  asking_keeps_command =
      ap (λ (s : Seat). s.command) asked ∙ budget_cases (λ s. s.command ≡ old.seat.command) old.heap old.seat found (λ lacks. refl) (λ grants. going_on_keeps_command old.heap old.seat)

  -- else they are too many, and are taken back
  too_many : is_withdrawing mid.seat.point ≡ true → (old.heap.spine < found + spine_need old.seat) × (after_budget old.heap old.seat found ≡ asked_for_too_many old.seat found)
  too_many is =
      budget_cases (λ s. is_withdrawing s.point ≡ true → (old.heap.spine < found + spine_need old.seat) × (s ≡ asked_for_too_many old.seat found)) old.heap old.seat found (λ lacks e. (lacks, refl))
      (λ grants e. absurd (differ (sym e ∙ gathers_on old.heap old.seat))) (withdraws true is)

  pub made_steps_are_turned_down : StepsJoin → (new : SeatHeld) (found_then : ℕ) (full : SpineFull) → is_withdrawing mid.seat.point ≡ true → IsStepped mid new found_then → ToldAtStep mid.heap mid.number mid.seat found_then
      → full.need ≡ words → full.used ≡ found → (made : List Made) × MakesSteps old new made × IsTurnedDown made old.heap full
  made_steps_are_turned_down joined new found_then full is stepped_then told_then need_is used_is =
      let takes_back : Made = record { step = Spine (BudgetTakeBack words); found = found_then } in
      let many = too_many is in
      let due : due_step mid.heap mid.number mid.seat ≡ Some (Spine (BudgetTakeBack words)) =
      ap (λ (s : Seat). due_step mid.heap mid.number s) (asked ∙ many.1) ∙ ap (λ (n : ℕ). Some (Spine (BudgetTakeBack n))) begins.words_are in
      let made = asks ∷ takes_back ∷ [] in (
        made,
        joined old mid new (asks ∷ []) (takes_back ∷ []) makes_asked (one mid new (Spine (BudgetTakeBack words)) found_then due (record { stepped = stepped_then; told = told_then })),
        record {
          asked = subst (λ (n : ℕ). FoundIn made (Spine (BudgetAdd full.need)) n) (sym used_is)
              (subst (λ (n : ℕ). FoundIn made (Spine (BudgetAdd n)) found) (sym need_is) (0, omega arith, refl));
          too_many = omega (arith, many.0, begins.words_are, need_is, used_is);
          taken_back = subst (λ (n : ℕ). WasMade (FoundIn made) (Spine (BudgetTakeBack n))) (sym need_is)
              (found_then, (1, omega arith, refl));
        },
      )

-- what the refusal for want of fragments takes back, for an array
array_takes_back : (command : Command) (words : ℕ) → IsArrayCall command → refusal_step command words ≡ Spine (BudgetTakeBack words)
array_takes_back (commands.Array d cells) words an_array = refl
array_takes_back _ words an_array = absurd an_array

-- granted words are taken back
pub made_steps_take_back : EachStepIsMade → (old new : SeatHeld) (words found : ℕ) → BeginsDropping old words → IsStepped old new found → ToldAtStep old.heap old.number old.seat found
    → (made : List Made) × MakesSteps old new made × WasMade (FoundIn made) (Spine (BudgetTakeBack words))
made_steps_take_back one old new words found begins stepped told =
    let takes_back : Made = record { step = Spine (BudgetTakeBack words); found = found } in
    let due : due_step old.heap old.number old.seat ≡ Some (Spine (BudgetTakeBack words)) =
    ap (λ (p : Point). option_map (λ (m : Move). m.step) (move_at old.heap old.number old.seat p)) begins.point_is
    ∙ ap (λ (s : Step). Some s) (array_takes_back old.seat.command (spine_need old.seat) begins.an_array)
    ∙ ap (λ (n : ℕ). Some (Spine (BudgetTakeBack n))) begins.words_are in
    (takes_back ∷ [], one old new (Spine (BudgetTakeBack words)) found due (record { stepped = stepped; told = told }), (found, (0, omega arith, refl)))
