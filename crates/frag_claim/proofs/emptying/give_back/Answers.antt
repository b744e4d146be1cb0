use Rattle.std.proofs.Common.{◌≡◌, [], sym, ap, ◌∙◌}
use Rattle.heap_table.specs.Made.{Made, MakesSteps}
use Rattle.heap_table.specs.SeatHeld.{SeatHeld}
use Rattle.frag_claim.proofs.GivesBack.{give_back_makes_step, step_leaves_no_reserve, nothing_due_no_reserve, gives_back_whole_reserve}
use Rattle.frag_claim.proofs.emptying.give_back.Goals as goal
use Rattle.frag_claim.proofs.emptying.give_back.Goals.{in-Some, in_default}
use Rattle.std.proofs.Common.{subst}

pub returns-clause-steps : goal.returns-clause-steps
returns-clause-steps g c = elim c.match-due_of_emptying.branch [
  | in-Some w ↦ subst (λ (h : SeatHeld). (made : Rattle.std.proofs.Common.List Made) × MakesSteps c.args.holder.now h made) (sym w.holder-is)
      (give_back_makes_step c.step_laws.ensures.one c.args.holder.now w.step.new.self w.in-Some.step w.step.result (sym c.due_of_emptying.ensures.due ∙ w.in-Some.is) w.step.ensures.stepped w.step.ensures.told)
  | in_default w ↦ subst (λ (h : SeatHeld). (made : Rattle.std.proofs.Common.List Made) × MakesSteps c.args.holder.now h made) (sym w.holder-is) ([], c.step_laws.ensures.none c.args.holder.now)
]

pub returns-clause-given : goal.returns-clause-given
returns-clause-given g c =
    let empty : c.match-due_of_emptying.holder.seat.reserve ≡ [] = elim c.match-due_of_emptying.branch [
      | in-Some w ↦ ap (λ (h : SeatHeld). h.seat.reserve) w.holder-is
          ∙ step_leaves_no_reserve c.args.holder.now w.step.new.self w.in-Some.step w.step.result (sym c.due_of_emptying.ensures.due ∙ w.in-Some.is) w.step.ensures.stepped
      | in_default w ↦ ap (λ (h : SeatHeld). h.seat.reserve) w.holder-is
          ∙ nothing_due_no_reserve c.args.holder.now c.args.reserve.now.fragments.items c.requires.begins (sym c.due_of_emptying.ensures.due ∙ w.in_default.is)
    ] in
    gives_back_whole_reserve c.args.holder.now c.match-due_of_emptying.holder c.args.reserve.now.fragments.items c.requires.begins empty
