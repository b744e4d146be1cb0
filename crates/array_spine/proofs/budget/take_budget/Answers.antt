use Rattle.std.proofs.Common.{refl, sym, ap, ◌∙◌}
use Rattle.core_machine.specs.seat.Seat.{Seat}
use Rattle.array_spine.specs.Granting.{is_withdrawing}
use Rattle.array_spine.proofs.Grants.{asking_keeps_command, made_steps_are_granted, made_steps_are_turned_down}
use Rattle.array_spine.proofs.budget.take_budget.Goals as goal

pub returns-then-not-is_withdrawing-clause-steps : goal.returns-then-not-is_withdrawing-clause-steps
returns-then-not-is_withdrawing-clause-steps g c =
    let is = ap is_withdrawing (sym (c.point.ensures ∙ ap (λ (s : Seat). s.point) c.party.ensures.seat)) ∙ sym c.is_withdrawing.ensures ∙ c.if-not-is_withdrawing.true in
    made_steps_are_granted c.step_laws.ensures.one c.args.holder.now c.step-used.new.self c.args.words c.step-used.result c.requires.begins c.step-used.ensures.stepped c.step-used.ensures.told is

pub returns-clause-steps : goal.returns-clause-steps
returns-clause-steps g c =
    let is = ap is_withdrawing (sym (c.point.ensures ∙ ap (λ (s : Seat). s.point) c.party.ensures.seat)) ∙ sym c.is_withdrawing.ensures ∙ c.if-not-is_withdrawing.false in
    made_steps_are_turned_down c.step_laws.ensures.one c.args.holder.now c.step-used.new.self c.args.words c.step-used.result c.requires.begins c.step-used.ensures.stepped c.step-used.ensures.told c.step_laws.ensures.joined c.step.new.self c.step.result
    _ is c.step.ensures.stepped c.step.ensures.told c.from.ensures refl

pub returns-then-not-is_withdrawing-clause-command : goal.returns-then-not-is_withdrawing-clause-command
returns-then-not-is_withdrawing-clause-command g c =
    asking_keeps_command c.step_laws.ensures.one c.args.holder.now c.step-used.new.self c.args.words c.step-used.result c.requires.begins c.step-used.ensures.stepped c.step-used.ensures.told
