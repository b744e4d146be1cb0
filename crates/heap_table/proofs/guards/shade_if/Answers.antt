use Rattle.std.proofs.Common.{◌≡◌, ℕ, Option, Some, subst}
use Rattle.std.specs.Prelude.{IfSome}
use Rattle.core_machine.specs.declared.step.AccessStep.TheVariants.{Shade}
use Rattle.core_machine.specs.declared.step.Step.TheVariants.{Access}
use Rattle.core_machine.specs.Moves.{due_step}
use Rattle.heap_table.specs.Ahead.{seat_in}
use Rattle.heap_table.proofs.Ways.{step_leads}
use Rattle.heap_table.proofs.guards.shade_if.Goals as goal

pub returns-clause-leads : goal.returns-clause-leads
returns-clause-leads c =
    let first = seat_in c.args.token.now.me in
    let due = subst (λ (o : Option ℕ). IfSome o (λ f. due_step c.args.heap.now c.args.number first ≡ Some (Access (Shade f)))) c.in-Some.is c.requires.due in
    step_leads c.args.heap.now c.args.number first (seat_in c.step_next.new.token.me) _ c.step_next.result due c.step_next.ensures.told c.step_next.ensures.seat
