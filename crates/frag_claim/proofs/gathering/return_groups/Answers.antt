use Rattle.std.proofs.Common.{sym, ◌∙◌}
use Rattle.core_machine.proofs.call_lemmas.CallEnd.{none_due}
use Rattle.frag_claim.proofs.Claims.{while_returning_at_begin, while_returning_after_step, returned_all_at_end}
use Rattle.frag_claim.proofs.gathering.return_groups.Goals as goal

pub loop-step-init : goal.loop-step-init
loop-step-init g c = while_returning_at_begin c.step_laws.ensures.none c.args.holder.now c.requires.returning c.requires.room

pub loop-step-preserved : goal.loop-step-preserved
loop-step-preserved g c = (while_returning_after_step c.step_laws.ensures.more c.step_laws.ensures.nearer _ _ _ _ _ c.due_of_returns.ensures.sound c.loop-step.invariant (sym c.due_of_returns.ensures.due ∙ c.in-Some.is) c.step.ensures.stepped c.step.ensures.told).0

pub loop-step-smaller : goal.loop-step-smaller
loop-step-smaller g c = (while_returning_after_step c.step_laws.ensures.more c.step_laws.ensures.nearer _ _ _ _ _ c.due_of_returns.ensures.sound c.loop-step.invariant (sym c.due_of_returns.ensures.due ∙ c.in-Some.is) c.step.ensures.stepped c.step.ensures.told).1

pub returns-clause-point : goal.returns-clause-point
returns-clause-point g c =
    (returned_all_at_end c.args.holder.now c.loop-step.holder c.due_of_returns.ensures.sound c.loop-step.invariant (sym c.due_of_returns.ensures.due ∙ none_due c.due_of_returns.result c.in_default.not-Some)).0

pub returns-clause-all : goal.returns-clause-all
returns-clause-all g c =
    (returned_all_at_end c.args.holder.now c.loop-step.holder c.due_of_returns.ensures.sound c.loop-step.invariant (sym c.due_of_returns.ensures.due ∙ none_due c.due_of_returns.result c.in_default.not-Some)).1

pub returns-clause-room : goal.returns-clause-room
returns-clause-room g c =
    (returned_all_at_end c.args.holder.now c.loop-step.holder c.due_of_returns.ensures.sound c.loop-step.invariant (sym c.due_of_returns.ensures.due ∙ none_due c.due_of_returns.result c.in_default.not-Some)).2
