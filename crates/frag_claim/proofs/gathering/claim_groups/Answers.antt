use Rattle.std.proofs.Common.{sym, ◌∙◌}
use Rattle.core_machine.proofs.call_lemmas.CallEnd.{none_due}
use Rattle.frag_claim.proofs.Claims.{while_claiming_at_begin, while_claiming_after_step, ends_claiming_when_over}
use Rattle.frag_claim.proofs.gathering.claim_groups.Goals as goal

pub loop-step-init : goal.loop-step-init
loop-step-init g c = while_claiming_at_begin c.step_laws.ensures.none c.args.holder.now c.args.reserve.now.fragments.items c.args.reserve.now.cursor c.args.need c.requires.begins c.requires.room

pub loop-step-preserved : goal.loop-step-preserved
loop-step-preserved g c = (while_claiming_after_step c.step_laws.ensures.more c.step_laws.ensures.nearer _ _ _ _ _ c.due_of_claims.ensures.sound c.loop-step.invariant (sym c.due_of_claims.ensures.due ∙ c.in-Some.is) c.step.ensures.stepped c.step.ensures.told).0

pub loop-step-smaller : goal.loop-step-smaller
loop-step-smaller g c = (while_claiming_after_step c.step_laws.ensures.more c.step_laws.ensures.nearer _ _ _ _ _ c.due_of_claims.ensures.sound c.loop-step.invariant (sym c.due_of_claims.ensures.due ∙ c.in-Some.is) c.step.ensures.stepped c.step.ensures.told).1

pub returns-clause-ends : goal.returns-clause-ends
returns-clause-ends g c =
    ends_claiming_when_over c.loop-step.holder c.due_of_claims.ensures.sound (sym c.due_of_claims.ensures.due ∙ none_due c.due_of_claims.result c.in_default.not-Some) c.args.holder.now c.loop-step.invariant
