use Rattle.std.proofs.Common.{sym, ◌∙◌}
use Rattle.core_machine.proofs.call_lemmas.CallEnd.{none_due}
use Rattle.object_chain.proofs.Births.{while_bearing_at_begin, while_bearing_after_step, bearing_over_is_idle, bearing_adds_one_entry}
use Rattle.object_chain.proofs.Born.{born_words_are_stored, born_record_is_born, born_record_is_held, born_reply_is_told}
use Rattle.object_chain.proofs.MadeObjects.{made_id_by_number}
use Rattle.object_chain.proofs.bearing.bear_record.Goals as goal

pub loop-step-init : goal.loop-step-init
loop-step-init g c = while_bearing_at_begin c.step_laws.ensures.none c.args.holder.now c.args.fragments.now c.args.fields c.args.d c.requires.begins c.requires.room

pub loop-step-preserved : goal.loop-step-preserved
loop-step-preserved g c = (while_bearing_after_step c.step_laws.ensures.more c.step_laws.ensures.nearer _ _ _ _ _ c.due_of_bearing.ensures.sound c.loop-step.invariant (sym c.due_of_bearing.ensures.due ∙ c.in-Some.is) c.step.ensures.stepped c.step.ensures.told).0

pub loop-step-smaller : goal.loop-step-smaller
loop-step-smaller g c = (while_bearing_after_step c.step_laws.ensures.more c.step_laws.ensures.nearer _ _ _ _ _ c.due_of_bearing.ensures.sound c.loop-step.invariant (sym c.due_of_bearing.ensures.due ∙ c.in-Some.is) c.step.ensures.stepped c.step.ensures.told).1

pub returns-clause-stored : goal.returns-clause-stored
returns-clause-stored g c = λ made makes. born_words_are_stored c.step_laws.ensures.along made c.args.holder.now c.loop-step.holder c.args.fragments.now c.args.fields c.args.d c.requires.begins c.party.ensures.sound makes
    (bearing_over_is_idle c.args.holder.now c.loop-step.holder c.loop-step.invariant (sym c.due_of_bearing.ensures.due ∙ none_due c.due_of_bearing.result c.in_default.not-Some))

pub returns-clause-born : goal.returns-clause-born
returns-clause-born g c = λ made makes. born_record_is_born c.step_laws.ensures.along made c.args.holder.now c.loop-step.holder c.args.fragments.now c.args.fields c.args.d c.requires.begins c.party.ensures.sound makes
    (bearing_over_is_idle c.args.holder.now c.loop-step.holder c.loop-step.invariant (sym c.due_of_bearing.ensures.due ∙ none_due c.due_of_bearing.result c.in_default.not-Some))

pub returns-clause-newborn : goal.returns-clause-newborn
returns-clause-newborn g c = born_record_is_held c.step_laws.ensures.along c.loop-step.invariant.steps.0 c.args.holder.now c.loop-step.holder c.args.fragments.now c.args.fields c.args.d c.requires.begins c.party.ensures.sound c.loop-step.invariant.steps.1
    (bearing_over_is_idle c.args.holder.now c.loop-step.holder c.loop-step.invariant (sym c.due_of_bearing.ensures.due ∙ none_due c.due_of_bearing.result c.in_default.not-Some))
    _ (made_id_by_number _ _ _ _ c.number.ensures c.made.ensures) c.loop-step.invariant.reserve_stays

pub returns-clause-told : goal.returns-clause-told
returns-clause-told g c = born_reply_is_told c.step_laws.ensures.along c.loop-step.invariant.steps.0 c.args.holder.now c.loop-step.holder c.args.fragments.now c.args.fields c.args.d c.requires.begins c.party.ensures.sound c.loop-step.invariant.steps.1
    (bearing_over_is_idle c.args.holder.now c.loop-step.holder c.loop-step.invariant (sym c.due_of_bearing.ensures.due ∙ none_due c.due_of_bearing.result c.in_default.not-Some))
    _ (made_id_by_number _ _ _ _ c.number.ensures c.made.ensures) (bearing_adds_one_entry c.args.holder.now c.loop-step.holder c.loop-step.invariant)
