use Rattle.std.proofs.Common.{sym, ◌∙◌}
use Rattle.core_machine.proofs.call_lemmas.CallEnd.{none_due}
use Rattle.object_chain.proofs.MadeObjects.{made_id_by_number}
use Rattle.array_spine.proofs.Arrays.{while_placing_at_begin, while_placing_after_step, placing_over_is_idle, placing_adds_one_entry}
use Rattle.array_spine.proofs.Placed.{placed_words_are_stored, placed_fragments_are_born, placed_array_is_held, placed_reply_is_told}
use Rattle.array_spine.proofs.bearing.bear_array.Goals as goal

pub loop-step-init : goal.loop-step-init
loop-step-init g c = while_placing_at_begin c.step_laws.ensures.none c.args.holder.now c.args.fragments.now c.args.cells c.args.budget.words c.args.d c.requires.begins c.party.ensures.sound c.requires.room

pub loop-step-preserved : goal.loop-step-preserved
loop-step-preserved g c = (while_placing_after_step c.step_laws.ensures.one c.step_laws.ensures.joined c.step_laws.ensures.nearer c.step_laws.ensures.sound _ _ _ _ _ c.loop-step.invariant (sym c.due.ensures ∙ c.in-Some.is) c.step.ensures.stepped c.step.ensures.told).0

pub loop-step-smaller : goal.loop-step-smaller
loop-step-smaller g c = (while_placing_after_step c.step_laws.ensures.one c.step_laws.ensures.joined c.step_laws.ensures.nearer c.step_laws.ensures.sound _ _ _ _ _ c.loop-step.invariant (sym c.due.ensures ∙ c.in-Some.is) c.step.ensures.stepped c.step.ensures.told).1

pub returns-clause-stored : goal.returns-clause-stored
returns-clause-stored g c = λ made makes. placed_words_are_stored c.step_laws.ensures.along made c.args.holder.now c.loop-step.holder c.args.fragments.now c.args.cells c.args.budget.words c.args.d c.requires.begins c.party.ensures.sound makes
    (placing_over_is_idle c.loop-step.holder (sym c.due.ensures ∙ none_due c.due.result c.in_default.not-Some)) c.loop-step.invariant.reserve_stays

pub returns-clause-born : goal.returns-clause-born
returns-clause-born g c = λ made makes. placed_fragments_are_born c.step_laws.ensures.along made c.args.holder.now c.loop-step.holder c.args.fragments.now c.args.cells c.args.budget.words c.args.d c.requires.begins c.party.ensures.sound makes
    (placing_over_is_idle c.loop-step.holder (sym c.due.ensures ∙ none_due c.due.result c.in_default.not-Some)) c.loop-step.invariant.reserve_stays

pub returns-clause-newborn : goal.returns-clause-newborn
returns-clause-newborn g c = placed_array_is_held c.step_laws.ensures.along c.loop-step.invariant.steps.0 c.args.holder.now c.loop-step.holder c.args.fragments.now c.args.cells c.args.budget.words c.args.d c.requires.begins c.party.ensures.sound
    c.loop-step.invariant.steps.1 (placing_over_is_idle c.loop-step.holder (sym c.due.ensures ∙ none_due c.due.result c.in_default.not-Some)) c.loop-step.invariant.reserve_stays
    _ (made_id_by_number _ _ _ _ c.number.ensures c.made.ensures)

pub returns-clause-told : goal.returns-clause-told
returns-clause-told g c = placed_reply_is_told c.step_laws.ensures.along c.loop-step.invariant.steps.0 c.args.holder.now c.loop-step.holder c.args.fragments.now c.args.cells c.args.budget.words c.args.d c.requires.begins c.party.ensures.sound
    c.loop-step.invariant.steps.1 (placing_over_is_idle c.loop-step.holder (sym c.due.ensures ∙ none_due c.due.result c.in_default.not-Some)) c.loop-step.invariant.reserve_stays
    _ (made_id_by_number _ _ _ _ c.number.ensures c.made.ensures) (placing_adds_one_entry c.args.holder.now c.loop-step.holder c.loop-step.invariant)
