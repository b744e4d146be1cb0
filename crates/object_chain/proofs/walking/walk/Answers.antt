use Rattle.std.proofs.Common.{◌≡◌, ℕ, sym, ap, subst, ◌∙◌}
use Rattle.core_machine.specs.calls.Reaching.{LeadsTo}
use Rattle.core_machine.specs.seat.Access.{row_of}
use Rattle.core_machine.specs.seat.Seat.{Seat}
use Rattle.object_chain.specs.FieldPlace.{IsPlaceOfField}
use Rattle.object_chain.specs.Walking.{HasFound}
use Rattle.core_machine.proofs.call_lemmas.CallEnd.{none_due}
use Rattle.object_chain.proofs.Links.{while_walking_at_begin, while_walking_after_step, walk_leads_to_field, walked_place_is_fields, walk_leaves_room}
use Rattle.object_chain.proofs.walking.walk.Goals as goal

pub loop-step-init : goal.loop-step-init
loop-step-init g c = while_walking_at_begin c.step_laws.ensures.none c.args.holder.now c.args.head c.args.meta c.args.field c.requires.begins c.requires.room

pub loop-step-preserved : goal.loop-step-preserved
loop-step-preserved g c =
    (while_walking_after_step c.step_laws.ensures.more c.step_laws.ensures.nearer c.step_laws.ensures.reached c.args.head c.args.meta c.args.field c.args.holder.now c.loop-step.holder c.step.new.self c.in-Some.step c.step.result c.due_of_walk.ensures.sound c.loop-step.invariant
    (sym c.due_of_walk.ensures.due ∙ c.in-Some.is) c.step.ensures.stepped c.step.ensures.told).0

pub loop-step-smaller : goal.loop-step-smaller
loop-step-smaller g c =
    (while_walking_after_step c.step_laws.ensures.more c.step_laws.ensures.nearer c.step_laws.ensures.reached c.args.head c.args.meta c.args.field c.args.holder.now c.loop-step.holder c.step.new.self c.in-Some.step c.step.result c.due_of_walk.ensures.sound c.loop-step.invariant
    (sym c.due_of_walk.ensures.due ∙ c.in-Some.is) c.step.ensures.stepped c.step.ensures.told).1

pub returns-clause-past : goal.returns-clause-past
returns-clause-past g c =
    (walk_leads_to_field c.args.head c.args.meta c.args.field c.args.holder.now c.loop-step.holder c.loop-step.invariant (sym c.due_of_walk.ensures.due ∙ none_due c.due_of_walk.result c.in_default.not-Some)).1

pub returns-clause-room : goal.returns-clause-room
returns-clause-room g c =
    walk_leaves_room c.args.head c.args.meta c.args.field c.args.holder.now c.loop-step.holder c.loop-step.invariant (sym c.due_of_walk.ensures.due ∙ none_due c.due_of_walk.result c.in_default.not-Some)

pub returns-clause-steps : goal.returns-clause-steps
returns-clause-steps g c =
    let ends = walk_leads_to_field c.args.head c.args.meta c.args.field c.args.holder.now c.loop-step.holder c.loop-step.invariant (sym c.due_of_walk.ensures.due ∙ none_due c.due_of_walk.result c.in_default.not-Some) in
    let is : c.loop-step.holder.seat.reached ≡ c.reached.result = sym (c.reached.ensures ∙ ap (λ (s : Seat). s.reached) c.party-party.ensures.seat) in
    (c.loop-step.invariant.made, c.loop-step.invariant.makes, subst (LeadsTo (HasFound c.loop-step.invariant.made c.args.head c.args.meta) (row_of c.args.field) c.args.head) is ends.0)

pub returns-clause-part : goal.returns-clause-part
returns-clause-part g c = c.part.ensures ∙ ap (λ (s : Seat). s.part) c.party-party.ensures.seat ∙ c.loop-step.invariant.part_is

pub returns-clause-reached : goal.returns-clause-reached
returns-clause-reached g c = (
  sym (c.reached.ensures ∙ ap (λ (s : Seat). s.reached) c.party-party.ensures.seat),
  sym (c.part.ensures ∙ ap (λ (s : Seat). s.part) c.party-party.ensures.seat),
)

pub returns-clause-field : goal.returns-clause-field
returns-clause-field g c =
    let place = walked_place_is_fields c.args.head c.args.meta c.args.field c.args.holder.now c.loop-step.holder c.loop-step.invariant (sym c.due_of_walk.ensures.due ∙ none_due c.due_of_walk.result c.in_default.not-Some) in
    let held = c.loop-step.holder in
    subst (λ (part : ℕ). IsPlaceOfField held c.args.head c.args.field c.reached.result part) (sym (c.part.ensures ∙ ap (λ (s : Seat). s.part) c.party-party.ensures.seat))
    (subst (λ (fragment : ℕ). IsPlaceOfField held c.args.head c.args.field fragment held.seat.part) (sym (c.reached.ensures ∙ ap (λ (s : Seat). s.reached) c.party-party.ensures.seat)) place)
