use Rattle.std.proofs.Common.{◌≡◌, ℕ, sym, ap, subst, ◌∙◌}
use Rattle.core_machine.specs.seat.Seat.{Seat}
use Rattle.object_chain.specs.FieldPlace.{IsPlaceOfField}
use Rattle.array_spine.proofs.Cells.{located_steps_name_fragment, reached_part_is_cells, seat_is_at_cell, reached_place_is_cells}
use Rattle.array_spine.proofs.locating.cell_at.Goals as goal

pub returns-clause-steps : goal.returns-clause-steps
returns-clause-steps g c =
    located_steps_name_fragment c.args.holder.now c.step.new.self c.step-2.new.self c.args.sentinel c.args.index c.step.result c.step-2.result c.requires.begins c.step.ensures.stepped c.step.ensures.told
    c.step-2.ensures.stepped c.step-2.ensures.told c.step_laws.ensures.one c.step_laws.ensures.joined c.reached.result (c.reached.ensures ∙ ap (λ (s : Seat). s.reached) c.party-party.ensures.seat)

pub returns-clause-field : goal.returns-clause-field
returns-clause-field g c =
    let reached : c.step-2.new.self.seat.reached ≡ c.reached.result = sym (c.reached.ensures ∙ ap (λ (s : Seat). s.reached) c.party-party.ensures.seat) in
    let part : c.step-2.new.self.seat.part ≡ c.part.result = sym (c.part.ensures ∙ ap (λ (s : Seat). s.part) c.party-party.ensures.seat) in
    let place = reached_place_is_cells c.args.holder.now c.step.new.self c.step-2.new.self c.args.sentinel c.args.index c.step.result c.step-2.result c.requires.begins c.step.ensures.stepped c.step.ensures.told
    c.step-2.ensures.stepped c.step-2.ensures.told c.step_laws.ensures.reached in
    subst (λ (n : ℕ). IsPlaceOfField c.step-2.new.self c.args.sentinel c.args.index n c.part.result) reached
    (subst (IsPlaceOfField c.step-2.new.self c.args.sentinel c.args.index c.step-2.new.self.seat.reached) part place)

pub returns-clause-past : goal.returns-clause-past
returns-clause-past g c =
    seat_is_at_cell c.args.holder.now c.step.new.self c.step-2.new.self c.args.sentinel c.args.index c.step.result c.step-2.result c.requires.begins c.step.ensures.stepped c.step.ensures.told
    c.step-2.ensures.stepped c.step-2.ensures.told

pub returns-clause-part : goal.returns-clause-part
returns-clause-part g c =
    c.part.ensures ∙ ap (λ (s : Seat). s.part) c.party-party.ensures.seat
    ∙ reached_part_is_cells c.args.holder.now c.step.new.self c.step-2.new.self c.args.sentinel c.args.index c.step.result c.step-2.result c.requires.begins c.step.ensures.stepped c.step.ensures.told
    c.step-2.ensures.stepped c.step-2.ensures.told
