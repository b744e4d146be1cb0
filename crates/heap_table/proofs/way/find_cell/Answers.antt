use Rattle.std.proofs.Common.{ℕ, ◌+◌, ◌/◌, ◌%◌, Some, sym, ap, ◌∙◌}
use Rattle.heap_words.specs.declared.spot.Spot.{Spot}
use Rattle.heap_words.specs.Spot.{spot_in}
use Rattle.core_machine.specs.declared.step.SpineStep.TheVariants.{WordLoad}
use Rattle.core_machine.specs.declared.step.Step.TheVariants.{Spine}
use Rattle.core_machine.specs.seat.Commands.{field_of}
use Rattle.heap_table.specs.Ahead.{seat_in, on_way}
use Rattle.heap_table.proofs.Ways.{leads_join, step_leads, address_is_due, index_is_due, cell_is_small, cell_is_reached}
use Rattle.heap_table.proofs.way.find_cell.Goals as goal

pub step_next-address-requires-clause-due : goal.step_next-address-requires-clause-due
step_next-address-requires-clause-due g c = address_is_due c.args.heap.now c.args.number c.args.party.now.seat c.args.command.now c.args.head (seat_in c.args.token.now.me) c.requires.at

pub step_next-word-requires-clause-due : goal.step_next-word-requires-clause-due
step_next-word-requires-clause-due g c =
    index_is_due c.args.heap.now c.args.number c.args.party.now.seat c.args.command.now c.args.head (seat_in c.args.token.now.me) c.requires.at c.step_next-address.result (seat_in c.step_next-address.new.token.me) c.step_next-address.ensures.seat
    ∙ ap (λ (s : Spot). Some (Spine (WordLoad s.half (s.offset + field_of c.args.command.now / 4)))) (sym c.told-spot.ensures)
    ∙ ap (λ (n : ℕ). Some (Spine (WordLoad c.told-spot.result.half (c.told-spot.result.offset + n / 4)))) c.requires.cell

pub payload-requires : goal.payload-requires
payload-requires g c =
    cell_is_small c.args.heap.now c.args.number c.args.party.now.seat c.args.command.now c.args.head (seat_in c.args.token.now.me) c.requires.at c.step_next-address.result (seat_in c.step_next-address.new.token.me) c.step_next-address.ensures.seat
    c.step_next-word.result c.requires.keeps.limits c.step_next-word.ensures.told

pub returns-clause-at : goal.returns-clause-at
returns-clause-at g c =
    let seat = c.args.party.now.seat in
    let call = c.args.command.now in
    let reached = cell_is_reached c.args.heap.now c.args.number seat call c.args.head (seat_in c.args.token.now.me) c.requires.at c.step_next-address.result (seat_in c.step_next-address.new.token.me) c.step_next-address.ensures.seat c.step_next-word.result in
    let spot : Spot = spot_in c.step_next-address.result in
    (spot, c.step_next-word.ensures.seat ∙ reached ∙ ap (λ (n : ℕ). on_way seat call n 0 (field_of call % 4) spot) (sym c.payload.ensures) ∙ ap (λ (n : ℕ). on_way seat call c.payload.result 0 (n % 4) spot) c.requires.cell)

pub returns-clause-leads : goal.returns-clause-leads
returns-clause-leads g c =
    let heap = c.args.heap.now in
    let number = c.args.number in
    let first = seat_in c.args.token.now.me in
    let second = seat_in c.step_next-address.new.token.me in
    let third = seat_in c.step_next-word.new.token.me in
    leads_join heap number first second third
    (step_leads heap number first second _ c.step_next-address.result (address_is_due heap number c.args.party.now.seat c.args.command.now c.args.head first c.requires.at) c.step_next-address.ensures.told c.step_next-address.ensures.seat)
    (step_leads heap number second third _ c.step_next-word.result
    (index_is_due heap number c.args.party.now.seat c.args.command.now c.args.head first c.requires.at c.step_next-address.result second c.step_next-address.ensures.seat) c.step_next-word.ensures.told c.step_next-word.ensures.seat)
