use Rattle.std.proofs.Common.{ℕ, sym, ap, ◌∙◌}
use Rattle.core_machine.specs.seat.Registers.{register_head, register_in}
use Rattle.heap_table.specs.Ahead.{seat_in}
use Rattle.heap_table.proofs.Shades.{old_is_due, old_is_small, old_shade_is_due, old_is_shaded, new_shade_is_due, new_is_shaded}
use Rattle.heap_table.proofs.Ways.{leads_join, step_leads}
use Rattle.heap_table.proofs.guards.shade_both.Goals as goal

pub step_next-old-requires-clause-due : goal.step_next-old-requires-clause-due
step_next-old-requires-clause-due g c = old_is_due c.args.heap.now c.args.number c.args.party.now.seat c.args.command.now c.args.place.fragment c.args.place.part (seat_in c.args.token.now.me) c.requires.at

pub referred-requires : goal.referred-requires
referred-requires g c =
    old_is_small c.args.heap.now c.args.number c.args.party.now.seat c.args.command.now c.args.place.fragment c.args.place.part (seat_in c.args.token.now.me) c.requires.at
    c.step_next-old.result (seat_in c.step_next-old.new.token.me) c.step_next-old.ensures.seat c.requires.keeps.limits c.step_next-old.ensures.keeps.fits

pub shade_if-requires-clause-due : goal.shade_if-requires-clause-due
shade_if-requires-clause-due g c =
    old_shade_is_due c.args.heap.now c.args.number c.args.party.now.seat c.args.command.now c.args.place.fragment c.args.place.part (seat_in c.args.token.now.me) c.requires.at
    c.step_next-old.result (seat_in c.step_next-old.new.token.me) c.step_next-old.ensures.seat c.referred.result c.referred.ensures

pub shade_if-requires-2-clause-due : goal.shade_if-requires-2-clause-due
shade_if-requires-2-clause-due g c =
    let seat = c.args.party.now.seat in
    let call = c.args.command.now in
    let old = c.step_next-old.result in
    let second = seat_in c.step_next-old.new.token.me in
    let third = seat_in c.shade_if.new.token.me in
    let at = old_is_shaded c.args.heap.now c.args.number seat call c.args.place.fragment c.args.place.part (seat_in c.args.token.now.me) c.requires.at old second c.step_next-old.ensures.seat c.referred.result c.referred.ensures third c.shade_if.ensures.shaded in
    let is = c.head-new.ensures ∙ ap register_head c.register.ensures ∙ ap (λ (n : ℕ). register_head (register_in seat.registers n)) (sym c.requires.source) in
    new_shade_is_due c.args.heap.now c.args.number seat call c.args.place.fragment c.args.place.part c.requires.at.address old third at c.head-new.result is

pub returns-clause-at : goal.returns-clause-at
returns-clause-at g c =
    let seat = c.args.party.now.seat in
    let call = c.args.command.now in
    let old = c.step_next-old.result in
    let second = seat_in c.step_next-old.new.token.me in
    let third = seat_in c.shade_if.new.token.me in
    let at = old_is_shaded c.args.heap.now c.args.number seat call c.args.place.fragment c.args.place.part (seat_in c.args.token.now.me) c.requires.at old second c.step_next-old.ensures.seat c.referred.result c.referred.ensures third c.shade_if.ensures.shaded in
    let is = c.head-new.ensures ∙ ap register_head c.register.ensures ∙ ap (λ (n : ℕ). register_head (register_in seat.registers n)) (sym c.requires.source) in (
      old,
      record {
        address = c.requires.at.address;
        at = new_is_shaded c.args.heap.now c.args.number seat call c.args.place.fragment c.args.place.part c.requires.at.address old third at c.head-new.result is (seat_in c.shade_if-2.new.token.me) c.shade_if-2.ensures.shaded;
      },
    )

pub returns-clause-leads : goal.returns-clause-leads
returns-clause-leads g c =
    let heap = c.args.heap.now in
    let number = c.args.number in
    let first = seat_in c.args.token.now.me in
    let second = seat_in c.step_next-old.new.token.me in
    let third = seat_in c.shade_if.new.token.me in
    let last = seat_in c.shade_if-2.new.token.me in
    leads_join heap number first second last
    (step_leads heap number first second _ c.step_next-old.result (old_is_due heap number c.args.party.now.seat c.args.command.now c.args.place.fragment c.args.place.part first c.requires.at) c.step_next-old.ensures.told c.step_next-old.ensures.seat)
    (leads_join heap number second third last c.shade_if.ensures.leads c.shade_if-2.ensures.leads)
