use Rattle.std.proofs.Common.{ℕ, sym, ap, ◌∙◌}
use Rattle.core_machine.specs.seat.Registers.{register_head, register_in}
use Rattle.heap_table.specs.Ahead.{seat_in}
use Rattle.heap_table.proofs.Shades.{expected_is_due, expected_is_shaded, offer_is_due, offer_is_shaded}
use Rattle.heap_table.proofs.Ways.{leads_join}
use Rattle.heap_table.proofs.guards.shade_sides.Goals as goal

pub shade_if-requires-clause-due : goal.shade_if-requires-clause-due
shade_if-requires-clause-due g c =
    let seat = c.args.party.now.seat in
    let is = c.head-expected.ensures ∙ ap register_head c.register.ensures ∙ ap (λ (n : ℕ). register_head (register_in seat.registers n)) (sym c.requires.expected) in
    expected_is_due c.args.heap.now c.args.number seat c.args.command.now c.args.place.fragment c.args.place.part c.requires.at.address seat.loaded (seat_in c.args.token.now.me) c.requires.at.at c.head-expected.result is

pub shade_if-requires-2-clause-due : goal.shade_if-requires-2-clause-due
shade_if-requires-2-clause-due g c =
    let seat = c.args.party.now.seat in
    let is = c.head-expected.ensures ∙ ap register_head c.register.ensures ∙ ap (λ (n : ℕ). register_head (register_in seat.registers n)) (sym c.requires.expected) in
    let new = c.head-new.ensures ∙ ap register_head c.register-2.ensures ∙ ap (λ (n : ℕ). register_head (register_in seat.registers n)) (sym c.requires.source) in
    let second = seat_in c.shade_if.new.token.me in
    let at = expected_is_shaded c.args.heap.now c.args.number seat c.args.command.now c.args.place.fragment c.args.place.part c.requires.at.address seat.loaded (seat_in c.args.token.now.me) c.requires.at.at c.head-expected.result is second c.shade_if.ensures.shaded in
    offer_is_due c.args.heap.now c.args.number seat c.args.command.now c.args.place.fragment c.args.place.part c.requires.at.address seat.loaded second at c.head-new.result new

pub returns-clause-at : goal.returns-clause-at
returns-clause-at g c =
    let seat = c.args.party.now.seat in
    let is = c.head-expected.ensures ∙ ap register_head c.register.ensures ∙ ap (λ (n : ℕ). register_head (register_in seat.registers n)) (sym c.requires.expected) in
    let new = c.head-new.ensures ∙ ap register_head c.register-2.ensures ∙ ap (λ (n : ℕ). register_head (register_in seat.registers n)) (sym c.requires.source) in
    let second = seat_in c.shade_if.new.token.me in
    let at = expected_is_shaded c.args.heap.now c.args.number seat c.args.command.now c.args.place.fragment c.args.place.part c.requires.at.address seat.loaded (seat_in c.args.token.now.me) c.requires.at.at c.head-expected.result is second c.shade_if.ensures.shaded in
    record {
      address = c.requires.at.address;
      at = offer_is_shaded c.args.heap.now c.args.number seat c.args.command.now c.args.place.fragment c.args.place.part c.requires.at.address seat.loaded second at c.head-new.result new (seat_in c.shade_if-2.new.token.me) c.shade_if-2.ensures.shaded;
    }

pub returns-clause-leads : goal.returns-clause-leads
returns-clause-leads g c = leads_join c.args.heap.now c.args.number (seat_in c.args.token.now.me) (seat_in c.shade_if.new.token.me) (seat_in c.shade_if-2.new.token.me) c.shade_if.ensures.leads c.shade_if-2.ensures.leads
