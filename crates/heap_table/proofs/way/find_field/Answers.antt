use Rattle.std.proofs.Common.{◌<◌, ap, subst, ◌∙◌, arith}
use Rattle.heap_words.specs.Loaded.{length_of}
use Rattle.core_machine.specs.machine.Machine.{after_begin}
use Rattle.core_machine.specs.Moves.{due_step}
use Rattle.core_machine.specs.seat.Seat.{Seat}
use Rattle.heap_table.specs.Ahead.{seat_in}
use Rattle.heap_table.specs.Begun.{next_seat}
use Rattle.heap_table.specs.Told.{ToldAtStep}
use Rattle.heap_table.proofs.Ways.{leads_join, step_leads, meta_is_due, meta_leads_within, field_is_next}
use Rattle.heap_table.proofs.way.find_field.Goals as goal

pub step_first-meta-requires-clause-due : goal.step_first-meta-requires-clause-due
step_first-meta-requires-clause-due g c =
    ap (λ (s : Seat). due_step c.args.heap.now c.args.number (after_begin c.args.heap.now s c.args.command.now)) c.requires.seat
    ∙ meta_is_due c.args.heap.now c.args.number c.args.party.now.seat c.args.command.now c.args.head c.args.field c.requires.begins

pub reach-requires-clause-at : goal.reach-requires-clause-at
reach-requires-clause-at g c =
    let meta = c.step_first-meta.result in
    let has : c.args.field < length_of meta = omega arith in
    c.step_first-meta.ensures.seat ∙ ap (λ (s : Seat). next_seat c.args.heap.now c.args.number (after_begin c.args.heap.now s c.args.command.now) meta) c.requires.seat
    ∙ field_is_next c.args.heap.now c.args.number c.args.party.now.seat c.args.command.now c.args.head c.args.field c.requires.begins meta has

pub reach-requires-clause-leads : goal.reach-requires-clause-leads
reach-requires-clause-leads g c =
    meta_leads_within c.args.heap.now c.args.number c.args.party.now.seat c.args.command.now c.args.head c.args.field c.requires.begins c.step_first-meta.result
    (subst (λ (s : Seat). ToldAtStep c.args.heap.now c.args.number (after_begin c.args.heap.now s c.args.command.now) c.step_first-meta.result) c.requires.seat c.step_first-meta.ensures.told)

pub returns-then-field-from-clause-leads : goal.returns-then-field-from-clause-leads
returns-then-field-from-clause-leads g c =
    let heap = c.args.heap.now in
    let seat = c.args.party.now.seat in
    let call = c.args.command.now in
    let meta = c.step_first-meta.result in
    step_leads heap c.args.number (after_begin heap seat call) (seat_in c.step_first-meta.new.token.me) _ meta (meta_is_due heap c.args.number seat call c.args.head c.args.field c.requires.begins)
    (subst (λ (s : Seat). ToldAtStep heap c.args.number (after_begin heap s call) meta) c.requires.seat c.step_first-meta.ensures.told)
    (c.step_first-meta.ensures.seat ∙ ap (λ (s : Seat). next_seat heap c.args.number (after_begin heap s call) meta) c.requires.seat)

pub returns-clause-leads : goal.returns-clause-leads
returns-clause-leads g c =
    let heap = c.args.heap.now in
    let seat = c.args.party.now.seat in
    let call = c.args.command.now in
    let meta = c.step_first-meta.result in
    leads_join heap c.args.number (after_begin heap seat call) (seat_in c.step_first-meta.new.token.me) (seat_in c.reach.new.token.me)
    (step_leads heap c.args.number (after_begin heap seat call) (seat_in c.step_first-meta.new.token.me) _ meta (meta_is_due heap c.args.number seat call c.args.head c.args.field c.requires.begins)
    (subst (λ (s : Seat). ToldAtStep heap c.args.number (after_begin heap s call) meta) c.requires.seat c.step_first-meta.ensures.told)
    (c.step_first-meta.ensures.seat ∙ ap (λ (s : Seat). next_seat heap c.args.number (after_begin heap s call) meta) c.requires.seat))
    c.reach.ensures.leads
