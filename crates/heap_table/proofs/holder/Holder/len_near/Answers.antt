use Rattle.std.proofs.Common.{◌≡◌, length, refl, sym, ap, subst, ◌∙◌, arith}
use Rattle.heap_model.specs.declared.command.Command.TheVariants.{Len}
use Rattle.core_machine.specs.machine.Machine.{after_begin}
use Rattle.core_machine.specs.declared.point.Point.TheVariants.{Local}
use Rattle.core_machine.specs.declared.seat.register.Register.{Register}
use Rattle.core_machine.specs.seat.Access.{access_start}
use Rattle.core_machine.specs.seat.Registers.{register_in}
use Rattle.core_machine.specs.Moves.{due_step}
use Rattle.core_machine.specs.seat.Seat.{Seat}
use Rattle.heap_table.specs.Ahead.{seat_in, at_head}
use Rattle.heap_table.specs.Made.{LeadsTo}
use Rattle.heap_table.specs.SeatHeld.{SeatHeld, KeepsSeat}
use Rattle.heap_table.proofs.OneGo.{keeps_same, view_tells_seat, keeps_begun_in_view, view_after_first, first_leads, steps_are_made}
use Rattle.heap_table.proofs.OneStep.{opens_nothing, length_is_due, len_tells_nothing, len_is_over}
use Rattle.heap_table.proofs.SeatHolders.{holder_may_begin}
use Rattle.heap_table.proofs.holder.Holder.len_near.Goals as goal

pub local_near-requires-clause-opens : goal.local_near-requires-clause-opens
local_near-requires-clause-opens g c =
    let call = Len c.args.r in
    let h = c.self.inside in
    subst (λ (held : SeatHeld). after_begin held.heap held.seat call ≡ record held.seat { command = call; point = Local }) c.self.view_is
    (opens_nothing (record h.party.seat { command = call }) (register_in h.party.seat.registers c.args.r) (λ head id is. c.in_default.not-Object head id (c.register.ensures ∙ is)))

pub step_first-meta-requires-clause-keeps : goal.step_first-meta-requires-clause-keeps
step_first-meta-requires-clause-keeps g c =
    let h = c.self.inside in
    let call = Len c.args.r in
    let may = holder_may_begin _ _ call c.self.view_is c.requires.may in
    subst (λ t. KeepsSeat t.shared.table_id t.shared.key h.token.table_id h.token.me h.heap h.number (after_begin h.heap (seat_in h.token.me) call)) (sym c.deref.ensures)
    (keeps_begun_in_view _ _ _ h.token.me h.heap h.number h.party.seat c.self.invariant call may)

pub step_first-meta-requires-clause-due : goal.step_first-meta-requires-clause-due
step_first-meta-requires-clause-due g c =
    let h = c.self.inside in
    let call = Len c.args.r in
    let may = holder_may_begin _ _ call c.self.view_is c.requires.may in
    let opens : after_begin h.heap h.party.seat call ≡ at_head h.party.seat call c.in-Object.head = ap (λ (o : Register). access_start (record h.party.seat { command = call }) o) (sym c.register.ensures ∙ c.in-Object.is) in
    ap (λ (s : Seat). due_step h.heap h.number (after_begin h.heap s call)) (view_tells_seat _ _ _ h.token.me h.heap h.number h.party.seat c.self.invariant call may)
    ∙ length_is_due h.heap h.number h.party.seat c.args.r c.in-Object.head opens

pub invariant_of-self : goal.invariant_of-self
invariant_of-self g c =
    let h = c.self.inside in
    let call = Len c.args.r in
    let may = holder_may_begin _ _ call c.self.view_is c.requires.may in
    let opens : after_begin h.heap h.party.seat call ≡ at_head h.party.seat call c.in-Object.head = ap (λ (o : Register). access_start (record h.party.seat { command = call }) o) (sym c.register.ensures ∙ c.in-Object.is) in
    let first = view_after_first _ _ _ h.token.me h.heap h.number h.party.seat c.self.invariant call may c.step_first-meta.new.token.me c.step_first-meta.result c.step_first-meta.ensures.seat c.step_first-meta.ensures.told in
    let over = c.end_len.ensures.seat ∙ sym (len_is_over h.heap h.number h.party.seat c.args.r c.in-Object.head opens c.step_first-meta.result) in
    subst (λ t. KeepsSeat t.shared.table_id t.shared.key c.step_first-meta.new.token.table_id c.step_first-meta.new.token.me h.heap h.number c.end_len.new.self.seat) c.deref.ensures
    (keeps_same _ _ _ c.step_first-meta.new.token.me h.heap h.number (seat_in c.step_first-meta.new.token.me) c.step_first-meta.ensures.keeps c.end_len.new.self.seat (over ∙ sym first))

pub returns-clause-steps : goal.returns-clause-steps
returns-clause-steps g c =
    let h = c.self.inside in
    let call = Len c.args.r in
    let may = holder_may_begin _ _ call c.self.view_is c.requires.may in
    let opens : after_begin h.heap h.party.seat call ≡ at_head h.party.seat call c.in-Object.head = ap (λ (o : Register). access_start (record h.party.seat { command = call }) o) (sym c.register.ensures ∙ c.in-Object.is) in
    let due = length_is_due h.heap h.number h.party.seat c.args.r c.in-Object.head opens in
    let first = view_after_first _ _ _ h.token.me h.heap h.number h.party.seat c.self.invariant call may c.step_first-meta.new.token.me c.step_first-meta.result c.step_first-meta.ensures.seat c.step_first-meta.ensures.told in
    let lead = first_leads _ _ _ h.token.me h.heap h.number h.party.seat c.self.invariant call may c.step_first-meta.new.token.me c.step_first-meta.result c.step_first-meta.ensures.seat c.step_first-meta.ensures.told _ due in
    let over = c.end_len.ensures.seat ∙ sym (len_is_over h.heap h.number h.party.seat c.args.r c.in-Object.head opens c.step_first-meta.result) in
    steps_are_made _ c.args.self.now _ call c.self.view_is c.step_first-meta.ensures.same refl refl
    (lead.0, subst (λ (s : Seat). LeadsTo h.heap h.number (after_begin h.heap h.party.seat call) lead.0 s) (sym (over ∙ sym first)) lead.1)
    (omega (arith, c.end_len.ensures.spare.0, ap (length {A = _}) (len_tells_nothing h.heap h.number h.party.seat c.args.r c.in-Object.head opens))) c.end_len.ensures.spare.1
