use Rattle.std.proofs.Common.{◌≡◌, length, refl, sym, ap, subst, ◌∙◌, arith}
use Rattle.core_machine.specs.machine.Machine.{after_begin}
use Rattle.core_machine.specs.declared.point.Point.TheVariants.{Local}
use Rattle.core_machine.specs.Moves.{due_step}
use Rattle.core_machine.specs.seat.Seat.{Seat}
use Rattle.heap_table.specs.Ahead.{seat_in}
use Rattle.heap_table.specs.Made.{LeadsTo}
use Rattle.heap_table.specs.SeatHeld.{SeatHeld, KeepsSeat}
use Rattle.heap_table.proofs.OneGo.{keeps_same, view_tells_seat, keeps_begun_in_view, view_after_first, first_leads, steps_are_made}
use Rattle.heap_table.proofs.OneStep.{phase_is_due, local_tells_nothing, local_is_over}
use Rattle.heap_table.proofs.SeatHolders.{holder_may_begin}
use Rattle.heap_table.proofs.holder.Holder.local_near.Goals as goal

pub step_first-found-requires-clause-keeps : goal.step_first-found-requires-clause-keeps
step_first-found-requires-clause-keeps g c =
    let h = c.self.inside in
    let call = c.args.command in
    let may = holder_may_begin _ _ call c.self.view_is c.requires.may in
    subst (λ t. KeepsSeat t.shared.table_id t.shared.key h.token.table_id h.token.me h.heap h.number (after_begin h.heap (seat_in h.token.me) call)) (sym c.deref.ensures)
    (keeps_begun_in_view _ _ _ h.token.me h.heap h.number h.party.seat c.self.invariant call may)

pub step_first-found-requires-clause-due : goal.step_first-found-requires-clause-due
step_first-found-requires-clause-due g c =
    let h = c.self.inside in
    let call = c.args.command in
    let may = holder_may_begin _ _ call c.self.view_is c.requires.may in
    let opens = subst (λ (held : SeatHeld). after_begin held.heap held.seat call ≡ record held.seat { command = call; point = Local }) (sym c.self.view_is) c.requires.opens in
    ap (λ (s : Seat). due_step h.heap h.number (after_begin h.heap s call)) (view_tells_seat _ _ _ h.token.me h.heap h.number h.party.seat c.self.invariant call may)
    ∙ phase_is_due h.heap h.number h.party.seat call opens

pub invariant_of-self : goal.invariant_of-self
invariant_of-self g c =
    let h = c.self.inside in
    let call = c.args.command in
    let may = holder_may_begin _ _ call c.self.view_is c.requires.may in
    let opens = subst (λ (held : SeatHeld). after_begin held.heap held.seat call ≡ record held.seat { command = call; point = Local }) (sym c.self.view_is) c.requires.opens in
    let first = view_after_first _ _ _ h.token.me h.heap h.number h.party.seat c.self.invariant call may c.step_first-found.new.token.me c.step_first-found.result c.step_first-found.ensures.seat c.step_first-found.ensures.told in
    let over = c.end_local.ensures.seat ∙ sym (local_is_over h.heap h.number h.party.seat call opens c.step_first-found.result) in
    subst (λ t. KeepsSeat t.shared.table_id t.shared.key c.step_first-found.new.token.table_id c.step_first-found.new.token.me h.heap h.number c.end_local.new.self.seat) c.deref.ensures
    (keeps_same _ _ _ c.step_first-found.new.token.me h.heap h.number (seat_in c.step_first-found.new.token.me) c.step_first-found.ensures.keeps c.end_local.new.self.seat (over ∙ sym first))

pub returns-clause-steps : goal.returns-clause-steps
returns-clause-steps g c =
    let h = c.self.inside in
    let call = c.args.command in
    let may = holder_may_begin _ _ call c.self.view_is c.requires.may in
    let opens = subst (λ (held : SeatHeld). after_begin held.heap held.seat call ≡ record held.seat { command = call; point = Local }) (sym c.self.view_is) c.requires.opens in
    let due = phase_is_due h.heap h.number h.party.seat call opens in
    let first = view_after_first _ _ _ h.token.me h.heap h.number h.party.seat c.self.invariant call may c.step_first-found.new.token.me c.step_first-found.result c.step_first-found.ensures.seat c.step_first-found.ensures.told in
    let lead = first_leads _ _ _ h.token.me h.heap h.number h.party.seat c.self.invariant call may c.step_first-found.new.token.me c.step_first-found.result c.step_first-found.ensures.seat c.step_first-found.ensures.told _ due in
    let over = c.end_local.ensures.seat ∙ sym (local_is_over h.heap h.number h.party.seat call opens c.step_first-found.result) in
    steps_are_made _ c.args.self.now _ call c.self.view_is c.step_first-found.ensures.same refl refl
    (lead.0, subst (λ (s : Seat). LeadsTo h.heap h.number (after_begin h.heap h.party.seat call) lead.0 s) (sym (over ∙ sym first)) lead.1)
    (omega (arith, c.end_local.ensures.spare.0, ap (length {A = _}) (local_tells_nothing h.heap h.number h.party.seat call opens))) c.end_local.ensures.spare.1
