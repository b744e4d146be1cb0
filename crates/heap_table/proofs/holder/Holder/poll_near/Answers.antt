use Rattle.std.proofs.Common.{◌≡◌, ◌==◌, true, refl, sym, ap, subst, ◌∙◌, eq-eqb, arith}
use Rattle.heap_model.specs.declared.command.Command.TheVariants.{Poll}
use Rattle.core_machine.specs.machine.Machine.{after_begin}
use Rattle.core_machine.specs.declared.step.Step.TheVariants.{PollLoad}
use Rattle.core_machine.specs.Moves.{due_step}
use Rattle.core_machine.specs.seat.Seat.{Seat}
use Rattle.heap_table.specs.Ahead.{seat_in}
use Rattle.heap_table.specs.Made.{LeadsTo}
use Rattle.heap_table.specs.SeatHeld.{KeepsSeat}
use Rattle.heap_table.specs.Told.{ToldAtStep}
use Rattle.heap_table.proofs.OneGo.{keeps_same, view_tells_seat, keeps_begun_in_view, view_after_first, first_leads, steps_are_made}
use Rattle.heap_table.proofs.OneStep.{poll_is_over}
use Rattle.heap_table.proofs.SeatHolders.{holder_may_begin}
use Rattle.heap_table.proofs.holder.Holder.poll_near.Goals as goal

pub step_first-found-requires-clause-keeps : goal.step_first-found-requires-clause-keeps
step_first-found-requires-clause-keeps g c =
    let h = c.self.inside in
    let call = Poll in
    let may = holder_may_begin _ _ call c.self.view_is c.requires.may in
    subst (λ t. KeepsSeat t.shared.table_id t.shared.key h.token.table_id h.token.me h.heap h.number (after_begin h.heap (seat_in h.token.me) call)) (sym c.deref.ensures)
    (keeps_begun_in_view _ _ _ h.token.me h.heap h.number h.party.seat c.self.invariant call may)

pub step_first-found-requires-clause-due : goal.step_first-found-requires-clause-due
step_first-found-requires-clause-due g c =
    let h = c.self.inside in
    let call = Poll in
    let may = holder_may_begin _ _ call c.self.view_is c.requires.may in
    ap (λ (s : Seat). due_step h.heap h.number (after_begin h.heap s call)) (view_tells_seat _ _ _ h.token.me h.heap h.number h.party.seat c.self.invariant call may)
    ∙ refl

pub catch_up-requires-clause-told : goal.catch_up-requires-clause-told
catch_up-requires-clause-told g c =
    let h = c.self.inside in
    let call = Poll in
    let may = holder_may_begin _ _ call c.self.view_is c.requires.may in
    subst (λ (s : Seat). ToldAtStep h.heap h.number (after_begin h.heap s call) c.step_first-found.result) (view_tells_seat _ _ _ h.token.me h.heap h.number h.party.seat c.self.invariant call may)
    c.step_first-found.ensures.told

pub invariant_of-self : goal.invariant_of-self
invariant_of-self g c =
    let h = c.self.inside in
    let call = Poll in
    let may = holder_may_begin _ _ call c.self.view_is c.requires.may in
    let first = view_after_first _ _ _ h.token.me h.heap h.number h.party.seat c.self.invariant call may c.step_first-found.new.token.me c.step_first-found.result c.step_first-found.ensures.seat c.step_first-found.ensures.told in
    subst (λ t. KeepsSeat t.shared.table_id t.shared.key c.step_first-found.new.token.table_id c.step_first-found.new.token.me h.heap h.number c.catch_up.new.party.seat) c.deref.ensures
    (keeps_same _ _ _ c.step_first-found.new.token.me h.heap h.number (seat_in c.step_first-found.new.token.me) c.step_first-found.ensures.keeps c.catch_up.new.party.seat (c.catch_up.ensures.seat ∙ sym first))

pub returns-then-found-answered-clause-steps : goal.returns-then-found-answered-clause-steps
returns-then-found-answered-clause-steps g c =
    let h = c.self.inside in
    let call = Poll in
    let may = holder_may_begin _ _ call c.self.view_is c.requires.may in
    let first = view_after_first _ _ _ h.token.me h.heap h.number h.party.seat c.self.invariant call may c.step_first-found.new.token.me c.step_first-found.result c.step_first-found.ensures.seat c.step_first-found.ensures.told in
    let lead = first_leads _ _ _ h.token.me h.heap h.number h.party.seat c.self.invariant call may c.step_first-found.new.token.me c.step_first-found.result c.step_first-found.ensures.seat c.step_first-found.ensures.told PollLoad refl in
    steps_are_made _ c.args.self.now _ call c.self.view_is c.step_first-found.ensures.same refl refl
    (lead.0, subst (λ (s : Seat). LeadsTo h.heap h.number (after_begin h.heap h.party.seat call) lead.0 s) (sym (c.catch_up.ensures.seat ∙ sym first)) lead.1) c.catch_up.ensures.spare c.catch_up.ensures.no_more

pub invariant_of-self-2 : goal.invariant_of-self-2
invariant_of-self-2 g c =
    let h = c.self.inside in
    let call = Poll in
    let may = holder_may_begin _ _ call c.self.view_is c.requires.may in
    let first = view_after_first _ _ _ h.token.me h.heap h.number h.party.seat c.self.invariant call may c.step_first-found.new.token.me c.step_first-found.result c.step_first-found.ensures.seat c.step_first-found.ensures.told in
    let same_phase : (c.step_first-found.result == h.party.seat.answered) ≡ true = eq-eqb _ _ (c.if-found-answered.false ∙ c.answered.ensures) in
    let over = c.end_poll.ensures.seat ∙ sym (poll_is_over h.heap h.number h.party.seat c.step_first-found.result same_phase) in
    subst (λ t. KeepsSeat t.shared.table_id t.shared.key c.step_first-found.new.token.table_id c.step_first-found.new.token.me h.heap h.number c.end_poll.new.self.seat) c.deref.ensures
    (keeps_same _ _ _ c.step_first-found.new.token.me h.heap h.number (seat_in c.step_first-found.new.token.me) c.step_first-found.ensures.keeps c.end_poll.new.self.seat (over ∙ sym first))

pub returns-clause-steps : goal.returns-clause-steps
returns-clause-steps g c =
    let h = c.self.inside in
    let call = Poll in
    let may = holder_may_begin _ _ call c.self.view_is c.requires.may in
    let first = view_after_first _ _ _ h.token.me h.heap h.number h.party.seat c.self.invariant call may c.step_first-found.new.token.me c.step_first-found.result c.step_first-found.ensures.seat c.step_first-found.ensures.told in
    let lead = first_leads _ _ _ h.token.me h.heap h.number h.party.seat c.self.invariant call may c.step_first-found.new.token.me c.step_first-found.result c.step_first-found.ensures.seat c.step_first-found.ensures.told PollLoad refl in
    let same_phase : (c.step_first-found.result == h.party.seat.answered) ≡ true = eq-eqb _ _ (c.if-found-answered.false ∙ c.answered.ensures) in
    let over = c.end_poll.ensures.seat ∙ sym (poll_is_over h.heap h.number h.party.seat c.step_first-found.result same_phase) in
    steps_are_made _ c.args.self.now _ call c.self.view_is c.step_first-found.ensures.same refl refl
    (lead.0, subst (λ (s : Seat). LeadsTo h.heap h.number (after_begin h.heap h.party.seat call) lead.0 s) (sym (over ∙ sym first)) lead.1)
    (omega (arith, c.end_poll.ensures.spare.0)) c.end_poll.ensures.spare.1
