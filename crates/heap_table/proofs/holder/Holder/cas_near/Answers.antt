use Rattle.std.proofs.Common.{◌≡◌, ℕ, ◌+◌, length, ◌==◌, Some, refl, sym, ap, subst, ◌∙◌, arith}
use Rattle.heap_model.specs.declared.command.Command.TheVariants.{Cas}
use Rattle.core_machine.specs.declared.point.Point.TheVariants.{Local}
use Rattle.core_machine.specs.declared.seat.register.Register.{Register}
use Rattle.core_machine.specs.declared.step.AccessStep.TheVariants.{CompareSwap}
use Rattle.core_machine.specs.declared.step.Step.TheVariants.{Access}
use Rattle.core_machine.specs.seat.Access.{after_replace}
use Rattle.core_machine.specs.seat.AccessMoves.{replaced_reply, reply_entries}
use Rattle.heap_model.specs.graph.Growth.{set_stamp}
use Rattle.core_machine.specs.machine.Machine.{after_begin}
use Rattle.core_machine.specs.seat.Access.{access_start}
use Rattle.core_machine.specs.seat.Registers.{register_in, register_word}
use Rattle.core_machine.specs.seat.Seat.{with_entries}
use Rattle.heap_table.specs.Ahead.{seat_in, BeginsAt}
use Rattle.heap_table.specs.SeatHeld.{SeatHeld, KeepsSeat}
use Rattle.heap_table.proofs.NearFields.{replace_is_due, cas_is_over}
use Rattle.heap_table.proofs.OneGo.{keeps_same, view_tells_seat, keeps_begun_in_view, steps_are_made}
use Rattle.heap_table.proofs.OneStep.{opens_nothing}
use Rattle.heap_table.proofs.SeatHolders.{holder_may_begin}
use Rattle.heap_table.proofs.Ways.{begin_tells_nothing, leads_join, meta_is_due, step_leads}
use Rattle.heap_table.proofs.holder.Holder.cas_near.Goals as goal

pub local_near-requires-clause-opens : goal.local_near-requires-clause-opens
local_near-requires-clause-opens g c =
    let h = c.self.inside in
    let call = Cas c.args.r c.args.i c.args.a c.args.v in
    subst (λ (held : SeatHeld). after_begin held.heap held.seat call ≡ record held.seat { command = call; point = Local }) c.self.view_is
    (opens_nothing (record h.party.seat { command = call }) (register_in h.party.seat.registers c.args.r) (λ head id is. c.in_default.not-Object head id (c.register.ensures ∙ is)))

pub find_field-requires-clause-keeps : goal.find_field-requires-clause-keeps
find_field-requires-clause-keeps g c =
    let h = c.self.inside in
    let call = Cas c.args.r c.args.i c.args.a c.args.v in
    let may = holder_may_begin _ _ call c.self.view_is c.requires.may in
    subst (λ t. KeepsSeat t.shared.table_id t.shared.key h.token.table_id h.token.me h.heap h.number (after_begin h.heap (seat_in h.token.me) call)) (sym c.deref.ensures)
    (keeps_begun_in_view _ _ _ h.token.me h.heap h.number h.party.seat c.self.invariant call may)

pub find_field-requires-clause-seat : goal.find_field-requires-clause-seat
find_field-requires-clause-seat g c =
    let h = c.self.inside in
    let call = Cas c.args.r c.args.i c.args.a c.args.v in
    let may = holder_may_begin _ _ call c.self.view_is c.requires.may in
    view_tells_seat _ _ _ h.token.me h.heap h.number h.party.seat c.self.invariant call may

pub find_field-requires-clause-begins : goal.find_field-requires-clause-begins
find_field-requires-clause-begins g c =
    let h = c.self.inside in
    let call = Cas c.args.r c.args.i c.args.a c.args.v in
    let may = holder_may_begin _ _ call c.self.view_is c.requires.may in
    let begins : BeginsAt h.heap h.party.seat call c.in-Object.head c.args.i = record {
      opens = ap (λ (o : Register). access_start (record h.party.seat { command = call }) o) (sym c.register.ensures ∙ c.in-Object.is);
      field_is = refl;
      within = omega (arith, may.in_range);
      replies = λ _. refl;
    } in
    begins

pub invariant_of-self : goal.invariant_of-self
invariant_of-self g c =
    let h = c.self.inside in
    let after = c.find_field.new.token in
    subst (λ t. KeepsSeat t.shared.table_id t.shared.key after.table_id after.me h.heap h.number c.catch_up.new.party.seat) c.deref.ensures
    (keeps_same _ _ _ after.me h.heap h.number (seat_in after.me) c.find_field.ensures.keeps c.catch_up.new.party.seat (c.catch_up.ensures.seat ∙ sym c.in-Err.ensures.missing.0))

pub returns-in-Err-clause-steps : goal.returns-in-Err-clause-steps
returns-in-Err-clause-steps g c =
    let h = c.self.inside in
    let call = Cas c.args.r c.args.i c.args.a c.args.v in
    let may = holder_may_begin _ _ call c.self.view_is c.requires.may in
    let begins : BeginsAt h.heap h.party.seat call c.in-Object.head c.args.i = record {
      opens = ap (λ (o : Register). access_start (record h.party.seat { command = call }) o) (sym c.register.ensures ∙ c.in-Object.is);
      field_is = refl;
      within = omega (arith, may.in_range);
      replies = λ _. refl;
    } in
    steps_are_made _ c.args.self.now _ call c.self.view_is c.find_field.ensures.same refl refl
    (step_leads h.heap h.number (after_begin h.heap h.party.seat call) c.catch_up.new.party.seat _ c.in-Err.meta
    (meta_is_due h.heap h.number h.party.seat call c.in-Object.head c.args.i begins) c.in-Err.ensures.missing.1 c.catch_up.ensures.seat)
    c.catch_up.ensures.spare c.catch_up.ensures.no_more

pub step_next-found-requires-clause-due : goal.step_next-found-requires-clause-due
step_next-found-requires-clause-due g c =
    let h = c.self.inside in
    let place = c.in-Ok.place in
    let mid = seat_in c.guard_cas.new.token.me in
    let at = c.guard_cas.ensures.at in
    replace_is_due h.heap h.number h.party.seat c.args.r c.args.i c.args.a c.args.v place.fragment place.part h.party.seat.loaded mid at
    ∙ ap (λ (w : ℕ). Some (Access (CompareSwap place.fragment place.part w (register_word (register_in h.party.seat.registers c.args.v) (set_stamp h.number (h.party.seat.sets + 1)))))) (sym c.word_seen-old.ensures)
    ∙ ap (λ (w : ℕ). Some (Access (CompareSwap place.fragment place.part c.word_seen-old.result w))) (sym c.word_to_set-new.ensures)

pub invariant_of-self-2 : goal.invariant_of-self-2
invariant_of-self-2 g c =
    let h = c.self.inside in
    let place = c.in-Ok.place in
    let mid = seat_in c.guard_cas.new.token.me in
    let at = c.guard_cas.ensures.at in
    let over = c.end_cas.ensures.seat
    ∙ ap (λ (e : ℕ). with_entries (after_replace (record h.party.seat { command = Cas c.args.r c.args.i c.args.a c.args.v }) (c.step_next-found.result == e))
    (reply_entries h.number (record h.party.seat { command = Cas c.args.r c.args.i c.args.a c.args.v }) (replaced_reply c.step_next-found.result (c.step_next-found.result == e)))) c.word_seen-old.ensures
    ∙ sym (cas_is_over h.heap h.number h.party.seat c.args.r c.args.i c.args.a c.args.v place.fragment place.part h.party.seat.loaded mid at c.step_next-found.result) in
    subst (λ t. KeepsSeat t.shared.table_id t.shared.key c.step_next-found.new.token.table_id c.step_next-found.new.token.me h.heap h.number c.end_cas.new.self.seat) c.deref-3.ensures
    (keeps_same _ _ _ c.step_next-found.new.token.me h.heap h.number (seat_in c.step_next-found.new.token.me) c.step_next-found.ensures.keeps c.end_cas.new.self.seat (over ∙ sym c.step_next-found.ensures.seat))

pub returns-clause-steps : goal.returns-clause-steps
returns-clause-steps g c =
    let h = c.self.inside in
    let call = Cas c.args.r c.args.i c.args.a c.args.v in
    let may = holder_may_begin _ _ call c.self.view_is c.requires.may in
    let begins : BeginsAt h.heap h.party.seat call c.in-Object.head c.args.i = record {
      opens = ap (λ (o : Register). access_start (record h.party.seat { command = call }) o) (sym c.register.ensures ∙ c.in-Object.is);
      field_is = refl;
      within = omega (arith, may.in_range);
      replies = λ _. refl;
    } in
    let place = c.in-Ok.place in
    let mid = seat_in c.guard_cas.new.token.me in
    let at = c.guard_cas.ensures.at in
    let over = c.end_cas.ensures.seat
    ∙ ap (λ (e : ℕ). with_entries (after_replace (record h.party.seat { command = Cas c.args.r c.args.i c.args.a c.args.v }) (c.step_next-found.result == e))
    (reply_entries h.number (record h.party.seat { command = Cas c.args.r c.args.i c.args.a c.args.v }) (replaced_reply c.step_next-found.result (c.step_next-found.result == e)))) c.word_seen-old.ensures
    ∙ sym (cas_is_over h.heap h.number h.party.seat c.args.r c.args.i c.args.a c.args.v place.fragment place.part h.party.seat.loaded mid at c.step_next-found.result) in
    let first = after_begin h.heap h.party.seat call in
    let field = seat_in c.find_field.new.token.me in
    let last = c.end_cas.new.self.seat in
    steps_are_made _ c.args.self.now _ call c.self.view_is (c.step_next-found.ensures.same ∙ c.guard_cas.ensures.same ∙ c.find_field.ensures.same) refl refl
    (leads_join h.heap h.number first field last c.find_field.ensures.leads
    (leads_join h.heap h.number field mid last c.guard_cas.ensures.leads
    (step_leads h.heap h.number mid last _ c.step_next-found.result (replace_is_due h.heap h.number h.party.seat c.args.r c.args.i c.args.a c.args.v place.fragment place.part h.party.seat.loaded mid at) c.step_next-found.ensures.told over)))
    (omega (arith, c.end_cas.ensures.spare.0, ap (length {A = _}) (begin_tells_nothing h.heap h.number h.party.seat call c.in-Object.head c.args.i begins))) c.end_cas.ensures.spare.1
