use Rattle.std.proofs.Common.{◌≡◌, length, refl, sym, ap, subst, ◌∙◌, arith}
use Rattle.heap_model.specs.declared.command.Command.TheVariants.{Get}
use Rattle.core_machine.specs.declared.point.Point.TheVariants.{Local}
use Rattle.core_machine.specs.declared.seat.register.Register.{Register}
use Rattle.core_machine.specs.machine.Machine.{after_begin}
use Rattle.core_machine.specs.seat.Access.{access_start}
use Rattle.core_machine.specs.seat.Registers.{register_in}
use Rattle.heap_table.specs.Ahead.{seat_in, BeginsAt}
use Rattle.heap_table.specs.SeatHeld.{SeatHeld, KeepsSeat}
use Rattle.heap_table.proofs.NearFields.{get_is_due, field_refers_within, plain_get_is_over, name_is_due, named_get_is_over, none_where_not_some}
use Rattle.heap_table.proofs.OneGo.{keeps_same, view_tells_seat, keeps_begun_in_view, steps_are_made}
use Rattle.heap_table.proofs.OneStep.{opens_nothing}
use Rattle.heap_table.proofs.SeatHolders.{holder_may_begin}
use Rattle.heap_table.proofs.Ways.{begin_tells_nothing, leads_join, meta_is_due, step_leads}
use Rattle.heap_table.proofs.holder.Holder.get_near.Goals as goal

pub local_near-requires-clause-opens : goal.local_near-requires-clause-opens
local_near-requires-clause-opens g c =
    let h = c.self.inside in
    let call = Get c.args.d c.args.r c.args.i in
    subst (λ (held : SeatHeld). after_begin held.heap held.seat call ≡ record held.seat { command = call; point = Local }) c.self.view_is
    (opens_nothing (record h.party.seat { command = call }) (register_in h.party.seat.registers c.args.r) (λ head id is. c.in_default.not-Object head id (c.register.ensures ∙ is)))

pub find_field-requires-clause-keeps : goal.find_field-requires-clause-keeps
find_field-requires-clause-keeps g c =
    let h = c.self.inside in
    let call = Get c.args.d c.args.r c.args.i in
    let may = holder_may_begin _ _ call c.self.view_is c.requires.may in
    subst (λ t. KeepsSeat t.shared.table_id t.shared.key h.token.table_id h.token.me h.heap h.number (after_begin h.heap (seat_in h.token.me) call)) (sym c.deref.ensures)
    (keeps_begun_in_view _ _ _ h.token.me h.heap h.number h.party.seat c.self.invariant call may)

pub find_field-requires-clause-seat : goal.find_field-requires-clause-seat
find_field-requires-clause-seat g c =
    let h = c.self.inside in
    let call = Get c.args.d c.args.r c.args.i in
    let may = holder_may_begin _ _ call c.self.view_is c.requires.may in
    view_tells_seat _ _ _ h.token.me h.heap h.number h.party.seat c.self.invariant call may

pub find_field-requires-clause-begins : goal.find_field-requires-clause-begins
find_field-requires-clause-begins g c =
    let h = c.self.inside in
    let call = Get c.args.d c.args.r c.args.i in
    let may = holder_may_begin _ _ call c.self.view_is c.requires.may in
    let begins : BeginsAt h.heap h.party.seat call c.in-Object.head c.args.i = record {
      opens = ap (λ (o : Register). access_start (record h.party.seat { command = call }) o) (sym c.register.ensures ∙ c.in-Object.is);
      field_is = refl;
      within = omega (arith, may.in_range);
      replies = λ _. refl;
    } in
    begins

pub invariant_of-self : goal.invariant_of-self
invariant_of-self g c =
    let h = c.self.inside in
    let after = c.find_field.new.token in
    subst (λ t. KeepsSeat t.shared.table_id t.shared.key after.table_id after.me h.heap h.number c.catch_up.new.party.seat) c.deref.ensures
    (keeps_same _ _ _ after.me h.heap h.number (seat_in after.me) c.find_field.ensures.keeps c.catch_up.new.party.seat (c.catch_up.ensures.seat ∙ sym c.in-Err.ensures.missing.0))

pub returns-in-Err-clause-steps : goal.returns-in-Err-clause-steps
returns-in-Err-clause-steps g c =
    let h = c.self.inside in
    let call = Get c.args.d c.args.r c.args.i in
    let may = holder_may_begin _ _ call c.self.view_is c.requires.may in
    let begins : BeginsAt h.heap h.party.seat call c.in-Object.head c.args.i = record {
      opens = ap (λ (o : Register). access_start (record h.party.seat { command = call }) o) (sym c.register.ensures ∙ c.in-Object.is);
      field_is = refl;
      within = omega (arith, may.in_range);
      replies = λ _. refl;
    } in
    steps_are_made _ c.args.self.now _ call c.self.view_is c.find_field.ensures.same refl refl
    (step_leads h.heap h.number (after_begin h.heap h.party.seat call) c.catch_up.new.party.seat _ c.in-Err.meta
    (meta_is_due h.heap h.number h.party.seat call c.in-Object.head c.args.i begins) c.in-Err.ensures.missing.1 c.catch_up.ensures.seat)
    c.catch_up.ensures.spare c.catch_up.ensures.no_more

pub step_next-word-requires-clause-due : goal.step_next-word-requires-clause-due
step_next-word-requires-clause-due g c =
    let h = c.self.inside in
    let place = c.in-Ok.place in
    let mid = seat_in c.find_field.new.token.me in
    let at = c.in-Ok.ensures.found in
    get_is_due h.heap h.number h.party.seat c.args.d c.args.r c.args.i place.fragment place.part mid at

pub referred-requires : goal.referred-requires
referred-requires g c =
    let h = c.self.inside in
    let place = c.in-Ok.place in
    let mid = seat_in c.find_field.new.token.me in
    let at = c.in-Ok.ensures.found in
    field_refers_within h.heap h.number h.party.seat c.args.d c.args.r c.args.i place.fragment place.part mid at c.step_next-word.result c.self.invariant.limits c.step_next-word.ensures.told

pub invariant_of-self-in_default-referred : goal.invariant_of-self-in_default-referred
invariant_of-self-in_default-referred g c =
    let h = c.self.inside in
    let place = c.in-Ok.place in
    let mid = seat_in c.find_field.new.token.me in
    let at = c.in-Ok.ensures.found in
    let plain = sym c.referred.ensures ∙ none_where_not_some c.referred.result c.in_default-referred.not-Some in
    let over = c.end_get.ensures.seat ∙ sym (plain_get_is_over h.heap h.number h.party.seat c.args.d c.args.r c.args.i place.fragment place.part mid at c.step_next-word.result plain) in
    subst (λ t. KeepsSeat t.shared.table_id t.shared.key c.step_next-word.new.token.table_id c.step_next-word.new.token.me h.heap h.number c.end_get.new.self.seat) c.deref-2.ensures
    (keeps_same _ _ _ c.step_next-word.new.token.me h.heap h.number (seat_in c.step_next-word.new.token.me) c.step_next-word.ensures.keeps c.end_get.new.self.seat (over ∙ sym c.step_next-word.ensures.seat))

pub returns-in_default-referred-clause-steps : goal.returns-in_default-referred-clause-steps
returns-in_default-referred-clause-steps g c =
    let h = c.self.inside in
    let call = Get c.args.d c.args.r c.args.i in
    let may = holder_may_begin _ _ call c.self.view_is c.requires.may in
    let begins : BeginsAt h.heap h.party.seat call c.in-Object.head c.args.i = record {
      opens = ap (λ (o : Register). access_start (record h.party.seat { command = call }) o) (sym c.register.ensures ∙ c.in-Object.is);
      field_is = refl;
      within = omega (arith, may.in_range);
      replies = λ _. refl;
    } in
    let place = c.in-Ok.place in
    let mid = seat_in c.find_field.new.token.me in
    let at = c.in-Ok.ensures.found in
    let plain = sym c.referred.ensures ∙ none_where_not_some c.referred.result c.in_default-referred.not-Some in
    let over = c.end_get.ensures.seat ∙ sym (plain_get_is_over h.heap h.number h.party.seat c.args.d c.args.r c.args.i place.fragment place.part mid at c.step_next-word.result plain) in
    let first = after_begin h.heap h.party.seat call in
    steps_are_made _ c.args.self.now _ call c.self.view_is (c.step_next-word.ensures.same ∙ c.find_field.ensures.same) refl refl
    (leads_join h.heap h.number first mid c.end_get.new.self.seat c.find_field.ensures.leads
    (step_leads h.heap h.number mid c.end_get.new.self.seat _ c.step_next-word.result (get_is_due h.heap h.number h.party.seat c.args.d c.args.r c.args.i place.fragment place.part mid at) c.step_next-word.ensures.told over))
    (omega (arith, c.end_get.ensures.spare.0, ap (length {A = _}) (begin_tells_nothing h.heap h.number h.party.seat call c.in-Object.head c.args.i begins))) c.end_get.ensures.spare.1

pub step_next-name-requires-clause-due : goal.step_next-name-requires-clause-due
step_next-name-requires-clause-due g c =
    let h = c.self.inside in
    let place = c.in-Ok.place in
    let mid = seat_in c.find_field.new.token.me in
    let at = c.in-Ok.ensures.found in
    name_is_due h.heap h.number h.party.seat c.args.d c.args.r c.args.i place.fragment place.part mid at c.step_next-word.result c.in-Some.to (sym c.referred.ensures ∙ c.in-Some.is) (seat_in c.step_next-word.new.token.me) c.step_next-word.ensures.seat

pub invariant_of-self-2 : goal.invariant_of-self-2
invariant_of-self-2 g c =
    let h = c.self.inside in
    let place = c.in-Ok.place in
    let mid = seat_in c.find_field.new.token.me in
    let at = c.in-Ok.ensures.found in
    let over = c.end_named_get.ensures.seat ∙ sym (named_get_is_over h.heap h.number h.party.seat c.args.d c.args.r c.args.i place.fragment place.part mid at c.step_next-word.result c.in-Some.to (sym c.referred.ensures ∙ c.in-Some.is) (seat_in c.step_next-word.new.token.me) c.step_next-word.ensures.seat c.step_next-name.result) in
    subst (λ t. KeepsSeat t.shared.table_id t.shared.key c.step_next-name.new.token.table_id c.step_next-name.new.token.me h.heap h.number c.end_named_get.new.self.seat) c.deref-3.ensures
    (keeps_same _ _ _ c.step_next-name.new.token.me h.heap h.number (seat_in c.step_next-name.new.token.me) c.step_next-name.ensures.keeps c.end_named_get.new.self.seat (over ∙ sym c.step_next-name.ensures.seat))

pub returns-clause-steps : goal.returns-clause-steps
returns-clause-steps g c =
    let h = c.self.inside in
    let call = Get c.args.d c.args.r c.args.i in
    let may = holder_may_begin _ _ call c.self.view_is c.requires.may in
    let begins : BeginsAt h.heap h.party.seat call c.in-Object.head c.args.i = record {
      opens = ap (λ (o : Register). access_start (record h.party.seat { command = call }) o) (sym c.register.ensures ∙ c.in-Object.is);
      field_is = refl;
      within = omega (arith, may.in_range);
      replies = λ _. refl;
    } in
    let place = c.in-Ok.place in
    let mid = seat_in c.find_field.new.token.me in
    let at = c.in-Ok.ensures.found in
    let refers = sym c.referred.ensures ∙ c.in-Some.is in
    let there = seat_in c.step_next-word.new.token.me in
    let over = c.end_named_get.ensures.seat ∙ sym (named_get_is_over h.heap h.number h.party.seat c.args.d c.args.r c.args.i place.fragment place.part mid at c.step_next-word.result c.in-Some.to refers there c.step_next-word.ensures.seat c.step_next-name.result) in
    let first = after_begin h.heap h.party.seat call in
    let last = c.end_named_get.new.self.seat in
    steps_are_made _ c.args.self.now _ call c.self.view_is (c.step_next-name.ensures.same ∙ c.step_next-word.ensures.same ∙ c.find_field.ensures.same) refl refl
    (leads_join h.heap h.number first mid last c.find_field.ensures.leads
    (leads_join h.heap h.number mid there last
    (step_leads h.heap h.number mid there _ c.step_next-word.result (get_is_due h.heap h.number h.party.seat c.args.d c.args.r c.args.i place.fragment place.part mid at) c.step_next-word.ensures.told c.step_next-word.ensures.seat)
    (step_leads h.heap h.number there last _ c.step_next-name.result (name_is_due h.heap h.number h.party.seat c.args.d c.args.r c.args.i place.fragment place.part mid at c.step_next-word.result c.in-Some.to refers there c.step_next-word.ensures.seat) c.step_next-name.ensures.told over)))
    (omega (arith, c.end_named_get.ensures.spare.0, ap (length {A = _}) (begin_tells_nothing h.heap h.number h.party.seat call c.in-Object.head c.args.i begins))) c.end_named_get.ensures.spare.1
