use Rattle.std.proofs.Common.{◌≡◌, ◌+◌, ◌-◌, ◌^◌, ◌<◌, min, List, [], ◌∷◌, ◌++◌, length, drop, length-append, sym, ap, subst, ◌∙◌, arith, refl}
use Rattle.heap_model.specs.account.Space.{total}
use Rattle.heap_model.specs.declared.entry.Entry.{Entry}
use Rattle.heap_model.specs.declared.entry.Entry.TheVariants.{Said}
use Rattle.locked_heap.specs.declared.progress.Progress.{Progress}
use Rattle.std.proofs.lemmas.List.{get_or-set_same}
use Rattle.std.proofs.lemmas.Option.{slice_get_within}
use Rattle.locked_heap.specs.Given.{script_of}
use Rattle.locked_heap.specs.Locked.{LockedValue, IsNext}
use Rattle.locked_heap.specs.Progress.{at_begin, progress_at}
use Rattle.locked_heap.proofs.Calling.{given_script_is_right, can_begin_command, all_have_come_after_call}
use Rattle.locked_heap.proofs.Coming.{read_progress_is_seats}
use Rattle.locked_heap.proofs.GivenRuns.{is_run_after_call}
use Rattle.locked_heap.proofs.Parting.{is_parted_after_progress, stands_locked_still, comes_no_further}
use Rattle.locked_heap.proofs.Owing.{owes_no_more_untold, owed_grows_by_claimed, on_err_always}
use Rattle.locked_heap.proofs.Returning.{on_ok_at_err, comes_further_by_set}
use Rattle.locked_heap.proofs.locked.Locked.call.Goals as goal

pub returns-in_err-call-clause-further : goal.returns-in_err-call-clause-further
returns-in_err-call-clause-further g c = comes_no_further _ _ c.args.seat (ap (λ (v : LockedValue). v.seats) c.self.view_is) (ap (λ (v : LockedValue). v.over) c.self.view_is)

pub returns-in_err-call-clause-onward : goal.returns-in_err-call-clause-onward
returns-in_err-call-clause-onward g c = on_ok_at_err c.from_residual.result _ c.from_residual.ensures.0

pub returns-in_err-call-clause-owes : goal.returns-in_err-call-clause-owes
returns-in_err-call-clause-owes g c = on_ok_at_err c.from_residual.result _ c.from_residual.ensures.0

pub index-progress-requires : goal.index-progress-requires
index-progress-requires g c = omega (arith, c.requires.next.within, c.self.invariant.come.seated)

pub index_mut-requires : goal.index_mut-requires
index_mut-requires g c = omega (arith, c.requires.next.within, c.self.invariant.come.seated)

pub returns-clause-onward : goal.returns-clause-onward
returns-clause-onward g c =
    let seats = c.self.inside.seats.items in
    let below : c.args.seat < length seats = omega (arith, c.requires.next.within, c.self.invariant.come.seated) in
    let read = read_progress_is_seats seats c.args.seat c.index-progress.result.now below c.index-progress.ensures in
    ap (λ (p : Progress). p.position) (get_or-set_same seats c.args.seat _ at_begin below) ∙ ap (λ (p : Progress). p.position + 1) (sym read) ∙ ap (λ (v : LockedValue). (progress_at v.seats c.args.seat).position + 1) c.self.view_is

pub returns-clause-further : goal.returns-clause-further
returns-clause-further g c =
    let seats = c.self.inside.seats.items in
    let below : c.args.seat < length seats = omega (arith, c.requires.next.within, c.self.invariant.come.seated) in
    let read = read_progress_is_seats seats c.args.seat c.index-progress.result.now below c.index-progress.ensures in
    comes_further_by_set _ _ _ c.args.seat _ c.self.view_is refl refl below (omega (arith, ap (λ (p : Progress). p.position) read)) (omega (arith, ap (λ (p : Progress). p.position) read)) (ap (λ (p : Progress). p.gone) read)

pub call-requires : goal.call-requires
call-requires g c =
    let inside = c.self.inside in
    let next : IsNext g.N.Handed.given inside.seats.items c.args.seat c.args.command.now = subst (λ (v : LockedValue). IsNext g.N.Handed.given v.seats c.args.seat c.args.command.now) (sym c.self.view_is) c.requires.next in
    record {
      can = can_begin_command c.law_every_run.ensures.run g.N.Handed.given inside.recorder inside.seats.items c.args.seat c.self.invariant.run c.self.invariant.come next.within c.args.command.now next c.requires.once;
    }

pub invariant_of-self : goal.invariant_of-self
invariant_of-self g c = stands_locked_still g.N.Handed.given _ c.call.new.self c.self.inside.patience c.self.invariant c.in_err-call.ensures.still

pub invariant_of-self-2 : goal.invariant_of-self-2
invariant_of-self-2 g c =
    let inside = c.self.inside in
    let next : IsNext g.N.Handed.given inside.seats.items c.args.seat c.args.command.now = subst (λ (v : LockedValue). IsNext g.N.Handed.given v.seats c.args.seat c.args.command.now) (sym c.self.view_is) c.requires.next in
    let makes = c.in_ok-call.ensures.makes in
    let read = read_progress_is_seats inside.seats.items c.args.seat c.index-progress.result.now (omega (arith, next.within, c.self.invariant.come.seated)) c.index-progress.ensures in
    record {
      run = is_run_after_call g.N.Handed.given inside.recorder c.call.new.self c.self.invariant.run c.args.seat c.args.command.now _ makes;
      come = all_have_come_after_call c.law_every_run.ensures.run g.N.Handed.given inside.recorder c.call.new.self inside.seats.items c.args.seat c.args.command.now _ c.self.invariant.run c.self.invariant.come next.within makes
          _ next c.requires.once (ap (λ (p : Progress). record p { position = p.position + 1 }) (sym read));
      parted = is_parted_after_progress g.N.Handed.given c.call.new.self.history inside.seats.items c.args.seat _ c.self.invariant.come.seated next.within (ap (λ (p : Progress). p.gone) (sym read) ∙ next.there);
      patient = c.self.invariant.patient;
    }

pub overflow_add-progress : goal.overflow_add-progress
overflow_add-progress g c =
    let given = g.N.Handed.given in
    let inside = c.self.inside in
    let next : IsNext given inside.seats.items c.args.seat c.args.command.now = subst (λ (v : LockedValue). IsNext given v.seats c.args.seat c.args.command.now) (sym c.self.view_is) c.requires.next in
    let read = read_progress_is_seats inside.seats.items c.args.seat c.index-progress.result.now (omega (arith, next.within, c.self.invariant.come.seated)) c.index-progress.ensures in
    let within = slice_get_within (script_of given c.args.seat) (progress_at inside.seats.items c.args.seat).position c.args.command.now next.next in
    let script = given_script_is_right c.law_every_run.ensures.run given inside.recorder inside.seats.items c.args.seat c.self.invariant.run c.self.invariant.come next.within in
    omega (arith, ap (λ (p : Progress). p.position) read, within, script.few)

pub split_at-requires : goal.split_at-requires
split_at-requires g c =
    let makes = c.in_ok-call.ensures.makes in
    omega (arith, ap (length {A = Entry}) c.entries-first.ensures, ap (length {A = Entry}) (c.entries.ensures ∙ makes.listed), length-append c.self.inside.recorder.listed (makes.call.before ++ Said c.args.seat c.args.command.now c.in_ok-call.field-0 ∷ []))

pub returns-clause-owes : goal.returns-clause-owes
returns-clause-owes g c =
    let old = c.self.inside.recorder in
    let new = c.call.new.self in
    let owed = c.saturating_add-self-inside.result in
    subst (λ (v : LockedValue). owed ≡ min (v.owed + total (λ e. e.taken) (drop (length v.recorded.history) new.history)) (2 ^ 64 - 1)) c.self.view_is
    (owed_grows_by_claimed old new c.split_at.result.1.now c.claimed.result c.self.inside.owed owed c.args.seat c.args.command.now c.in_ok-call.field-0 c.in_ok-call.ensures.makes
    (c.split_at.ensures.back ∙ ap (λ (l : List Entry). drop (length l) c.entries.result.now) c.entries-first.ensures ∙ ap (drop (length old.listed)) c.entries.ensures) c.claimed.ensures c.saturating_add-self-inside.ensures)

pub returns-in_err-call-clause-still : goal.returns-in_err-call-clause-still
returns-in_err-call-clause-still g c =
    on_err_always c.from_residual.result _ (owes_no_more_untold _ _ _ c.self.view_is c.in_err-call.ensures.still.history_stays refl)
