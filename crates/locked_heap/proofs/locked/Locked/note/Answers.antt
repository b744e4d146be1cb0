use Rattle.std.proofs.Common.{◌≡◌, ◌+◌, ◌<◌, [], ◌∷◌, ◌++◌, length, refl, sym, ap, subst, ◌∙◌, arith}
use Rattle.std.proofs.lemmas.List.{get_or-set_same}
use Rattle.std.proofs.lemmas.Option.{slice_get_within}
use Rattle.heap_model.specs.declared.entry.Entry.TheVariants.{Said}
use Rattle.heap_model.specs.declared.command.Command.TheVariants.{Collect}
use Rattle.core_machine.specs.machine.Machine.{seat_at}
use Rattle.core_machine.specs.seat.Looks.{MayNote, noted_reply}
use Rattle.locked_heap.specs.declared.progress.Progress.{Progress}
use Rattle.locked_heap.specs.Given.{script_of}
use Rattle.locked_heap.specs.Progress.{at_begin, progress_at}
use Rattle.locked_heap.specs.Locked.{LockedValue, IsNext}
use Rattle.locked_heap.proofs.Calling.{given_script_is_right, can_begin_inner}
use Rattle.locked_heap.proofs.Coming.{read_progress_is_seats}
use Rattle.locked_heap.proofs.InnerCalls.{all_have_come_after_note}
use Rattle.locked_heap.proofs.GivenRuns.{is_run_after_inner}
use Rattle.locked_heap.proofs.Parting.{is_parted_after_progress, stands_locked_still, comes_no_further}
use Rattle.locked_heap.proofs.Owing.{owes_no_more_untold, owes_no_more_after_inner}
use Rattle.locked_heap.proofs.Returning.{on_ok_at_err, comes_further_by_set}
use Rattle.locked_heap.proofs.locked.Locked.note.Goals as goal

pub finds-finds-requires : goal.finds-finds-requires
finds-finds-requires g c = c.requires.next.within

pub returns-in_err-inner-clause-answers : goal.returns-in_err-inner-clause-answers
returns-in_err-inner-clause-answers g c = on_ok_at_err c.from_residual.result _ c.from_residual.ensures.0

pub index-progress-requires : goal.index-progress-requires
index-progress-requires g c = omega (arith, c.requires.next.within, c.self.invariant.come.seated)

pub index_mut-requires : goal.index_mut-requires
index_mut-requires g c = omega (arith, c.requires.next.within, c.self.invariant.come.seated)

pub overflow_add-progress : goal.overflow_add-progress
overflow_add-progress g c =
    let given = g.N.Handed.given in
    let inside = c.self.inside in
    let next : IsNext given inside.seats.items c.args.seat Collect = subst (λ (v : LockedValue). IsNext given v.seats c.args.seat Collect) (sym c.self.view_is) c.requires.next in
    let read = read_progress_is_seats inside.seats.items c.args.seat c.index-progress.result.now (omega (arith, next.within, c.self.invariant.come.seated)) c.index-progress.ensures in
    let within = slice_get_within (script_of given c.args.seat) (progress_at inside.seats.items c.args.seat).position Collect next.next in
    let script = given_script_is_right c.law_every_run.ensures.run given inside.recorder inside.seats.items c.args.seat c.self.invariant.run c.self.invariant.come next.within in
    omega (arith, ap (λ (p : Progress). p.position) read, within, script.few)

pub returns-clause-answers : goal.returns-clause-answers
returns-clause-answers g c =
    let seats = c.self.inside.seats.items in
    let below : c.args.seat < length seats = omega (arith, c.requires.next.within, c.self.invariant.come.seated) in
    let read = read_progress_is_seats seats c.args.seat c.index-progress.result.now below c.index-progress.ensures in
    record {
      told = subst (λ (v : LockedValue). c.inner.new.self.history ≡ v.recorded.history ++ Said c.args.seat Collect (noted_reply c.args.came) ∷ []) c.self.view_is c.in_ok-inner.ensures.makes.noted;
      onward = ap (λ (p : Progress). p.position) (get_or-set_same seats c.args.seat _ at_begin below) ∙ ap (λ (p : Progress). p.position + 1) (sym read)
          ∙ ap (λ (v : LockedValue). (progress_at v.seats c.args.seat).position + 1) c.self.view_is;
    }

pub returns-clause-further : goal.returns-clause-further
returns-clause-further g c =
    let seats = c.self.inside.seats.items in
    let below : c.args.seat < length seats = omega (arith, c.requires.next.within, c.self.invariant.come.seated) in
    let read = read_progress_is_seats seats c.args.seat c.index-progress.result.now below c.index-progress.ensures in
    comes_further_by_set _ _ _ c.args.seat _ c.self.view_is refl refl below (omega (arith, ap (λ (p : Progress). p.position) read)) (omega (arith, ap (λ (p : Progress). p.position) read)) (ap (λ (p : Progress). p.gone) read)

pub inner-requires : goal.inner-requires
inner-requires g c =
    let inside = c.self.inside in
    let next : IsNext g.N.Handed.given inside.seats.items c.args.seat Collect = subst (λ (v : LockedValue). IsNext g.N.Handed.given v.seats c.args.seat Collect) (sym c.self.view_is) c.requires.next in
    record {
      can = can_begin_inner c.law_every_run.ensures.run g.N.Handed.given inside.recorder inside.seats.items c.args.seat c.self.invariant.run c.self.invariant.come next.within next.there _
          (subst (λ (v : LockedValue). MayNote (seat_at v.recorded.machine.state c.args.seat).looks c.args.came) (sym c.self.view_is) c.requires.found);
    }

pub invariant_of-self : goal.invariant_of-self
invariant_of-self g c = stands_locked_still g.N.Handed.given _ c.inner.new.self c.self.inside.patience c.self.invariant c.in_err-inner.ensures.still

pub invariant_of-self-2 : goal.invariant_of-self-2
invariant_of-self-2 g c =
    let inside = c.self.inside in
    let next : IsNext g.N.Handed.given inside.seats.items c.args.seat Collect = subst (λ (v : LockedValue). IsNext g.N.Handed.given v.seats c.args.seat Collect) (sym c.self.view_is) c.requires.next in
    let makes = c.in_ok-inner.ensures.makes in
    let read = read_progress_is_seats inside.seats.items c.args.seat c.index-progress.result.now (omega (arith, next.within, c.self.invariant.come.seated)) c.index-progress.ensures in
    record {
      run = is_run_after_inner g.N.Handed.given inside.recorder c.inner.new.self c.self.invariant.run c.args.seat _ makes;
      come = all_have_come_after_note g.N.Handed.given inside.recorder c.inner.new.self inside.seats.items c.args.seat c.self.invariant.come c.args.self.now _ _ c.args.came _ (sym c.self.view_is) makes next c.requires.may refl
          (ap (λ (p : Progress). p.position + 1) (sym read)) (ap (λ (p : Progress). p.gone) (sym read)) (c.finds-finds.ensures ∙ ap (λ (v : LockedValue). (seat_at v.recorded.machine.state c.args.seat).looks.waits) (sym c.self.view_is));
      parted = is_parted_after_progress g.N.Handed.given c.inner.new.self.history inside.seats.items c.args.seat _ c.self.invariant.come.seated next.within (ap (λ (p : Progress). p.gone) (sym read) ∙ next.there);
      patient = c.self.invariant.patient;
    }

pub returns-in_err-inner-clause-further : goal.returns-in_err-inner-clause-further
returns-in_err-inner-clause-further g c = comes_no_further _ _ c.args.seat (ap (λ (v : LockedValue). v.seats) c.self.view_is) (ap (λ (v : LockedValue). v.over) c.self.view_is)

pub returns-in_err-inner-clause-owed : goal.returns-in_err-inner-clause-owed
returns-in_err-inner-clause-owed g c = owes_no_more_untold _ _ _ c.self.view_is c.in_err-inner.ensures.still.history_stays refl

pub returns-clause-owed : goal.returns-clause-owed
returns-clause-owed g c = owes_no_more_after_inner _ _ _ c.args.seat _ c.self.view_is c.in_ok-inner.ensures.makes refl
