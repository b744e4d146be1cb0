use Rattle.std.proofs.Common.{◌≡◌, true, false, length, sym, ap, subst, arith, refl}
use Rattle.std.proofs.lemmas.List.{get_or-set_same}
use Rattle.locked_heap.specs.declared.progress.Progress.{Progress}
use Rattle.locked_heap.specs.Given.{script_of}
use Rattle.locked_heap.specs.Locked.{LockedValue}
use Rattle.locked_heap.specs.Progress.{at_begin, progress_at}
use Rattle.locked_heap.proofs.Calling.{all_have_come_after_leave}
use Rattle.locked_heap.proofs.Coming.{read_progress_is_seats}
use Rattle.locked_heap.proofs.GivenRuns.{is_run_after_call}
use Rattle.locked_heap.proofs.Parting.{is_parted_by_leave, stands_locked_still, comes_no_further}
use Rattle.locked_heap.proofs.Owing.{owes_no_more_untold, owes_no_more_after_leave}
use Rattle.locked_heap.proofs.Returning.{on_ok_at_err}
use Rattle.locked_heap.proofs.locked.Locked.leave.Goals as goal

pub returns-in_err-call-clause-further : goal.returns-in_err-call-clause-further
returns-in_err-call-clause-further g c = comes_no_further _ _ c.args.seat (ap (λ (v : LockedValue). v.seats) c.self.view_is) (ap (λ (v : LockedValue). v.over) c.self.view_is)

pub returns-in_err-call-clause-left : goal.returns-in_err-call-clause-left
returns-in_err-call-clause-left g c = on_ok_at_err c.from_residual.result _ c.from_residual.ensures.0

pub index-progress-requires : goal.index-progress-requires
index-progress-requires g c = omega (arith, c.requires.within, c.self.invariant.come.seated)

pub index_mut-requires : goal.index_mut-requires
index_mut-requires g c = omega (arith, c.requires.within, c.self.invariant.come.seated)

pub returns-clause-left : goal.returns-clause-left
returns-clause-left g c = ap (λ (p : Progress). p.gone) (get_or-set_same c.self.inside.seats.items c.args.seat _ at_begin (omega (arith, c.requires.within, c.self.invariant.come.seated)))

pub invariant_of-self : goal.invariant_of-self
invariant_of-self g c = stands_locked_still g.N.Handed.given _ c.call.new.self c.self.inside.patience c.self.invariant c.in_err-call.ensures.still

pub invariant_of-self-2 : goal.invariant_of-self-2
invariant_of-self-2 g c =
    let inside = c.self.inside in
    let there : (progress_at inside.seats.items c.args.seat).gone ≡ false = subst (λ (v : LockedValue). (progress_at v.seats c.args.seat).gone ≡ false) (sym c.self.view_is) c.requires.there in
    let through : (progress_at inside.seats.items c.args.seat).position ≡ length (script_of g.N.Handed.given c.args.seat)
    = subst (λ (v : LockedValue). (progress_at v.seats c.args.seat).position ≡ length (script_of g.N.Handed.given c.args.seat)) (sym c.self.view_is) c.requires.through in
    let makes = c.in_ok-call.ensures.makes in
    let read = read_progress_is_seats inside.seats.items c.args.seat c.index-progress.result.now (omega (arith, c.requires.within, c.self.invariant.come.seated)) c.index-progress.ensures in
    record {
      run = is_run_after_call g.N.Handed.given inside.recorder c.call.new.self c.self.invariant.run c.args.seat _ _ makes;
      come = all_have_come_after_leave c.law_every_run.ensures.run g.N.Handed.given inside.recorder c.call.new.self inside.seats.items c.args.seat _ _ c.self.invariant.run c.self.invariant.come c.requires.within makes there through
          (ap (λ (p : Progress). record p { gone = true }) (sym read));
      parted = is_parted_by_leave g.N.Handed.given inside.recorder c.call.new.self _ c.args.seat _ makes;
      patient = c.self.invariant.patient;
    }

pub returns-in_err-call-clause-owed : goal.returns-in_err-call-clause-owed
returns-in_err-call-clause-owed g c = owes_no_more_untold _ _ _ c.self.view_is c.in_err-call.ensures.still.history_stays refl

pub returns-clause-owed : goal.returns-clause-owed
returns-clause-owed g c = owes_no_more_after_leave _ _ _ c.args.seat _ c.self.view_is c.in_ok-call.ensures.makes refl
