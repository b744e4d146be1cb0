use Rattle.std.proofs.Common.{sym, subst, refl, ap}
use Rattle.core_machine.specs.machine.Machine.{BeginsInner, Can}
use Rattle.heap_record.specs.Recorded.{MakesInner}
use Rattle.locked_heap.specs.Locked.{LockedValue, IsCollecting}
use Rattle.locked_heap.proofs.InnerCalls.{all_have_come_after_quiet}
use Rattle.locked_heap.proofs.GivenRuns.{is_run_after_inner}
use Rattle.locked_heap.proofs.Parting.{is_parted_with_seat_there, stands_locked_still}
use Rattle.locked_heap.proofs.Owing.{owes_no_more_untold, owes_no_more_after_inner}
use Rattle.locked_heap.proofs.Returning.{on_ok_at_err}
use Rattle.locked_heap.proofs.locked.Locked.inner.Goals as goal

pub inner-requires : goal.inner-requires
inner-requires g c = record { can = c.may_make.ensures.0 c.if-may_make.true }

pub invariant_of-self-in_err-inner : goal.invariant_of-self-in_err-inner
invariant_of-self-in_err-inner g c = stands_locked_still g.N.Handed.given _ c.inner.new.self c.self.inside.patience c.self.invariant c.in_err-inner.ensures.still

pub returns-in_err-inner-clause-makes : goal.returns-in_err-inner-clause-makes
returns-in_err-inner-clause-makes g c = on_ok_at_err c.from_residual.result _ c.from_residual.ensures.0

pub returns-in_err-inner-clause-seats : goal.returns-in_err-inner-clause-seats
returns-in_err-inner-clause-seats g c = ap (λ (v : LockedValue). v.seats) c.self.view_is

pub returns-in_err-inner-clause-over : goal.returns-in_err-inner-clause-over
returns-in_err-inner-clause-over g c = ap (λ (v : LockedValue). v.over) c.self.view_is

pub returns-in_ok-inner-clause-makes : goal.returns-in_ok-inner-clause-makes
returns-in_ok-inner-clause-makes g c _ = subst (λ (v : LockedValue). MakesInner v.recorded c.inner.new.self c.args.seat c.args.inner) c.self.view_is c.in_ok-inner.ensures.makes

pub returns-in_ok-inner-clause-seats : goal.returns-in_ok-inner-clause-seats
returns-in_ok-inner-clause-seats g c = ap (λ (v : LockedValue). v.seats) c.self.view_is

pub returns-in_ok-inner-clause-over : goal.returns-in_ok-inner-clause-over
returns-in_ok-inner-clause-over g c = ap (λ (v : LockedValue). v.over) c.self.view_is

pub returns-else-may_make-clause-makes : goal.returns-else-may_make-clause-makes
returns-else-may_make-clause-makes g c can =
    absurd (cc (c.may_make.ensures.1 (subst (λ (v : LockedValue). Can v.recorded.machine.heap v.recorded.machine.state (BeginsInner c.args.seat c.args.inner)) (sym c.self.view_is) can), c.if-may_make.false))

pub returns-else-may_make-clause-seats : goal.returns-else-may_make-clause-seats
returns-else-may_make-clause-seats g c = refl

pub returns-else-may_make-clause-owed : goal.returns-else-may_make-clause-owed
returns-else-may_make-clause-owed g c = let locked = c.args.self.now in owes_no_more_untold locked locked locked refl refl refl

pub returns-else-may_make-clause-over : goal.returns-else-may_make-clause-over
returns-else-may_make-clause-over g c = refl

pub invariant_of-self : goal.invariant_of-self
invariant_of-self g c =
    let given = g.N.Handed.given in
    let old = c.self.inside.recorder in
    let seats = c.self.inside.seats.items in
    let collects : IsCollecting given seats c.args.seat = subst (λ (v : LockedValue). IsCollecting given v.seats c.args.seat) (sym c.self.view_is) c.requires.collects in
    let makes = c.in_ok-inner.ensures.makes in
    record {
      run = is_run_after_inner given old c.inner.new.self c.self.invariant.run c.args.seat c.args.inner makes;
      come = all_have_come_after_quiet given old c.inner.new.self seats c.args.seat c.self.invariant.come c.args.inner makes collects c.requires.quiet;
      parted = is_parted_with_seat_there given c.inner.new.self.history seats c.args.seat collects.next.within collects.next.there;
      patient = c.self.invariant.patient;
    }

pub returns-in_err-inner-clause-owed : goal.returns-in_err-inner-clause-owed
returns-in_err-inner-clause-owed g c = owes_no_more_untold _ _ _ c.self.view_is c.in_err-inner.ensures.still.history_stays refl

pub returns-in_ok-inner-clause-owed : goal.returns-in_ok-inner-clause-owed
returns-in_ok-inner-clause-owed g c = owes_no_more_after_inner _ _ _ c.args.seat c.args.inner c.self.view_is c.in_ok-inner.ensures.makes refl
