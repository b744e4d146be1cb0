use Rattle.std.proofs.Common.{◌≡◌, ℕ, ◌<◌, List, length, Some, refl, sym, ap, subst, ◌∙◌, arith}
use Rattle.std.specs.Prelude.{slice_get, slice_set}
use Rattle.std.proofs.lemmas.List.{get_or-set_same}
use Rattle.heap_model.specs.declared.command.Command.TheVariants.{Collect}
use Rattle.heap_model.specs.declared.calls.collect.Inner.TheVariants.{Look}
use Rattle.core_machine.specs.machine.Machine.{seat_at}
use Rattle.locked_heap.specs.declared.progress.Progress.{Progress}
use Rattle.locked_heap.specs.Locked.{LockedValue, IsNext, IsCollecting}
use Rattle.locked_heap.specs.Given.{Given, script_of}
use Rattle.locked_heap.specs.Progress.{at_begin, progress_at}
use Rattle.locked_heap.proofs.Calling.{can_begin_inner}
use Rattle.locked_heap.proofs.Coming.{read_progress_is_seats, first_look_is_none}
use Rattle.locked_heap.proofs.InnerCalls.{all_have_come_after_look}
use Rattle.locked_heap.proofs.GivenRuns.{is_run_after_inner, book_stands_for_run}
use Rattle.locked_heap.proofs.Parting.{is_parted_after_progress, stands_locked_still, comes_no_further}
use Rattle.locked_heap.proofs.Owing.{owes_no_more_untold, owes_no_more_after_inner}
use Rattle.locked_heap.proofs.Returning.{on_ok_at_err, comes_further_by_set}
use Rattle.locked_heap.proofs.locked.Locked.begin_collect.Goals as goal

-- a seat whose target was set is in its collect
collects_with_target : (given : Given) (seats : List Progress) (number target paid : ℕ) (read : Progress) → number < length seats → progress_at seats number ≡ read → IsNext given seats number Collect
    → IsCollecting given (slice_set seats number (record { position = read.position; gone = read.gone; target = Some target; paid = paid })) number
collects_with_target given seats number target paid read below is next =
    let now : Progress = record { position = read.position; gone = read.gone; target = Some target; paid = paid } in
    let here : progress_at (slice_set seats number now) number ≡ now = get_or-set_same seats number now at_begin below in
    record {
      next = record {
        within = next.within;
        there = ap (λ (p : Progress). p.gone) here ∙ ap (λ (p : Progress). p.gone) (sym is) ∙ next.there;
        next = ap (λ (p : Progress). slice_get (script_of given number) p.position) here ∙ ap (λ (p : Progress). slice_get (script_of given number) p.position) (sym is) ∙ next.next;
      };
      begun = λ none. cc (ap (λ (p : Progress). p.target) here, none);
    }

pub finds-paid-requires : goal.finds-paid-requires
finds-paid-requires g c = c.requires.next.within

pub returns-in_err-inner-clause-begun : goal.returns-in_err-inner-clause-begun
returns-in_err-inner-clause-begun g c = on_ok_at_err c.from_residual.result _ c.from_residual.ensures.0

pub returns-in_err-inner-clause-further : goal.returns-in_err-inner-clause-further
returns-in_err-inner-clause-further g c = comes_no_further _ _ c.args.seat (ap (λ (v : LockedValue). v.seats) c.self.view_is) (ap (λ (v : LockedValue). v.over) c.self.view_is)

pub index-progress-requires : goal.index-progress-requires
index-progress-requires g c = omega (arith, c.requires.next.within, c.self.invariant.come.seated)

pub index_mut-requires : goal.index_mut-requires
index_mut-requires g c = omega (arith, c.requires.next.within, c.self.invariant.come.seated)

pub returns-clause-begun : goal.returns-clause-begun
returns-clause-begun g c =
    let seats = c.self.inside.seats.items in
    let below : c.args.seat < length seats = omega (arith, c.requires.next.within, c.self.invariant.come.seated) in
    collects_with_target g.N.Handed.given seats c.args.seat c.next_whole_cycle-target.result c.finds-paid.result c.index-progress.result.now below (read_progress_is_seats seats c.args.seat c.index-progress.result.now below c.index-progress.ensures)
    (subst (λ (v : LockedValue). IsNext g.N.Handed.given v.seats c.args.seat Collect) (sym c.self.view_is) c.requires.next)

pub returns-clause-further : goal.returns-clause-further
returns-clause-further g c =
    let seats = c.self.inside.seats.items in
    let below : c.args.seat < length seats = omega (arith, c.requires.next.within, c.self.invariant.come.seated) in
    let read = read_progress_is_seats seats c.args.seat c.index-progress.result.now below c.index-progress.ensures in
    comes_further_by_set _ _ _ c.args.seat _ c.self.view_is refl refl below (omega (arith, ap (λ (p : Progress). p.position) read)) (omega (arith, ap (λ (p : Progress). p.position) read)) (ap (λ (p : Progress). p.gone) read)

pub inner-requires : goal.inner-requires
inner-requires g c =
    let inside = c.self.inside in
    let next : IsNext g.N.Handed.given inside.seats.items c.args.seat Collect = subst (λ (v : LockedValue). IsNext g.N.Handed.given v.seats c.args.seat Collect) (sym c.self.view_is) c.requires.next in
    record { can = can_begin_inner c.law_every_run.ensures.run g.N.Handed.given inside.recorder inside.seats.items c.args.seat c.self.invariant.run c.self.invariant.come next.within next.there Look tt }

pub invariant_of-self : goal.invariant_of-self
invariant_of-self g c = stands_locked_still g.N.Handed.given _ c.inner.new.self c.self.inside.patience c.self.invariant c.in_err-inner.ensures.still

pub invariant_of-self-2 : goal.invariant_of-self-2
invariant_of-self-2 g c =
    let given = g.N.Handed.given in
    let inside = c.self.inside in
    let old = inside.recorder in
    let seats = inside.seats.items in
    let number = c.args.seat in
    let next : IsNext given seats number Collect = subst (λ (v : LockedValue). IsNext given v.seats number Collect) (sym c.self.view_is) c.requires.next in
    let come = c.self.invariant.come.each number next.within in
    let none = ap (λ (v : LockedValue). (progress_at v.seats number).target) c.self.view_is ∙ c.requires.fresh in
    let makes = c.in_ok-inner.ensures.makes in
    let read = read_progress_is_seats seats number c.index-progress.result.now (omega (arith, next.within, c.self.invariant.come.seated)) c.index-progress.ensures in
    record {
      run = is_run_after_inner given old c.inner.new.self c.self.invariant.run number Look makes;
      come = all_have_come_after_look given old c.inner.new.self seats number c.self.invariant.come _ makes next (record { target = none; first = first_look_is_none (seat_at old.machine.state number).looks.first (progress_at seats number).target none come.target })
          (book_stands_for_run given old c.self.invariant.run c.law_every_run.ensures.run) c.next_whole_cycle-target.result (omega (arith, c.phase.ensures.phase, c.next_whole_cycle-target.ensures.behind))
          (omega (arith, c.phase.ensures.phase, c.next_whole_cycle-target.ensures.first)) refl (ap (λ (p : Progress). p.position) (sym read)) (ap (λ (p : Progress). p.gone) (sym read))
          (c.finds-paid.ensures ∙ ap (λ (v : LockedValue). (seat_at v.recorded.machine.state number).looks.waits) (sym c.self.view_is));
      parted = is_parted_after_progress given c.inner.new.self.history seats number _ c.self.invariant.come.seated next.within (ap (λ (p : Progress). p.gone) (sym read) ∙ next.there);
      patient = c.self.invariant.patient;
    }

pub returns-in_err-inner-clause-owed : goal.returns-in_err-inner-clause-owed
returns-in_err-inner-clause-owed g c = owes_no_more_untold _ _ _ c.self.view_is c.in_err-inner.ensures.still.history_stays refl

pub returns-clause-owed : goal.returns-clause-owed
returns-clause-owed g c = owes_no_more_after_inner _ _ _ c.args.seat _ c.self.view_is c.in_ok-inner.ensures.makes refl
