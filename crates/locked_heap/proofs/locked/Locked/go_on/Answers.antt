use Rattle.std.proofs.Common.{rules, ◌≡◌, ◌<◌, List, length, Some, refl, sym, ap, subst, ◌∙◌, arith}
use Rattle.std.specs.Prelude.{slice_get, slice_index_or}
use Rattle.std.proofs.lemmas.Option.{slice_get_read}
use Rattle.std.proofs.lemmas.Result.{IfOk-from_err}
use Rattle.heap_model.specs.declared.command.Command.{Command}
use Rattle.locked_heap.specs.declared.progress.Progress.{Progress}
use Rattle.locked_heap.specs.Given.{script_of}
use Rattle.locked_heap.specs.Locked.{LockedValue, SeatHasLeft, ComesOneFurther, OwesMore}
use Rattle.locked_heap.specs.Progress.{progress_at}
use Rattle.locked_heap.proofs.Owing.{owes_no_more_untold, owes_more_by_nothing}
use Rattle.locked_heap.proofs.Parting.{comes_no_further}
use Rattle.locked_heap.proofs.Returning.{on_ok_at_err}
use Rattle.locked_heap.proofs.locked.Locked.go_on.Goals as goal
use Rattle.locked_heap.proofs.locked.Locked.go_on.Goals.{in-None+in_ok-leave-in-None, in-Some-Collect+in_ok-collect-in-Some-Collect, in-Some+in_ok-call-in-Some}

-- the command that was read is the script's next
next_is_read : (read script : List Command) (came progress : Progress) (found : Command) → read ≡ script → came ≡ progress → came.position < length read → found ≡ slice_index_or read came.position found
    → slice_get script progress.position ≡ Some found
next_is_read read script came progress found same is below here =
    subst (λ (s : List Command). slice_get s progress.position ≡ Some found) same
    (subst (λ (p : Progress). slice_get read p.position ≡ Some found) is (slice_get_read read (length read) came.position found refl below here))

-- where it was one the script isn't through
not_through : (P : Type 0) (read script : List Command) (came progress : Progress) → read ≡ script → came ≡ progress → came.position < length read → progress.position ≡ length script → P
not_through P read script came progress same is below through = absurd (omega (arith, ap (length {A = Command}) same, ap (λ (p : Progress). p.position) is, below, through))

pub progress-progress-requires : goal.progress-progress-requires
progress-progress-requires g c = c.requires.within

pub returns-then-progress-clause-progress : goal.returns-then-progress-clause-progress
returns-then-progress-clause-progress g c = c.progress-progress.ensures

pub returns-then-progress-clause-further : goal.returns-then-progress-clause-further
returns-then-progress-clause-further g c = comes_no_further c.args.self.now c.args.self.now c.args.seat refl refl

pub returns-then-progress-clause-leaves : goal.returns-then-progress-clause-leaves
returns-then-progress-clause-leaves g c _ = ap (λ (p : Progress). p.gone) (sym c.progress-progress.ensures) ∙ c.if-progress.true

pub returns-then-progress-clause-owes : goal.returns-then-progress-clause-owes
returns-then-progress-clause-owes g c =
    let locked = c.args.self.now in
    owes_more_by_nothing locked locked (owes_no_more_untold locked locked locked refl refl refl) c.known.ensures.owed

pub get-requires : goal.get-requires
get-requires g c κs = (refl, tt)

pub leave-requires-clause-within : goal.leave-requires-clause-within
leave-requires-clause-within g c = c.requires.within

pub leave-requires-clause-there : goal.leave-requires-clause-there
leave-requires-clause-there g c = ap (λ (p : Progress). p.gone) (sym c.progress-progress.ensures) ∙ c.if-progress.false

pub leave-requires-clause-through : goal.leave-requires-clause-through
leave-requires-clause-through g c =
    omega (arith, ap (length {A = Command}) c.requires.script, ap (λ (p : Progress). p.position) c.progress-progress.ensures, c.in-None.ensures.lookup.3, (c.known.ensures.come.each c.args.seat c.requires.within).within)

pub returns-in_err-leave-in-None-clause-progress : goal.returns-in_err-leave-in-None-clause-progress
returns-in_err-leave-in-None-clause-progress g c = IfOk-from_err c.from_residual.result _ c.from_residual.ensures.0

pub returns-in_err-leave-in-None-clause-further : goal.returns-in_err-leave-in-None-clause-further
returns-in_err-leave-in-None-clause-further g c = c.leave.ensures.further

pub returns-in_err-leave-in-None-clause-leaves : goal.returns-in_err-leave-in-None-clause-leaves
returns-in_err-leave-in-None-clause-leaves g c = on_ok_at_err c.from_residual.result _ c.from_residual.ensures.0

pub returns-in_err-leave-in-None-clause-owes : goal.returns-in_err-leave-in-None-clause-owes
returns-in_err-leave-in-None-clause-owes g c = owes_more_by_nothing c.args.self.now c.leave.new.self c.leave.ensures.owed c.known.ensures.owed

pub collect-requires : goal.collect-requires
collect-requires g c = record {
  within = c.requires.within;
  there = ap (λ (p : Progress). p.gone) (sym c.progress-progress.ensures) ∙ c.if-progress.false;
  next = subst (λ (o : Command). slice_get (script_of g.N.Handed.given c.args.seat) (progress_at c.args.self.now.seats c.args.seat).position ≡ Some o) c.in-Some-Collect.field-0-is
      (next_is_read c.args.script.now _ c.progress-progress.result _ c.in-Some-Collect.field-0.now c.requires.script c.progress-progress.ensures c.in-Some-Collect.ensures.lookup.3.0 c.in-Some-Collect.ensures.lookup.1);
}

pub returns-in_err-collect-in-Some-Collect-clause-progress : goal.returns-in_err-collect-in-Some-Collect-clause-progress
returns-in_err-collect-in-Some-Collect-clause-progress g c = IfOk-from_err c.from_residual-in_err-collect-in-Some-Collect.result _ c.from_residual-in_err-collect-in-Some-Collect.ensures.0

pub returns-in_err-collect-in-Some-Collect-clause-further : goal.returns-in_err-collect-in-Some-Collect-clause-further
returns-in_err-collect-in-Some-Collect-clause-further g c = c.collect.ensures.further

pub returns-in_err-collect-in-Some-Collect-clause-leaves : goal.returns-in_err-collect-in-Some-Collect-clause-leaves
returns-in_err-collect-in-Some-Collect-clause-leaves g c = on_ok_at_err c.from_residual-in_err-collect-in-Some-Collect.result _ c.from_residual-in_err-collect-in-Some-Collect.ensures.0

pub returns-in_err-collect-in-Some-Collect-clause-owes : goal.returns-in_err-collect-in-Some-Collect-clause-owes
returns-in_err-collect-in-Some-Collect-clause-owes g c = owes_more_by_nothing c.args.self.now c.collect.new.self c.collect.ensures.owed c.known.ensures.owed

pub call-requires : goal.call-requires
call-requires g c = record {
  next = record {
    within = c.requires.within;
    there = ap (λ (p : Progress). p.gone) (sym c.progress-progress.ensures) ∙ c.if-progress.false;
    next = next_is_read c.args.script.now _ c.progress-progress.result _ c.in-Some.command.now c.requires.script c.progress-progress.ensures c.in-Some.ensures.lookup.3.0 c.in-Some.ensures.lookup.1;
  };
  once = search rules;
}

pub returns-in_err-call-in-Some : goal.returns-in_err-call-in-Some
returns-in_err-call-in-Some g c = record {
  progress = IfOk-from_err c.from_residual-in_err-call-in-Some.result _ c.from_residual-in_err-call-in-Some.ensures.0;
  further = c.call.ensures.further;
  leaves = on_ok_at_err c.from_residual-in_err-call-in-Some.result _ c.from_residual-in_err-call-in-Some.ensures.0;
  owes = owes_more_by_nothing c.args.self.now c.call.new.self c.in_err-call-in-Some.ensures.still c.known.ensures.owed;
}

pub progress-requires : goal.progress-requires
progress-requires g c = c.requires.within

pub returns-clause-progress : goal.returns-clause-progress
returns-clause-progress g c = c.progress.ensures

pub returns-clause-further : goal.returns-clause-further
returns-clause-further g c = elim c.match-get.branch [
  | in-None+in_ok-leave-in-None w ↦ subst (λ (v : LockedValue). ComesOneFurther c.args.self.now v c.args.seat) (sym w.self-is) w.leave.ensures.further
  | in-Some-Collect+in_ok-collect-in-Some-Collect w ↦ subst (λ (v : LockedValue). ComesOneFurther c.args.self.now v c.args.seat) (sym w.self-is) w.collect.ensures.further
  | in-Some+in_ok-call-in-Some w ↦ subst (λ (v : LockedValue). ComesOneFurther c.args.self.now v c.args.seat) (sym w.self-is) w.call.ensures.further
]

pub returns-clause-leaves : goal.returns-clause-leaves
returns-clause-leaves g c through = elim c.match-get.branch [
  | in-None+in_ok-leave-in-None w ↦ subst (λ (v : LockedValue). SeatHasLeft v.seats c.args.seat) (sym w.self-is) w.in_ok-leave-in-None.ensures.left
  | in-Some-Collect+in_ok-collect-in-Some-Collect w ↦ not_through _ c.args.script.now _ c.progress-progress.result _ c.requires.script c.progress-progress.ensures w.in-Some-Collect.ensures.lookup.3.0 through
  | in-Some+in_ok-call-in-Some w ↦ not_through _ c.args.script.now _ c.progress-progress.result _ c.requires.script c.progress-progress.ensures w.in-Some.ensures.lookup.3.0 through
]

pub returns-clause-owes : goal.returns-clause-owes
returns-clause-owes g c = elim c.match-get.branch [
  | in-None+in_ok-leave-in-None w ↦ subst (λ (v : LockedValue). OwesMore c.args.self.now v) (sym w.self-is) (owes_more_by_nothing c.args.self.now _ w.leave.ensures.owed c.known.ensures.owed)
  | in-Some-Collect+in_ok-collect-in-Some-Collect w ↦ subst (λ (v : LockedValue). OwesMore c.args.self.now v) (sym w.self-is) (owes_more_by_nothing c.args.self.now _ w.collect.ensures.owed c.known.ensures.owed)
  | in-Some+in_ok-call-in-Some w ↦ subst (λ (v : LockedValue). OwesMore c.args.self.now v) (sym w.self-is) w.in_ok-call-in-Some.ensures.owes
]
