use Rattle.std.proofs.Common.{◌≡◌, true, length, All, IfOk, ◌∷◌, ◌++◌, [], arith, ap, subst, sym}
use Rattle.std.specs.declared.result.Result.{Result}
use Rattle.std.proofs.lemmas.List.{length-append}
use Rattle.std.proofs.lemmas.List.Elements.{All-append, All-cons, All-head, All-nil, All-tail}
use Rattle.heap_model.specs.declared.fault.Memory.{Memory}
use Rattle.locked_heap.specs.declared.progress.Progress.{Progress}
use Rattle.locked_heap.proofs.working.work_seats.Goals as goal

pub loop-progress-preserved : goal.loop-progress-preserved
loop-progress-preserved g c =
    let Left : Progress → Type 0 = λ progress. progress.gone ≡ true in
    let Comes : Result Progress Memory → Type 0 = λ came. IfOk came (λ (progress : Progress). progress.gone ≡ true) in
    let one = c.in_ok-progress.field-0 in
    let before = c.loop-progress.came.items in
    let more = c.next.new.self.rest.items in
    let steps : c.loop-progress.progress-iterator.rest.items ≡ c.in-Some.progress ∷ more = c.in-Some.ensures.steps.0 in
    let pushed : c.push.new.self.items ≡ before ++ one ∷ [] = c.in_ok-push.ensures.items in
    let all : All Comes (c.in-Some.progress ∷ more) = subst (All Comes) steps c.loop-progress.invariant.others in
    let left : Left one = subst Comes c.in_ok-progress.was (All-head Comes c.in-Some.progress more all) in
    record {
      each_once = omega (arith, ap length pushed, length-append before (one ∷ []), ap length steps, c.loop-progress.invariant.each_once);
      gone = subst (All Left) (sym pushed) (All-append Left before (one ∷ []) c.loop-progress.invariant.gone (All-cons Left one [] left (All-nil Left)));
      others = All-tail Comes c.in-Some.progress more all;
    }
