use Rattle.std.proofs.Common.{◌≡◌, ◌≤◌, ◌∷◌, ◌++◌, [], Vec, Global, length, All, arith, ap, subst, sym}
use Rattle.std.proofs.lemmas.List.{length-append}
use Rattle.std.proofs.lemmas.List.Elements.{All-nil, All-push}
use Rattle.heap_model.specs.declared.command.Command.{Command}
use Rattle.heap_runs.specs.SeatWork.{IsOfScript}
use Rattle.run_tests.proofs.tests.orders.scripts.scripts_from.Goals as goal

pub loop-number-init : goal.loop-number-init
loop-number-init c =
    let Short : Vec Command Global → Type 0 = λ script. length script.items ≤ 20 in
    let Each : Vec Command Global → Type 0 = λ script. All IsOfScript script.items in
    let none : c.new-scripts.result.items ≡ [] = c.new-scripts.ensures.items in
    record {
      seated = ap length none;
      short = subst (All Short) (sym none) (All-nil Short);
      each = subst (All Each) (sym none) (All-nil Each);
    }

pub loop-number-preserved : goal.loop-number-preserved
loop-number-preserved c =
    let Short : Vec Command Global → Type 0 = λ script. length script.items ≤ 20 in
    let Each : Vec Command Global → Type 0 = λ script. All IsOfScript script.items in
    let one = c.in_ok-script.script in
    let before = c.loop-number.scripts.items in
    let made = c.in_ok-script.ensures in
    let pushed : c.push.new.self.items ≡ before ++ one ∷ [] = c.in_ok-push.ensures.items in
    record {
      seated = omega (arith, ap length pushed, length-append before (one ∷ []), c.loop-number.invariant.seated);
      short = subst (All Short) (sym pushed) (All-push Short before one c.loop-number.invariant.short made.short);
      each = subst (All Each) (sym pushed) (All-push Each before one c.loop-number.invariant.each made.each);
    }
