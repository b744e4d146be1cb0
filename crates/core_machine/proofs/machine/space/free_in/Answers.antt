use Rattle.std.proofs.Common.{◌≡◌, ℕ, ◌+◌, length, sym, ap, ◌∙◌, arith}
use Rattle.core_machine.proofs.Terms.{Control, clear_in, at}
use Rattle.core_machine.specs.machine.Sums.{sum_upto}
use Rattle.core_machine.proofs.table_lemmas.Free.{sum_upto-none, sum_upto-more}
use Rattle.core_machine.proofs.machine.space.free_in.Goals as goal

pub loop-group-init : goal.loop-group-init
loop-group-init c = record { counted = sym (sum_upto-none _); few = omega arith }

pub loop-group-preserved : goal.loop-group-preserved
unfolding at
loop-group-preserved c =
    let group = c.loop-group.group in
    let words = c.args.words.now in
    let clear = λ (g : ℕ). length (clear_in g (at c.args.heap.now words (Control g))) in
    let count : c.count_clear-free.result ≡ clear group = c.count_clear-free.ensures.count group ∙ ap (λ (word : ℕ). length (clear_in group word)) c.load-word.ensures in
    record {
      counted = ap (λ (n : ℕ). n + c.count_clear-free.result) c.loop-group.invariant.counted ∙ ap (λ (n : ℕ). sum_upto group clear + n) count ∙ sym (sum_upto-more group clear);
      few = omega (arith, c.loop-group.invariant.few, c.count_clear-free.ensures.few);
    }
