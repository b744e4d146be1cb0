use Rattle.std.proofs.Common.{arith, ◌∙◌}
use Rattle.core_machine.proofs.machine_lemmas.Opens.{put_leaves_one_more}
use Rattle.core_machine.proofs.machine.opening.leave_without_seats.Goals as goal

pub loop-number-preserved : goal.loop-number-preserved
loop-number-preserved c = record {
  table = c.store.ensures.table ∙ c.loop-number.invariant.table;
  left = λ a within. rw c.store.ensures.put (put_leaves_one_more c.args.heap.now c.loop-number.words c.loop-number.number a _ c.loop-number.invariant.table (omega arith) c.loop-number-test.true within (c.loop-number.invariant.left a within));
}
