use Rattle.std.proofs.Common.{true, false}
use Rattle.heap_queue.proofs.ServingParts.{looks_more}
use Rattle.heap_queue.proofs.finding.find_queue.Goals as goal

pub returns-then-branch : goal.returns-then-branch
returns-then-branch g c = looks_more c.in_ok-look_for_queue.field-0 true c.if-branch.true c.loop.invariant c.in_ok-look_for_queue.ensures

pub loop-preserved : goal.loop-preserved
loop-preserved g c = looks_more c.in_ok-look_for_queue.field-0 false c.if-branch.false c.loop.invariant c.in_ok-look_for_queue.ensures
