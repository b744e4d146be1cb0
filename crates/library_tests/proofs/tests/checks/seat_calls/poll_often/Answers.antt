use Rattle.std.proofs.Common.{◌∙◌, arith}
use Rattle.library_tests.proofs.tests.checks.seat_calls.poll_often.Goals as goal

pub loop-i-preserved : goal.loop-i-preserved
loop-i-preserved g c =
    let law = c.seat_laws.ensures in
    record {
      present = (law.counts _ _ _ _ c.poll.ensures).present_stays (λ same. cc) ∙ c.loop-i.invariant.present;
      room = omega (arith, law.room _ _ _ _ c.poll.ensures, c.loop-i.invariant.room);
    }
