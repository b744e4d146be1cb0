use Rattle.std.proofs.Common.{arith}
use Rattle.std.proofs.lemmas.Grind.{common_steps}
use Rattle.io_edge.proofs.Readings.{LosesNext-append, LosesUpTo-append}
use Rattle.io_edge.proofs.reading.read_all.Goals as goal

pub returns-in_err-extend_from_slice-clause-memory :
    goal.returns-in_err-extend_from_slice-clause-memory
returns-in_err-extend_from_slice-clause-memory g c =
    λ _. LosesUpTo-append _ _ _ _ _ _ _ c.loop-bytes.invariant.taken c.in_ok-n.ensures.ok.next
    c.in_ok-n.ensures.ok.within (grind (arith, common_steps))

pub returns-then-room-n-clause-too_long : goal.returns-then-room-n-clause-too_long
returns-then-room-n-clause-too_long g c =
    λ _. LosesNext-append _ _ _ _ _ _ _ c.loop-bytes.invariant.taken c.in_ok-n.ensures.ok.next
    c.in_ok-n.ensures.ok.within (grind (arith, common_steps))
