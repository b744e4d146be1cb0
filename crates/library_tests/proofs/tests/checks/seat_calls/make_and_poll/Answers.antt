use Rattle.std.proofs.Common.{◌∙◌, arith}
use Rattle.library_tests.proofs.tests.checks.seat_calls.make_and_poll.Goals as goal

pub poll_often-requires-clause-present : goal.poll_often-requires-clause-present
poll_often-requires-clause-present g c =
    (c.seat_laws.ensures.counts _ _ _ _ c.new_record.ensures.added).present_stays (λ same. cc) ∙ c.requires.present

pub poll_often-requires-clause-room : goal.poll_often-requires-clause-room
poll_often-requires-clause-room g c =
    omega (arith, c.seat_laws.ensures.room _ _ _ _ c.new_record.ensures.added, c.requires.room)
