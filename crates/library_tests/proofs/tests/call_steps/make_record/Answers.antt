use Rattle.library_tests.proofs.CallSteps.{begun_record_begins_gathering}
use Rattle.library_tests.proofs.tests.call_steps.make_record.Goals as goal

pub gather-requires-clause-begins : goal.gather-requires-clause-begins
gather-requires-clause-begins g =
    begun_record_begins_gathering g.room.new.self g.begin.new.self 1 g.args.fields g.args.need g.kept-reserve.result.fragments.items g.kept-reserve.result.cursor g.party.ensures.sound
    (g.may_begin.ensures.0 g.if-not-may_begin.false) g.begin.ensures g.kept-reserve.ensures.fragments g.kept-reserve.ensures.cursor g.requires.need
