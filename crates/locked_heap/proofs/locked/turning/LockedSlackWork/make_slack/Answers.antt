use Rattle.std.proofs.Common.{inr, refl, sym, ap, subst}
use Rattle.locked_heap.specs.Locked.{LockedValue, SomeAreThere}
use Rattle.heap_record.specs.Recorded.{StandsStill}
use Rattle.locked_heap.proofs.Parting.{stands_locked_still}
use Rattle.locked_heap.proofs.Slacking.{makes_slack_as_asked}
use Rattle.locked_heap.proofs.TurnsStand.{turns_on_after_slack, stands_locked_after_turns}
use Rattle.locked_heap.proofs.locked.turning.LockedSlackWork.make_slack.Goals as goal

pub invariant_of-self : goal.invariant_of-self
invariant_of-self g c = stands_locked_still g.N.Handed.given _ c.room.new.self c.self.inside.patience c.self.invariant c.room.ensures.still

pub invariant_of-self-2 : goal.invariant_of-self-2
invariant_of-self-2 g c =
    let inside = c.self.inside in
    let on = turns_on_after_slack c.slack.result.made inside.recorder c.room.new.self c.slack.new.collector c.room.ensures.still c.slack.ensures.each in
    stands_locked_after_turns g.N.Handed.given _ c.slack.new.collector 0 inside.patience c.self.invariant on (subst (λ (v : LockedValue). SomeAreThere g.N.Handed.given v.seats) (sym c.self.view_is) (λ all. c.requires (inr all)))

pub returns-clause-slack : goal.returns-clause-slack
returns-clause-slack g c =
    let done = c.slack.ensures in
    let is = c.self.view_is in
    let owed = ap (λ (v : LockedValue). v.owed) is in
    makes_slack_as_asked _ c.slack.result.asked c.slack.result.made c.slack.result.last c.room.new.self c.args.self.now _ (cc (done.asked, owed)) (subst (λ (v : LockedValue). StandsStill v.recorded c.room.new.self) is c.room.ensures.still) done.most
    done.each done.fewer done.last (ap (λ (v : LockedValue). v.seats) is) (ap (λ (v : LockedValue). v.over) is) refl

pub returns-clause-slackened : goal.returns-clause-slackened
returns-clause-slackened g c = (_, returns-clause-slack g c)
