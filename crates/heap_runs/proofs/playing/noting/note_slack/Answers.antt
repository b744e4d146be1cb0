use Rattle.heap_runs.specs.PlayHeap.{PlayState}
use Rattle.heap_runs.proofs.Slacking.{notes_slack_after_room}
use Rattle.heap_runs.proofs.playing.noting.note_slack.Goals as goal

pub returns : goal.returns
returns g c =
    let old : PlayState = g.H.PlayHeap.state c.args.whole in
    let now : PlayState = g.H.PlayHeap.state c.room.new.self in
    let new : PlayState = g.H.PlayHeap.state c.make_slack-whole.result.0 in
    let done = c.make_slack-whole.result.1 in
    let slack = c.make_slack-whole.ensures in
    record { notes = notes_slack_after_room _ old now new done.made done.asked done.last c.in_ok-room.ensures.same slack.adds slack.asked slack.most slack.fewer slack.counted slack.last }
