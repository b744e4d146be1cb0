use Rattle.heap_runs.specs.PlayHeap.{PlayState}
use Rattle.heap_runs.proofs.Serving.{served_reply_shows}
use Rattle.heap_runs.proofs.playing.noting.note_turns.Goals as goal

pub note_turned-requires : goal.note_turned-requires
note_turned-requires g c =
    let old : PlayState = g.H.PlayHeap.state c.args.whole.now in
    let now : PlayState = g.H.PlayHeap.state c.turn_line.new.whole in
    record { shows = served_reply_shows old now c.args.command.now c.in_ok-reply.reply c.in_ok-reply.ensures }

pub returns : goal.returns
returns g c = record {
  notes = record {
    reply = c.in_ok-reply.reply;
    now = g.H.PlayHeap.state c.turn_line.new.whole;
    serves = c.in_ok-reply.ensures;
    noted = c.in_ok-note_turned.ensures.noted;
  };
}
