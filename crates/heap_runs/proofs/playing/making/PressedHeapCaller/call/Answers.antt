use Rattle.heap_runs.specs.PlayHeap.{PlayState}
use Rattle.heap_runs.proofs.PressCalls.{adds_call_of_play}
use Rattle.heap_runs.proofs.playing.making.PressedHeapCaller.call.Goals as goal

pub returns-clause-adds : goal.returns-clause-adds
returns-clause-adds g c =
    let old : PlayState = g.H.PlayHeap.state c.args.self.now.whole in
    let new : PlayState = g.H.PlayHeap.state c.call.new.self in
    adds_call_of_play old new c.args.seat c.args.command.now c.in_ok-reply.reply c.in_ok-reply.ensures.answers
