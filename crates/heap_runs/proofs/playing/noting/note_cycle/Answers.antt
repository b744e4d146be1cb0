use Rattle.heap_runs.specs.PlayHeap.{PlayState}
use Rattle.heap_runs.proofs.LastCycle.{notes_cycle_unhindered}
use Rattle.heap_runs.proofs.playing.noting.note_cycle.Goals as goal

pub returns : goal.returns
returns g c =
    let old : PlayState = g.H.PlayHeap.state c.args.whole.now in
    let new : PlayState = g.H.PlayHeap.state c.end_cycle.new.whole in
    record { notes = notes_cycle_unhindered old new c.in_ok-end_cycle.field-0 c.requires.gone c.in_ok-end_cycle.ensures }
