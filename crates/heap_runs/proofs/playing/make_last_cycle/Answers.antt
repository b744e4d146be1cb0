use Rattle.std.proofs.Common.{◌≡◌, arith}
use Rattle.heap_model.specs.account.PhaseCounts.{phase}
use Rattle.heap_runs.specs.PlayHeap.{PlayState}
use Rattle.heap_runs.specs.Playing.{NotesCycle}
use Rattle.heap_runs.proofs.LastCycle.{all_stay_left, last_cycle_from_rest, last_cycle_behind_current}
use Rattle.heap_runs.proofs.playing.make_last_cycle.Goals as goal
use Rattle.heap_runs.proofs.playing.make_last_cycle.Goals.{then-phase-ne-REST+in_ok-note_cycle, else-phase-ne-REST}

pub note_cycle-requires-2 : goal.note_cycle-requires-2
note_cycle-requires-2 g c =
    let old : PlayState = g.H.PlayHeap.state c.args.whole.now in
    elim c.if-phase-ne-REST.branch [
      | then-phase-ne-REST+in_ok-note_cycle w ↦
          let notes = w.in_ok-note_cycle.ensures.notes in
          rw w.whole-is (record { gone = all_stay_left old (g.H.PlayHeap.state w.note_cycle.new.whole) notes.turned notes.same_heap notes.told c.requires.gone })
      | else-phase-ne-REST w ↦ rw w.whole-is (record { gone = c.requires.gone })
    ]

pub returns : goal.returns
returns g c =
    let old : PlayState = g.H.PlayHeap.state c.args.whole.now in
    let new : PlayState = g.H.PlayHeap.state c.note_cycle-2.new.whole in
    let begun : c.phase.result ≡ phase old.entries = c.phase.ensures.phase in
    let next = c.in_ok-note_cycle-2.ensures.notes in
    elim c.if-phase-ne-REST.branch [
      | then-phase-ne-REST+in_ok-note_cycle w ↦
          let now : PlayState = g.H.PlayHeap.state w.note_cycle.new.whole in
          let then_ : NotesCycle now new = rw (← w.whole-is) next in
          record { notes = last_cycle_behind_current old now new (λ at_rest. w.if-phase-ne-REST.true (omega (arith, begun, at_rest))) w.in_ok-note_cycle.ensures.notes then_ }
      | else-phase-ne-REST w ↦
          let only : NotesCycle old new = rw (← w.whole-is) next in
          record { notes = last_cycle_from_rest old new (omega (arith, begun, w.if-phase-ne-REST.false)) only }
    ]
