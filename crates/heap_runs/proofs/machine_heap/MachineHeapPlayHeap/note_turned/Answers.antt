use Rattle.std.proofs.Common.{sym, subst}
use Rattle.heap_model.specs.account.Phases.{TurnShows}
use Rattle.heap_record.specs.Recorded.{Recorded}
use Rattle.heap_runs.specs.MachineHeap.{IsBetweenCalls, NotesRightly}
use Rattle.heap_runs.proofs.Noting.{notes_rightly_after_turned}
use Rattle.heap_runs.proofs.machine_heap.MachineHeapPlayHeap.note_turned.Goals as goal

pub invariant_of-self : goal.invariant_of-self
invariant_of-self c = subst (λ (v : Recorded). IsBetweenCalls v.machine.heap v.machine.state v.history × NotesRightly v) (sym c.in_err-note.ensures.still) c.self.invariant

pub invariant_of-self-2 : goal.invariant_of-self-2
invariant_of-self-2 c =
    let old = c.self.inside.recorder in
    let new = c.note.new.self in
    let is = c.in_ok-note.ensures.noted in
    let shows = subst (λ (v : Recorded). TurnShows v.machine.heap v.listed c.args.reply) (sym c.self.view_is) c.requires.shows in
    (subst (λ (v : Recorded). IsBetweenCalls v.machine.heap v.machine.state v.history) (sym is) c.self.invariant.0, notes_rightly_after_turned old new c.self.invariant.1 c.args.command c.args.reply is shows)
