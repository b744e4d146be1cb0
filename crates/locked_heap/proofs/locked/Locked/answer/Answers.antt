use Rattle.std.proofs.lemmas.Result.{on_ok_weaker}
use Rattle.core_machine.specs.machine.Machine.{seat_at}
use Rattle.locked_heap.specs.Progress.{progress_at}
use Rattle.locked_heap.proofs.Coming.{first_look_up_to_target}
use Rattle.locked_heap.proofs.locked.Locked.answer.Goals as goal

pub saw_end-requires : goal.saw_end-requires
saw_end-requires g c = c.requires.next.within

pub note-requires-clause-next : goal.note-requires-clause-next
note-requires-clause-next g c = c.requires.next

pub note-requires-clause-found : goal.note-requires-clause-found
note-requires-clause-found g c =
    let locked = c.args.self.now in
    (first_look_up_to_target (seat_at locked.recorded.machine.state c.args.seat).looks.first (progress_at locked.seats c.args.seat).target c.args.target c.requires.target (c.known.ensures.come.each c.args.seat c.requires.next.within).target, c.saw_end.ensures.0 c.if-saw_end.true)

pub returns-then-saw_end-clause-ended : goal.returns-then-saw_end-clause-ended
returns-then-saw_end-clause-ended g c = on_ok_weaker c.note.result (λ tells _. tells) c.note.ensures.answers

pub returns-then-saw_end-clause-waits : goal.returns-then-saw_end-clause-waits
returns-then-saw_end-clause-waits g c = on_ok_weaker c.note.result (λ _ not. absurd (not (c.saw_end.ensures.0 c.if-saw_end.true))) c.note.ensures.answers

pub returns-then-saw_end-clause-further : goal.returns-then-saw_end-clause-further
returns-then-saw_end-clause-further g c = c.note.ensures.further

pub returns-then-saw_end-clause-owed : goal.returns-then-saw_end-clause-owed
returns-then-saw_end-clause-owed g c = c.note.ensures.owed

pub note_wait-requires : goal.note_wait-requires
note_wait-requires g c = c.requires.next

pub returns-clause-ended : goal.returns-clause-ended
returns-clause-ended g c = on_ok_weaker c.note_wait.result (λ _ seen. absurd (cc (c.saw_end.ensures.1 seen, c.if-saw_end.false))) c.note_wait.ensures.answers

pub returns-clause-waits : goal.returns-clause-waits
returns-clause-waits g c = on_ok_weaker c.note_wait.result (λ waits _. waits) c.note_wait.ensures.answers

pub returns-clause-further : goal.returns-clause-further
returns-clause-further g c = c.note_wait.ensures.further

pub returns-clause-owed : goal.returns-clause-owed
returns-clause-owed g c = c.note_wait.ensures.owed
