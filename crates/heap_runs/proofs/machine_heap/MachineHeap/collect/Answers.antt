use Rattle.std.proofs.Common.{sym, subst}
use Rattle.heap_model.specs.account.PhaseCounts.{phase}
use Rattle.heap_model.specs.declared.calls.collect.Inner.{Inner}
use Rattle.heap_model.specs.declared.reply.Reply.{Reply}
use Rattle.core_machine.specs.seat.Looks.{FirstUpTo}
use Rattle.heap_record.specs.Recorded.{MakesInner, Recorded}
use Rattle.heap_runs.specs.MachineHeap.{run_state_of}
use Rattle.heap_runs.specs.PlayHeap.{AnswersCollect}
use Rattle.heap_runs.proofs.Noted.{first_look_up_to_phase, seat_may_note, machine_collects, note_answers_collect}
use Rattle.heap_runs.proofs.Standing.{book_stands_for_run}
use Rattle.heap_runs.proofs.machine_heap.MachineHeap.collect.Goals as goal

pub make_inner-requires-3 : goal.make_inner-requires-3
make_inner-requires-3 c =
    let runs = c.law_every_run.ensures.run in
    let start : Recorded = c.args.self.now in
    let one : Recorded = c.make_inner.new.self in
    let two : Recorded = c.end_whole.new.self in
    let three : Recorded = c.make_inner-2.new.self in
    let number = c.args.seat in
    let whole = c.in_ok-came.ensures.ends in
    let sees = subst (λ (inner : Inner). MakesInner two three number inner) c.seen_by.ensures c.in_ok-make_inner-2.ensures.makes in
    let first = first_look_up_to_phase start one number (book_stands_for_run runs start.machine.heap start.machine.state start.history c.known.ensures) c.known.ensures c.requires.present c.in_ok-make_inner.ensures.makes in
    let upto = subst (λ f. FirstUpTo f (phase one.history)) (sym whole.ends.goes.first_stays) first in
    record {
      may = seat_may_note two three number (phase one.history) (book_stands_for_run runs two.machine.heap two.machine.state two.history c.known-3.ensures) (book_stands_for_run runs three.machine.heap three.machine.state three.history c.known-4.ensures)
          c.known-4.ensures whole.ends.goes.present upto c.in_ok-came.came sees whole.ends.comes (λ cycle is. (whole.first cycle is).0);
    }

pub returns-clause-answers : goal.returns-clause-answers
returns-clause-answers c =
    let two : Recorded = c.end_whole.new.self in
    let three : Recorded = c.make_inner-2.new.self in
    let sees = subst (λ (inner : Inner). MakesInner two three c.args.seat inner) c.seen_by.ensures c.in_ok-make_inner-2.ensures.makes in
    subst (λ (reply : Reply). AnswersCollect (run_state_of c.args.self.now) (run_state_of c.make_inner-3.new.self) c.args.seat reply) (sym c.noted.ensures)
    (note_answers_collect c.args.self.now c.make_inner.new.self two three c.make_inner-3.new.self c.args.seat c.in_ok-came.came c.in_ok-make_inner.ensures.makes c.in_ok-came.ensures.ends sees c.in_ok-make_inner-3.ensures.makes)

pub returns-clause-machine : goal.returns-clause-machine
returns-clause-machine c =
    let two : Recorded = c.end_whole.new.self in
    let three : Recorded = c.make_inner-2.new.self in
    let sees = subst (λ (inner : Inner). MakesInner two three c.args.seat inner) c.seen_by.ensures c.in_ok-make_inner-2.ensures.makes in
    machine_collects c.args.self.now c.make_inner.new.self two three c.make_inner-3.new.self c.args.seat c.in_ok-came.came c.in_ok-make_inner.ensures.makes c.in_ok-came.ensures.ends sees c.in_ok-make_inner-3.ensures.makes
