use Rattle.std.proofs.Common.{sym, subst}
use Rattle.heap_runs.specs.MachineHeap.{run_state_of}
use Rattle.heap_runs.specs.PlayHeap.{MayCall, AnswersOnce}
use Rattle.heap_record.specs.Recorded.{Recorded}
use Rattle.heap_runs.proofs.Between.{between_after_call}
use Rattle.heap_runs.proofs.Calling.{call_answers_once, callable_may_begin}
use Rattle.heap_runs.proofs.Noting.{notes_rightly_after_call}
use Rattle.heap_runs.proofs.Standing.{book_stands_for_run}
use Rattle.heap_runs.proofs.machine_heap.MachineHeap.call_once.Goals as goal

pub call-requires : goal.call-requires
call-requires c =
    let old = c.self.inside.recorder in
    let may = subst (λ (v : Recorded). MayCall (run_state_of v) c.args.seat c.args.command.now) (sym c.self.view_is) c.requires.may in
    record { can = callable_may_begin old c.args.seat c.args.command.now c.requires.once (book_stands_for_run c.law_every_run.ensures.run old.machine.heap old.machine.state old.history c.self.invariant.0) c.self.invariant.0 may }

pub invariant_of-self-2 : goal.invariant_of-self-2
invariant_of-self-2 c =
    let old = c.self.inside.recorder in
    let new = c.call.new.self in
    let makes = c.in_ok-reply.ensures.makes in
    (between_after_call old new c.self.invariant.0 c.args.seat c.args.command.now _ makes, notes_rightly_after_call old new c.self.invariant.1 c.args.seat c.args.command.now _ makes)

pub returns-clause-answers : goal.returns-clause-answers
returns-clause-answers c =
    let law = c.law_every_run.ensures in
    let old = c.self.inside.recorder in
    let may = subst (λ (v : Recorded). MayCall (run_state_of v) c.args.seat c.args.command.now) (sym c.self.view_is) c.requires.may in
    subst (λ (v : Recorded). AnswersOnce (run_state_of v) (run_state_of c.call.new.self) c.args.seat c.args.command.now c.in_ok-reply.reply) c.self.view_is
    (call_answers_once law.free law.words old c.call.new.self c.args.seat c.args.command.now _ (book_stands_for_run law.run old.machine.heap old.machine.state old.history c.self.invariant.0) c.self.invariant.0 may c.in_ok-reply.ensures.makes)
