use Rattle.std.proofs.Common.{sym, subst}
use Rattle.heap_runs.specs.MachineHeap.{play_state_of, run_state_of}
use Rattle.heap_runs.specs.PlayHeap.{PlayState, MayCall, AnswersCall}
use Rattle.heap_runs.proofs.Noting.{bare_play_is_run, grows_both_after_call, without_turned_grows}
use Rattle.heap_runs.proofs.WithAnswers.{bare, may_call_when_bare, answers_call_with_answers}
use Rattle.heap_runs.proofs.machine_heap.MachineHeapPlayHeap.call.Goals as goal

pub call_run-requires : goal.call_run-requires
call_run-requires c =
    let old = c.args.self.now in
    record { may = subst (λ (s : PlayState). MayCall s c.args.seat c.args.command.now) (bare_play_is_run old c.known_noted.ensures) (may_call_when_bare (play_state_of old) c.args.seat c.args.command.now c.requires.may) }

pub returns-clause-answers : goal.returns-clause-answers
returns-clause-answers c =
    let old = c.args.self.now in
    let new = c.call_run.new.self in
    let number = c.args.seat in
    let command = c.args.command.now in
    let reply = c.in_ok-reply.reply in
    let grows = grows_both_after_call old new number command reply c.in_ok-reply.ensures.machine in
    answers_call_with_answers (play_state_of old) (play_state_of new) grows.added grows.listed (without_turned_grows old new grows c.known_noted.ensures c.known_noted-2.ensures) number command reply
    (subst (λ (s : PlayState). AnswersCall s (bare (play_state_of new)) number command reply) (sym (bare_play_is_run old c.known_noted.ensures))
    (subst (λ (s : PlayState). AnswersCall (run_state_of old) s number command reply) (sym (bare_play_is_run new c.known_noted-2.ensures)) c.in_ok-reply.ensures.answers))
