use Rattle.std.proofs.Common.{sym, subst}
use Rattle.heap_runs.specs.MachineHeap.{play_state_of, run_state_of}
use Rattle.heap_runs.specs.PlayHeap.{PlayState, TakesTurn}
use Rattle.heap_runs.proofs.Noting.{GrowsBoth, bare_play_is_run, without_turned_grows}
use Rattle.heap_runs.proofs.WithAnswers.{bare, takes_turn_with_answers}
use Rattle.heap_runs.proofs.machine_heap.MachineHeapPlayHeap.turn.Goals as goal

pub returns-clause-turn : goal.returns-clause-turn
returns-clause-turn c =
    let old = c.args.self.now in
    let new = c.take_turn.new.self in
    let turn = c.in_ok-turn.turn in
    let makes = c.in_ok-turn.ensures.machine in
    let grows : GrowsBoth old new = record { added = _; noted = makes.noted; listed = makes.listed } in
    takes_turn_with_answers (play_state_of old) (play_state_of new) grows.added grows.listed (without_turned_grows old new grows c.known_noted.ensures c.known_noted-2.ensures) turn
    (subst (λ (s : PlayState). TakesTurn s (bare (play_state_of new)) turn) (sym (bare_play_is_run old c.known_noted.ensures))
    (subst (λ (s : PlayState). TakesTurn (run_state_of old) s turn) (sym (bare_play_is_run new c.known_noted-2.ensures)) c.in_ok-turn.ensures.turn))
