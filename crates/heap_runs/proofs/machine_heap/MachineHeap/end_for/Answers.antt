use Rattle.std.proofs.Common.{◌≡◌, ap, sym, subst, ◌∙◌, arith}
use Rattle.heap_model.specs.declared.calls.collector_calls.Turn.{Turn}
use Rattle.heap_model.specs.declared.calls.collector_calls.Turn.TheVariants as turns
use Rattle.heap_record.specs.Recorded.{Recorded, MakesTurn}
use Rattle.heap_runs.specs.MachineHeap.{run_state_of}
use Rattle.heap_runs.specs.PlayHeap.{TakesTurn}
use Rattle.heap_runs.proofs.Collecting.{collect_goes_on_with_nothing, collect_goes_on_twice, collect_goes_on_by_turn, collect_goes_on_by_answer, stays_in_cycle_with_nothing, stays_in_cycle_by_turn, stays_in_cycle_by_wait, stays_in_cycle_by_answer, ends_for_waiting, ends_for_cycle}
use Rattle.heap_runs.proofs.Standing.{book_stands_for_run}
use Rattle.heap_runs.proofs.TurnFacts.{turn_is_step, turn_waits_for}
use Rattle.heap_runs.proofs.Waiting.{step_leaves_fewer_turns, answer_leaves_fewer_turns}
use Rattle.heap_runs.proofs.machine_heap.MachineHeap.end_for.Goals as goal

pub turns-init : goal.turns-init
turns-init c = record { goes = collect_goes_on_with_nothing c.args.self.now c.args.seat c.requires.present; between = c.known.ensures; stays = stays_in_cycle_with_nothing c.args.self.now }

pub turns-preserved : goal.turns-preserved
turns-preserved c =
    let goes = c.turns.invariant.goes in
    let step = turn_is_step _ (sym c.behind.ensures ∙ c.in_default-behind.is) (λ cycle kept is. c.in_default.not-Ended cycle kept is) in
    record {
      goes = collect_goes_on_twice c.args.self.now c.turns.self c.take_turn.new.self c.args.seat goes
          (collect_goes_on_by_turn c.turns.self c.take_turn.new.self c.args.seat c.in_ok-turn.turn c.in_ok-turn.ensures.turn c.in_ok-turn.ensures.machine goes.present);
      between = c.known-in-turns.ensures;
      stays = stays_in_cycle_by_turn c.args.self.now c.turns.self c.take_turn.new.self c.in_ok-turn.turn c.turns.invariant.stays c.in_ok-turn.ensures.turn step;
    }

pub turns-smaller : goal.turns-smaller
turns-smaller c =
    let now : Recorded = c.turns.self in
    let new : Recorded = c.take_turn.new.self in
    let step = turn_is_step _ (sym c.behind.ensures ∙ c.in_default-behind.is) (λ cycle kept is. c.in_default.not-Ended cycle kept is) in
    let goes = collect_goes_on_by_turn now new c.args.seat c.in_ok-turn.turn c.in_ok-turn.ensures.turn c.in_ok-turn.ensures.machine c.turns.invariant.goes.present in
    step_leaves_fewer_turns now new c.args.seat (book_stands_for_run c.law_every_run.ensures.run new.machine.heap new.machine.state new.history c.known-in-turns.ensures) c.known-in-turns.ensures goes.present
    (subst (λ (turn : Turn). TakesTurn (run_state_of now) (run_state_of new) turn) step c.in_ok-turn.ensures.turn)

pub returns-then-behind-seat : goal.returns-then-behind-seat
returns-then-behind-seat c =
    let now : Recorded = c.turns.self in
    let new : Recorded = c.take_turn.new.self in
    let behind = c.in-Some.behind in
    let waits = turn_waits_for _ behind (sym c.behind.ensures ∙ c.in-Some.is) in
    let takes = subst (λ (turn : Turn). TakesTurn (run_state_of now) (run_state_of new) turn) waits c.in_ok-turn.ensures.turn in
    let turned = subst (λ (turn : Turn). MakesTurn now new turn) waits c.in_ok-turn.ensures.machine in
    record { ends = rw c.from.ensures (ends_for_waiting c.args.self.now now new c.args.seat behind.seat behind.answered behind.phase c.turns.invariant.goes takes turned c.if-behind-seat.true) }

pub turns-smaller-in-Some : goal.turns-smaller-in-Some
turns-smaller-in-Some c =
    let old : Recorded = c.turns.self in
    let now : Recorded = c.take_turn.new.self in
    let new : Recorded = c.make_inner.new.self in
    let behind = c.in-Some.behind in
    let runs = c.law_every_run.ensures.run in
    let own : behind.seat ≡ c.args.seat = omega (arith, c.if-behind-seat.false) in
    let waits : c.in_ok-turn.turn ≡ turns.Waits c.args.seat behind.answered behind.phase =
    turn_waits_for _ behind (sym c.behind.ensures ∙ c.in-Some.is) ∙ ap (λ n. turns.Waits n behind.answered behind.phase) own in
    let takes = subst (λ (turn : Turn). TakesTurn (run_state_of old) (run_state_of now) turn) waits c.in_ok-turn.ensures.turn in
    let turned = subst (λ (turn : Turn). MakesTurn old now turn) waits c.in_ok-turn.ensures.machine in
    answer_leaves_fewer_turns old now new c.args.seat behind.answered behind.phase (book_stands_for_run runs old.machine.heap old.machine.state old.history c.turns.invariant.between)
    (book_stands_for_run runs now.machine.heap now.machine.state now.history c.known-in-turns.ensures) (book_stands_for_run runs new.machine.heap new.machine.state new.history c.known-in-Some.ensures) c.turns.invariant.between c.turns.invariant.goes.present
    takes turned c.in_ok-make_inner.ensures.makes

pub turns-preserved-in-Some : goal.turns-preserved-in-Some
turns-preserved-in-Some c =
    let goes = c.turns.invariant.goes in
    let behind = c.in-Some.behind in
    let turned = collect_goes_on_by_turn c.turns.self c.take_turn.new.self c.args.seat c.in_ok-turn.turn c.in_ok-turn.ensures.turn c.in_ok-turn.ensures.machine goes.present in
    let answered = collect_goes_on_by_answer c.take_turn.new.self c.make_inner.new.self c.args.seat c.in_ok-make_inner.ensures.makes turned.present in
    let takes = subst (λ (turn : Turn). TakesTurn (run_state_of c.turns.self) (run_state_of c.take_turn.new.self) turn) (turn_waits_for _ behind (sym c.behind.ensures ∙ c.in-Some.is)) c.in_ok-turn.ensures.turn in
    let waited = stays_in_cycle_by_wait c.args.self.now c.turns.self c.take_turn.new.self behind.seat behind.answered behind.phase c.turns.invariant.stays takes in
    record {
      goes = collect_goes_on_twice c.args.self.now c.turns.self c.make_inner.new.self c.args.seat goes (collect_goes_on_twice c.turns.self c.take_turn.new.self c.make_inner.new.self c.args.seat turned answered);
      between = c.known-in-Some.ensures;
      stays = stays_in_cycle_by_answer c.args.self.now c.take_turn.new.self c.make_inner.new.self c.args.seat waited c.in_ok-make_inner.ensures.makes;
    }

pub returns-in-Ended : goal.returns-in-Ended
returns-in-Ended c =
    let now : Recorded = c.turns.self in
    let new : Recorded = c.take_turn.new.self in
    let takes = subst (λ (turn : Turn). TakesTurn (run_state_of now) (run_state_of new) turn) c.in-Ended.is c.in_ok-turn.ensures.turn in
    let turned = subst (λ (turn : Turn). MakesTurn now new turn) c.in-Ended.is c.in_ok-turn.ensures.machine in
    record { ends = ends_for_cycle c.args.self.now now new c.args.seat c.in-Ended.cycle c.in-Ended.kept c.turns.invariant.goes c.turns.invariant.stays takes turned }
