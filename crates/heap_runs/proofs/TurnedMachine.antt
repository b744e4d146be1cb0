-- A turn of the machine is one of a heap that is played on.
use Rattle.std.proofs.Common.{◌≡◌, [], sym, subst, ◌∙◌}
use Rattle.heap_model.specs.declared.calls.collector_calls.Turn.{Turn}
use Rattle.heap_model.specs.declared.calls.collector_calls.Turn.TheVariants as turns
use Rattle.heap_model.specs.account.Phases.{IsBehind}
use Rattle.core_machine.specs.machine.Machine.{Turns, next_turn, found_by, entries}
use Rattle.core_rule.specs.runs.Laws.{StandsFor, EachWaitIsBehind}
use Rattle.core_rule.specs.turns.TurnsLeft.{EachTurnLeavesFewer}
use Rattle.heap_record.specs.Recorded.{Recorded, MakesTurn}
use Rattle.heap_runs.specs.MachineHeap.{run_state_of}
use Rattle.heap_runs.specs.PlayHeap.{TakesTurn, WaitsRightly}

-- where a turn waits, it does so for a seat that is behind
waits_rightly : EachWaitIsBehind → (whole : Recorded) (turn : Turn) → StandsFor whole.machine.heap whole.machine.state [] whole.history
    → turn ≡ (next_turn whole.machine.heap whole.machine.state.collector).answer (found_by whole.machine.heap whole.machine.state (next_turn whole.machine.heap whole.machine.state.collector).step)
    → WaitsRightly (run_state_of whole) turn
waits_rightly each whole (turns.Waits number answer p) s answered =
    let behind = each whole.machine.heap whole.machine.state s.book number answer p s.stands.rule (sym answered) in
    (behind.0, subst (IsBehind number answer p) s.grown behind.1, behind.2)
waits_rightly each whole _ s answered = tt

-- the machine's turn is one of a heap that is played on
pub machine_takes_turn : EachWaitIsBehind → EachTurnLeavesFewer → (old new : Recorded) (turn : Turn) → StandsFor old.machine.heap old.machine.state [] old.history → MakesTurn old new turn
    → TakesTurn (run_state_of old) (run_state_of new) turn
machine_takes_turn waits lowers old new turn s makes =
    record {
      heap = makes.same_heap;
      added = entries old.machine.heap old.machine.state Turns;
      entries = makes.noted;
      own = makes.own;
      turned = makes.turned;
      waits = waits_rightly waits old turn s makes.answered;
      fewer = λ is. rw (makes.same_heap, makes.after) (lowers old.machine.heap old.machine.state s.book s.stands.rule (sym makes.answered ∙ is));
    }
