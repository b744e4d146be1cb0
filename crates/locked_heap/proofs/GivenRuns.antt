-- A run from what was given, and how it goes on.
use Rattle.std.proofs.Common.{◌≡◌, ℕ, List, [], ◌++◌, length, sym, ap, ◌∙◌}
use Rattle.heap_model.specs.declared.calls.collect.Inner.{Inner}
use Rattle.heap_model.specs.declared.calls.collector_calls.Turn.{Turn}
use Rattle.heap_model.specs.declared.command.Command.{Command}
use Rattle.heap_model.specs.declared.entry.Entry.{Entry}
use Rattle.heap_model.specs.declared.heap.Heap.{Heap}
use Rattle.heap_model.specs.declared.reply.Reply.{Reply}
use Rattle.core_machine.specs.machine.Machine.{State, Event, Run, state_after_all, history}
use Rattle.core_rule.specs.runs.Laws.{EveryRunKeeps, StandsFor}
use Rattle.locked_heap.specs.Given.{Given}
use Rattle.locked_heap.specs.Locked.{OpensAs, IsRunFrom}
use Rattle.heap_record.specs.Recorded.{Recorded, StandsStill, MakesCall, MakesInner, MakesTurn}
use Rattle.heap_record.proofs.Leading.{book_stands_for_state, events_lead_on_by_call, events_lead_on_by_inner, events_lead_on_by_turn, events_lead_on_still}

-- events lead from this opening of the heap to this state, with this history
pub record RunOf (heap : Heap) (opening state : State) (told : List Entry) : Type 0 where
  pub events : List Event
  pub run : Run heap opening events
  pub ends : state ≡ state_after_all heap opening events
  pub shown : told ≡ history heap opening events

module _ (given : Given) (recorded : Recorded) (run : IsRunFrom given recorded) where
  -- some book stands for it
  pub book_stands_for_run : EveryRunKeeps → StandsFor recorded.machine.heap recorded.machine.state [] recorded.history
  book_stands_for_run runs = book_stands_for_state (OpensAs given) recorded.machine.heap recorded.machine.state recorded.history run.led runs

  -- the seats are the heap's
  pub seat_count_is_heaps : EveryRunKeeps → length recorded.machine.state.seats ≡ given.heap.seats
  seat_count_is_heaps runs = (book_stands_for_run runs).stands.rule.machine.seated ∙ ap (λ (h : Heap). h.seats) run.of_heap

  -- it is one from the opening that was given
  pub run_is_from_opening : RunOf given.heap given.opening recorded.machine.state recorded.history
  run_is_from_opening = rw (← run.of_heap, ← run.led.are) (record { events = run.led.events; run = run.led.run; ends = run.led.ends; shown = run.led.shown })

module _ (given : Given) (old new : Recorded) (run : IsRunFrom given old) where
  -- nothing is noted where both lists have the same more
  both_more : (added : List Entry) → new.listed ≡ old.listed ++ added → new.history ≡ old.history ++ added → new.listed ≡ new.history
  both_more added listed grown = listed ∙ ap (λ (l : List Entry). l ++ added) run.plain ∙ sym grown

  pub is_run_after_call : (number : ℕ) (command : Command) (reply : Reply) → MakesCall old new number command reply → IsRunFrom given new
  is_run_after_call number command reply makes =
      record {
        given_right = run.given_right;
        of_heap = makes.same_heap ∙ run.of_heap;
        led = events_lead_on_by_call (OpensAs given) old new run.led number command reply makes run.led.are;
        plain = both_more _ makes.listed makes.noted;
      }

  pub is_run_after_inner : (number : ℕ) (inner : Inner) → MakesInner old new number inner → IsRunFrom given new
  is_run_after_inner number inner makes = record {
    given_right = run.given_right;
    of_heap = makes.same_heap ∙ run.of_heap;
    led = events_lead_on_by_inner (OpensAs given) old new run.led number inner makes run.led.are;
    plain = both_more _ makes.listed makes.noted;
  }

  pub is_run_after_turn : (turn : Turn) → MakesTurn old new turn → IsRunFrom given new
  is_run_after_turn turn makes = record {
    given_right = run.given_right;
    of_heap = makes.same_heap ∙ run.of_heap;
    led = events_lead_on_by_turn (OpensAs given) old new run.led turn makes run.led.are;
    plain = both_more _ makes.listed makes.noted;
  }

  pub is_run_still : StandsStill old new → IsRunFrom given new
  is_run_still still = record {
    given_right = run.given_right;
    of_heap = still.heap_stays ∙ run.of_heap;
    led = events_lead_on_still (OpensAs given) old new run.led still;
    plain = still.listed_stays ∙ run.plain ∙ sym still.history_stays;
  }
