-- A machine between calls, after a call, an inner call or a turn more.
use Rattle.std.proofs.Common.{ℕ, List, [], ◌∷◌, ◌++◌, subst}
use Rattle.heap_model.specs.declared.calls.collect.Inner.{Inner}
use Rattle.heap_model.specs.declared.calls.collector_calls.Turn.{Turn}
use Rattle.heap_model.specs.declared.command.Command.{Command}
use Rattle.heap_model.specs.declared.reply.Reply.{Reply}
use Rattle.core_machine.specs.machine.Calls.{call_events}
use Rattle.core_machine.specs.machine.InnerCalls.{inner_events}
use Rattle.core_machine.specs.machine.Machine.{State, Event, Turns}
use Rattle.core_rule.specs.runs.Laws.{OneCallAtATime, NotesNow}
use Rattle.core_rule.proofs.parties.MoreEvents.{OneCall-append}
use Rattle.core_rule.proofs.parties.OneSeat.{call_events_are_one_call, inner_events_are_one_call}
use Rattle.heap_record.specs.Recorded.{Recorded, MakesCall, MakesInner, MakesTurn}
use Rattle.heap_record.proofs.Leading.{events_lead_on_by_call, events_lead_on_by_inner, events_lead_on_by_turn}
use Rattle.heap_runs.specs.MachineHeap.{IsBetweenCalls}

module _ (old new : Recorded) (between : IsBetweenCalls old.machine.heap old.machine.state old.history) where
  -- events that come one call at a time behind those before
  behind : (more : List Event) → OneCallAtATime old.machine.heap old.machine.state more → OneCallAtATime old.machine.heap between.opening (between.events ++ more)
  behind more alone =
      let heap = old.machine.heap in
      OneCall-append heap between.opening between.events more between.are (subst (λ (s : State). OneCallAtATime heap s more) between.ends alone)

  pub between_after_call : (number : ℕ) (command : Command) (reply : Reply) → MakesCall old new number command reply → IsBetweenCalls new.machine.heap new.machine.state new.history
  between_after_call number command reply makes =
      let steps = makes.call.steps in
      events_lead_on_by_call OneCallAtATime old new between number command reply makes (behind (call_events number command steps)
      (call_events_are_one_call old.machine.heap number steps command old.machine.state (λ other below apart. between.all_idle other below)))

  pub between_after_inner : (number : ℕ) (inner : Inner) → MakesInner old new number inner → NotesNow old.machine.heap old.machine.state inner → IsBetweenCalls new.machine.heap new.machine.state new.history
  between_after_inner number inner makes now =
      let steps = makes.plays.steps in
      events_lead_on_by_inner OneCallAtATime old new between number inner makes (behind (inner_events number inner steps)
      (inner_events_are_one_call old.machine.heap number steps inner old.machine.state (λ other below apart. between.all_idle other below) now))

  pub between_after_turn : (turn : Turn) → MakesTurn old new turn → IsBetweenCalls new.machine.heap new.machine.state new.history
  between_after_turn turn makes = events_lead_on_by_turn OneCallAtATime old new between turn makes (behind (Turns ∷ []) (between.all_idle, tt))
