-- Each step and each begin of a seat keeps the rule, by the point of its call, and so does each turn of the collector.
use Rattle.std.proofs.Common.{ℕ, ◌<◌, [], length, refl}
use Rattle.core_rule.proofs.Terms.{Command, Heap, State, seat_at, state_after, Begins, Can, IsMachine, Book, Rule}
use Rattle.heap_model.specs.declared.command.Command.TheVariants as commands
use Rattle.core_rule.proofs.steps.Assemble.{Keeps}
use Rattle.core_rule.proofs.entries.Begins.{begins}
use Rattle.core_rule.proofs.runs.Runs.{EachStepKeeps, EachBeginKeeps, EachInnerKeeps, EachTurnKeeps}
use Rattle.core_rule.proofs.steps.access
use Rattle.core_rule.proofs.steps.collecting
use Rattle.core_rule.proofs.steps.collector.{turn_kind_of_each_stage}
use Rattle.core_rule.proofs.steps.Seats.{step_kind_of_each_point}
use Rattle.core_rule.proofs.steps.making

pub each_step_keeps : EachStepKeeps
each_step_keeps heap state book number rule here looks machine = (step_kind_of_each_point (seat_at state number).point).keeps heap state book number rule here looks refl machine

-- so does the begin of a call
begins_at : (heap : Heap) (state : State) (book : Book) (number : ℕ) (command : Command) → Rule heap state book → number < heap.seats → Can heap state (Begins number command)
    → IsMachine heap (state_after heap state (Begins number command)) → Keeps heap state (state_after heap state (Begins number command)) book (begins number (length book.history) book.begun) []
begins_at heap state book number (commands.New d fields) rule here can machine = making.BeginStep.begin_keeps heap state book number (commands.New d fields) rule here can.1 tt machine
begins_at heap state book number command rule here can machine = access.BeginOthers.begin_others_keep heap state book number command rule here can.1 (λ made. made) machine

pub each_begin_keeps : EachBeginKeeps
each_begin_keeps heap state book number command rule can machine = begins_at heap state book number command rule (rw (← rule.machine.seated) can.0) can machine

pub each_inner_keeps : EachInnerKeeps
each_inner_keeps heap state book number inner rule can machine = collecting.BeginInner.begin_inner_keeps heap state book number inner rule (rw (← rule.machine.seated) can.0) can.1 machine

-- each turn of the collector keeps the rule
pub each_turn_keeps : EachTurnKeeps
each_turn_keeps heap state book rule ends may machine = (turn_kind_of_each_stage state.collector.stage).keeps heap state book rule ends refl machine
