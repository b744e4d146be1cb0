use Rattle.std.proofs.Common.{sym, subst, arith}
use Rattle.heap_model.specs.declared.command.Command.TheVariants.{Num}
use Rattle.heap_queue.specs.declared.queue_command.QueueCommand.{QueueCommand}
use Rattle.heap_queue.specs.Calls.{put_call, take_call}
use Rattle.heap_queue.specs.Serving.{put_register, take_register, IsQueueCommand, AnswersBy, GoesOnBy}
use Rattle.heap_queue.proofs.HeapCalls.{spends, spends_both, is_ready, left_then, left_less}
use Rattle.heap_queue.proofs.ServingParts.{answers_put, answers_take}
use Rattle.heap_queue.proofs.serving.answer.Goals as goal

pub num-requires : goal.num-requires
num-requires g c =
    is_ready (Num put_register c.in-Put.n) (left_less 0 0 4 c.requires.ready (omega arith) (omega arith) (omega arith)) ((omega arith, omega arith), subst IsQueueCommand c.in-Put.is c.requires.in_range)

pub put-requires-clause-register : goal.put-requires-clause-register
put-requires-clause-register g c = (omega arith, omega arith)

pub put-requires-clause-ready : goal.put-requires-clause-ready
put-requires-clause-ready g c = left_then 1 3 16 c.requires.ready (spends (Num put_register c.in-Put.n) (λ e. cc) c.num.ensures) (omega arith) (omega arith) (omega arith)

pub take-requires-clause-register : goal.take-requires-clause-register
take-requires-clause-register g c = (omega arith, omega arith)

pub take-requires-clause-ready : goal.take-requires-clause-ready
take-requires-clause-ready g c = left_less 1 3 16 c.requires.ready (omega arith) (omega arith) (omega arith)

pub returns-in-Put-clause-answered : goal.returns-in-Put-clause-answered
returns-in-Put-clause-answered g c =
    let old = g.S.SeatCalls.state c.args.seat.now in
    let new = g.S.SeatCalls.state c.put.new.seat in (
      put_call put_register c.put.result,
      subst (λ (command : QueueCommand). GoesOnBy 1 (AnswersBy old.number command (put_call put_register c.put.result)) old new) (sym c.in-Put.is)
          (answers_put c.in-Put.n c.put.result c.num.ensures c.put.ensures.called c.put.ensures.spends),
    )

pub returns-in-Put-clause-room : goal.returns-in-Put-clause-room
returns-in-Put-clause-room g c = (spends_both (spends (Num put_register c.in-Put.n) (λ e. cc) c.num.ensures) c.put.ensures.spends).spare

pub returns-in-Take-clause-answered : goal.returns-in-Take-clause-answered
returns-in-Take-clause-answered g c =
    let old = g.S.SeatCalls.state c.args.seat.now in
    let new = g.S.SeatCalls.state c.take.new.seat in (
      take_call take_register c.take.result,
      subst (λ (command : QueueCommand). GoesOnBy 1 (AnswersBy old.number command (take_call take_register c.take.result)) old new) (sym c.in-Take.is)
          (answers_take c.take.result c.take.ensures.called c.take.ensures.spends),
    )

pub returns-in-Take-clause-room : goal.returns-in-Take-clause-room
returns-in-Take-clause-room g c = let x = c.take.ensures.spends.spare in omega (arith, x)
