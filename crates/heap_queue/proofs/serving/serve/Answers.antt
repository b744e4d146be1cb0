use Rattle.std.proofs.Common.{ap, ◌∙◌, arith}
use Rattle.std.proofs.lemmas.Result.{IfOk-from_err}
use Rattle.heap_model.specs.calls.SeatState.{SeatState, own_graph_seat}
use Rattle.heap_queue.proofs.ServingParts.{left_with_room, serves}
use Rattle.heap_queue.proofs.serving.serve.Goals as goal

pub returns-in_err-room : goal.returns-in_err-room
returns-in_err-room g c = IfOk-from_err c.from_residual.result (λ _. _) c.from_residual.ensures.0

pub answer-requires-clause-in_range : goal.answer-requires-clause-in_range
answer-requires-clause-in_range g c = c.requires.in_range

pub answer-requires-clause-ready : goal.answer-requires-clause-ready
answer-requires-clause-ready g c = left_with_room c.room.ensures.same c.requires.may (let x = c.in_ok-room.ensures.room in omega (arith, x))

pub poll-requires : goal.poll-requires
poll-requires g c = record {
  present = c.answer.ensures.answered.1.present ∙ (ap (λ (s : SeatState). (own_graph_seat s).left) c.room.ensures.same ∙ c.requires.may.present);
  in_range = tt;
  room = let x = c.in_ok-room.ensures.room in let y = c.answer.ensures.room in omega (arith, x, y);
  numbered = tt;
}

pub returns : goal.returns
returns g c = (c.answer.ensures.answered.0, serves c.args.command.now c.answer.ensures.answered.0 c.room.ensures.same c.answer.ensures.answered.1 c.poll.ensures)
