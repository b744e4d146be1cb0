-- A look, by what was read.
use Rattle.std.proofs.Common.{ap, ◌∙◌, refl, Ok, arith}
use Rattle.std.proofs.lemmas.Result.{IfOk-from_err}
use Rattle.heap_model.specs.declared.command.Command.TheVariants.{Get, Poll}
use Rattle.heap_model.specs.declared.id.Value.{Value}
use Rattle.heap_model.specs.declared.id.Value.TheVariants.{Nil, Number, Object}
use Rattle.heap_model.specs.declared.reply.Reply.TheVariants.{Got}
use Rattle.heap_model.specs.calls.SeatReplies.{get_reply, refusal_reply}
use Rattle.heap_queue.specs.Places.{Waits, Rests}
use Rattle.heap_queue.proofs.HeapCalls.{spends, is_ready, is_ready_then, left_less}
use Rattle.heap_queue.proofs.ServingParts.{left_with_room, looks, waits_after}
use Rattle.heap_queue.proofs.finding.look_for_queue.Goals as goal

pub returns-in_err-room : goal.returns-in_err-room
returns-in_err-room g c = IfOk-from_err c.from_residual.result _ c.from_residual.ensures.0

pub poll-requires : goal.poll-requires
poll-requires g c = is_ready Poll (left_less 0 0 4 (left_with_room c.room.ensures.same c.requires.may c.in_ok-room.ensures.room) (omega arith) (omega arith) (omega arith)) tt

pub get-requires : goal.get-requires
get-requires g c =
    is_ready_then (Get 14 0 1) (left_with_room c.room.ensures.same c.requires.may c.in_ok-room.ensures.room) (spends Poll (λ e. cc) c.poll.ensures) (omega arith) (omega arith) (omega arith)
    ((omega arith, omega arith), omega arith, omega arith)

pub returns-in-Ok-Object-default : goal.returns-in-Ok-Object-default
returns-in-Ok-Object-default g c =
    let read = c.in-Ok-Object-default in
    looks Rests (Got (Object read.field-0-0-0) read.field-0-1) c.room.ensures.same c.poll.ensures c.get.ensures.added (ap get_reply (read.is ∙ ap (λ (x : Value). Ok (x, read.field-0-1)) read.field-0-0-is)) refl

pub returns-in-Ok-Nil-default : goal.returns-in-Ok-Nil-default
returns-in-Ok-Nil-default g c =
    let read = c.in-Ok-Nil-default in
    looks Waits (Got Nil read.field-0-1) c.room.ensures.same c.poll.ensures c.get.ensures.added (ap get_reply (read.is ∙ ap (λ (x : Value). Ok (x, read.field-0-1)) read.field-0-0-is)) refl

pub returns-in-Ok-Number-default : goal.returns-in-Ok-Number-default
returns-in-Ok-Number-default g c =
    let read = c.in-Ok-Number-default in
    looks Waits (Got (Number read.field-0-0-0) read.field-0-1) c.room.ensures.same c.poll.ensures c.get.ensures.added (ap get_reply (read.is ∙ ap (λ (x : Value). Ok (x, read.field-0-1)) read.field-0-0-is)) refl

pub returns-in-Err : goal.returns-in-Err
returns-in-Err g c = looks Waits (refusal_reply c.in-Err.field-0) c.room.ensures.same c.poll.ensures c.get.ensures.added (ap get_reply c.in-Err.is) (waits_after c.in-Err.field-0)
