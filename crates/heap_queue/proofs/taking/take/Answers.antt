-- A take, reply by reply.
use Rattle.std.proofs.Common.{ap, ◌∙◌, inr, refl, Ok, arith}
use Rattle.heap_model.specs.declared.command.Command.TheVariants.{Get}
use Rattle.heap_model.specs.declared.id.Value.{Value}
use Rattle.heap_model.specs.declared.id.Value.TheVariants.{Nil, Number, Object}
use Rattle.heap_model.specs.declared.reply.Reply.TheVariants.{Got}
use Rattle.heap_model.specs.calls.SeatReplies.{get_reply}
use Rattle.heap_queue.specs.Places.{Rests, TakeLast, TakeNext}
use Rattle.heap_queue.proofs.HeapCalls.{goes, ends_so, refused, spends, spends_more, spends_both, spends_most, is_ready, is_ready_then, left_then, left_less}
use Rattle.heap_queue.proofs.taking.take.Goals as goal

pub get-requires : goal.get-requires
get-requires g c =
    is_ready (Get 14 0 0) (left_less 0 0 4 c.requires.ready (omega arith) (omega arith) (omega arith)) ((omega arith, omega arith), omega arith, omega arith)

pub get-requires-2 : goal.get-requires-2
get-requires-2 g c =
    is_ready_then (Get 13 0 1) c.requires.ready (spends (Get 14 0 0) (λ e. cc) c.get.ensures.added) (omega arith) (omega arith) (omega arith) ((omega arith, omega arith), omega arith, omega arith)

pub get-requires-3 : goal.get-requires-3
get-requires-3 g c =
    is_ready_then (Get 12 14 1) c.requires.ready (spends_more (Get 13 0 1) (λ e. cc) (spends (Get 14 0 0) (λ e. cc) c.get.ensures.added) c.get-2.ensures.added) (omega arith) (omega arith) (omega arith) ((omega arith, omega arith), omega arith, omega arith)

pub take_front-requires : goal.take_front-requires
take_front-requires g c =
    record { register = c.requires.register; ready = left_then 0 1 10 c.requires.ready (spends_more (Get 12 14 1) (λ e. cc) (spends_more (Get 13 0 1) (λ e. cc) (spends (Get 14 0 0) (λ e. cc) c.get.ensures.added) c.get-2.ensures.added) c.get-3.ensures.added) (omega arith) (omega arith) (omega arith) }

pub take_front-requires-in-Ok-Number-default : goal.take_front-requires-in-Ok-Number-default
take_front-requires-in-Ok-Number-default g c =
    record { register = c.requires.register; ready = left_then 0 1 10 c.requires.ready (spends_more (Get 12 14 1) (λ e. cc) (spends_more (Get 13 0 1) (λ e. cc) (spends (Get 14 0 0) (λ e. cc) c.get.ensures.added) c.get-2.ensures.added) c.get-3.ensures.added) (omega arith) (omega arith) (omega arith) }

pub returns-in_default-clause-called : goal.returns-in_default-clause-called
returns-in_default-clause-called g c =
    refused Rests (Get 14 0 0) c.in_default.field-0 c.get.ensures.added (ap get_reply c.in_default.is) (inr refl) refl refl

pub returns-in_default-clause-spends : goal.returns-in_default-clause-spends
returns-in_default-clause-spends g c =
    spends_most 0 1 14 (spends (Get 14 0 0) (λ e. cc) c.get.ensures.added) (omega arith) (omega arith) (omega arith)

pub returns-in_default-get-clause-called : goal.returns-in_default-get-clause-called
returns-in_default-get-clause-called g c =
    goes Rests (Get 14 0 0) (Got c.in-Ok.field-0.0 c.in-Ok.field-0.1) c.get.ensures.added (ap get_reply c.in-Ok.is) (inr refl) refl (refused TakeLast (Get 13 0 1) c.in_default-get.field-0 c.get-2.ensures.added (ap get_reply c.in_default-get.is) refl refl refl)

pub returns-in_default-get-clause-spends : goal.returns-in_default-get-clause-spends
returns-in_default-get-clause-spends g c =
    spends_most 0 1 14 (spends_more (Get 13 0 1) (λ e. cc) (spends (Get 14 0 0) (λ e. cc) c.get.ensures.added) c.get-2.ensures.added) (omega arith) (omega arith) (omega arith)

pub returns-in-Err-clause-called : goal.returns-in-Err-clause-called
returns-in-Err-clause-called g c =
    goes Rests (Get 14 0 0) (Got c.in-Ok.field-0.0 c.in-Ok.field-0.1) c.get.ensures.added (ap get_reply c.in-Ok.is) (inr refl) refl (goes TakeLast (Get 13 0 1) (Got c.in-Ok-get.field-0.0 c.in-Ok-get.field-0.1) c.get-2.ensures.added (ap get_reply c.in-Ok-get.is) refl refl (refused TakeNext (Get 12 14 1) c.in-Err.field-0 c.get-3.ensures.added (ap get_reply c.in-Err.is) refl refl refl))

pub returns-in-Err-clause-spends : goal.returns-in-Err-clause-spends
returns-in-Err-clause-spends g c =
    spends_most 0 1 14 (spends_more (Get 12 14 1) (λ e. cc) (spends_more (Get 13 0 1) (λ e. cc) (spends (Get 14 0 0) (λ e. cc) c.get.ensures.added) c.get-2.ensures.added) c.get-3.ensures.added) (omega arith) (omega arith) (omega arith)

pub returns-in-Ok-Nil-default-clause-called : goal.returns-in-Ok-Nil-default-clause-called
returns-in-Ok-Nil-default-clause-called g c =
    goes Rests (Get 14 0 0) (Got c.in-Ok.field-0.0 c.in-Ok.field-0.1) c.get.ensures.added (ap get_reply c.in-Ok.is) (inr refl) refl
    (goes TakeLast (Get 13 0 1) (Got c.in-Ok-get.field-0.0 c.in-Ok-get.field-0.1) c.get-2.ensures.added (ap get_reply c.in-Ok-get.is) refl refl
    (ends_so TakeNext (Get 12 14 1) (Got Nil c.in-Ok-Nil-default.field-0-1) c.get-3.ensures.added (ap get_reply (c.in-Ok-Nil-default.is ∙ ap (λ (x : Value). Ok (x, c.in-Ok-Nil-default.field-0-1)) c.in-Ok-Nil-default.field-0-0-is)) refl refl))

pub returns-in-Ok-Nil-default-clause-spends : goal.returns-in-Ok-Nil-default-clause-spends
returns-in-Ok-Nil-default-clause-spends g c =
    spends_most 0 1 14 (spends_more (Get 12 14 1) (λ e. cc) (spends_more (Get 13 0 1) (λ e. cc) (spends (Get 14 0 0) (λ e. cc) c.get.ensures.added) c.get-2.ensures.added) c.get-3.ensures.added) (omega arith) (omega arith) (omega arith)

pub returns-in-Ok-Object-default-clause-called : goal.returns-in-Ok-Object-default-clause-called
returns-in-Ok-Object-default-clause-called g c =
    goes Rests (Get 14 0 0) (Got c.in-Ok.field-0.0 c.in-Ok.field-0.1) c.get.ensures.added (ap get_reply c.in-Ok.is) (inr refl) refl
    (goes TakeLast (Get 13 0 1) (Got c.in-Ok-get.field-0.0 c.in-Ok-get.field-0.1) c.get-2.ensures.added (ap get_reply c.in-Ok-get.is) refl refl
    (goes TakeNext (Get 12 14 1) (Got (Object c.in-Ok-Object-default.field-0-0-0) c.in-Ok-Object-default.stamp) c.get-3.ensures.added (ap get_reply (c.in-Ok-Object-default.is ∙ ap (λ (x : Value). Ok (x, c.in-Ok-Object-default.stamp)) c.in-Ok-Object-default.field-0-0-is)) refl refl c.take_front.ensures.called))

pub returns-in-Ok-Object-default-clause-spends : goal.returns-in-Ok-Object-default-clause-spends
returns-in-Ok-Object-default-clause-spends g c =
    spends_both (spends_more (Get 12 14 1) (λ e. cc) (spends_more (Get 13 0 1) (λ e. cc) (spends (Get 14 0 0) (λ e. cc) c.get.ensures.added) c.get-2.ensures.added) c.get-3.ensures.added) c.take_front.ensures.spends

pub returns-in-Ok-Number-default-clause-called : goal.returns-in-Ok-Number-default-clause-called
returns-in-Ok-Number-default-clause-called g c =
    goes Rests (Get 14 0 0) (Got c.in-Ok.field-0.0 c.in-Ok.field-0.1) c.get.ensures.added (ap get_reply c.in-Ok.is) (inr refl) refl
    (goes TakeLast (Get 13 0 1) (Got c.in-Ok-get.field-0.0 c.in-Ok-get.field-0.1) c.get-2.ensures.added (ap get_reply c.in-Ok-get.is) refl refl
    (goes TakeNext (Get 12 14 1) (Got (Number c.in-Ok-Number-default.field-0-0-0) c.in-Ok-Number-default.stamp) c.get-3.ensures.added (ap get_reply (c.in-Ok-Number-default.is ∙ ap (λ (x : Value). Ok (x, c.in-Ok-Number-default.stamp)) c.in-Ok-Number-default.field-0-0-is)) refl refl c.take_front-in-Ok-Number-default.ensures.called))

pub returns-in-Ok-Number-default-clause-spends : goal.returns-in-Ok-Number-default-clause-spends
returns-in-Ok-Number-default-clause-spends g c =
    spends_both (spends_more (Get 12 14 1) (λ e. cc) (spends_more (Get 13 0 1) (λ e. cc) (spends (Get 14 0 0) (λ e. cc) c.get.ensures.added) c.get-2.ensures.added) c.get-3.ensures.added) c.take_front-in-Ok-Number-default.ensures.spends
