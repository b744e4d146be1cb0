-- The last calls of a take, reply by reply.
use Rattle.std.proofs.Common.{ap, ◌∙◌, refl, Ok, arith}
use Rattle.heap_model.specs.declared.command.Command.TheVariants.{Get, Cas, Copy, Same}
use Rattle.heap_model.specs.declared.reply.Reply.TheVariants.{Got, Was, Now, Done, Yes, No}
use Rattle.heap_model.specs.calls.SeatReplies.{get_reply, cas_reply, same_reply}
use Rattle.heap_queue.specs.Places.{TakeSame, TakeHelps, TakeValue, TakeUnlinks, TakeCopies}
use Rattle.heap_queue.proofs.HeapCalls.{goes, ends_so, refused, spends, spends_more, spends_most, is_ready, is_ready_then, left_less}
use Rattle.heap_queue.proofs.taking.take_front.Goals as goal

pub same-requires : goal.same-requires
same-requires g c =
    is_ready (Same 14 13) (left_less 0 0 4 c.requires.ready (omega arith) (omega arith) (omega arith)) (omega arith, omega arith)

pub cas-requires : goal.cas-requires
cas-requires g c =
    is_ready_then (Cas 0 1 13 12) c.requires.ready (spends (Same 14 13) (λ e. cc) c.same.ensures.added) (omega arith) (omega arith) (omega arith) (omega arith, omega arith, omega arith, omega arith)

pub get-requires : goal.get-requires
get-requires g c =
    is_ready_then (Get 11 12 0) c.requires.ready (spends (Same 14 13) (λ e. cc) c.same.ensures.added) (omega arith) (omega arith) (omega arith) ((omega arith, omega arith), omega arith, omega arith)

pub cas-requires-2 : goal.cas-requires-2
cas-requires-2 g c =
    is_ready_then (Cas 0 0 14 12) c.requires.ready (spends_more (Get 11 12 0) (λ e. cc) (spends (Same 14 13) (λ e. cc) c.same.ensures.added) c.get.ensures.added) (omega arith) (omega arith) (omega arith) (omega arith, omega arith, omega arith, omega arith)

pub copy-requires : goal.copy-requires
copy-requires g c =
    is_ready_then (Copy c.args.d 11) c.requires.ready (spends_more (Cas 0 0 14 12) (λ e. cc) (spends_more (Get 11 12 0) (λ e. cc) (spends (Same 14 13) (λ e. cc) c.same.ensures.added) c.get.ensures.added) c.cas-2.ensures.added) (omega arith) (omega arith) (omega arith) (let free = c.requires.register in (omega arith, omega arith), omega arith)

pub returns-then-same-clause-called : goal.returns-then-same-clause-called
returns-then-same-clause-called g c =
    goes (TakeSame c.args.seen) (Same 14 13) Yes c.same.ensures.added (ap same_reply c.if-same.true) refl refl (ends_so (TakeHelps c.args.seen) (Cas 0 1 13 12) _ c.cas.ensures.added refl refl refl)

pub returns-then-same-clause-spends : goal.returns-then-same-clause-spends
returns-then-same-clause-spends g c =
    spends_most 0 1 8 (spends_more (Cas 0 1 13 12) (λ e. cc) (spends (Same 14 13) (λ e. cc) c.same.ensures.added) c.cas.ensures.added) (omega arith) (omega arith) (omega arith)

pub returns-in_default-clause-called : goal.returns-in_default-clause-called
returns-in_default-clause-called g c =
    goes (TakeSame c.args.seen) (Same 14 13) No c.same.ensures.added (ap same_reply c.if-same.false) refl refl (refused TakeValue (Get 11 12 0) c.in_default.field-0 c.get.ensures.added (ap get_reply c.in_default.is) refl refl refl)

pub returns-in_default-clause-spends : goal.returns-in_default-clause-spends
returns-in_default-clause-spends g c =
    spends_most 0 1 8 (spends_more (Get 11 12 0) (λ e. cc) (spends (Same 14 13) (λ e. cc) c.same.ensures.added) c.get.ensures.added) (omega arith) (omega arith) (omega arith)

pub returns-in-Err-clause-called : goal.returns-in-Err-clause-called
returns-in-Err-clause-called g c =
    goes (TakeSame c.args.seen) (Same 14 13) No c.same.ensures.added (ap same_reply c.if-same.false) refl refl (goes TakeValue (Get 11 12 0) (Got c.in-Ok.field-0.0 c.in-Ok.field-0.1) c.get.ensures.added (ap get_reply c.in-Ok.is) refl refl (refused TakeUnlinks (Cas 0 0 14 12) c.in-Err.field-0 c.cas-2.ensures.added (ap cas_reply c.in-Err.is) refl refl refl))

pub returns-in-Err-clause-spends : goal.returns-in-Err-clause-spends
returns-in-Err-clause-spends g c =
    spends_most 0 1 8 (spends_more (Cas 0 0 14 12) (λ e. cc) (spends_more (Get 11 12 0) (λ e. cc) (spends (Same 14 13) (λ e. cc) c.same.ensures.added) c.get.ensures.added) c.cas-2.ensures.added) (omega arith) (omega arith) (omega arith)

pub returns-in-Ok-Now-clause-called : goal.returns-in-Ok-Now-clause-called
returns-in-Ok-Now-clause-called g c =
    goes (TakeSame c.args.seen) (Same 14 13) No c.same.ensures.added (ap same_reply c.if-same.false) refl refl (goes TakeValue (Get 11 12 0) (Got c.in-Ok.field-0.0 c.in-Ok.field-0.1) c.get.ensures.added (ap get_reply c.in-Ok.is) refl refl (ends_so TakeUnlinks (Cas 0 0 14 12) (Now c.in-Ok-Now.stamp) c.cas-2.ensures.added (ap cas_reply (c.in-Ok-Now.is ∙ ap Ok c.in-Ok-Now.field-0-is)) refl refl))

pub returns-in-Ok-Now-clause-spends : goal.returns-in-Ok-Now-clause-spends
returns-in-Ok-Now-clause-spends g c =
    spends_most 0 1 8 (spends_more (Cas 0 0 14 12) (λ e. cc) (spends_more (Get 11 12 0) (λ e. cc) (spends (Same 14 13) (λ e. cc) c.same.ensures.added) c.get.ensures.added) c.cas-2.ensures.added) (omega arith) (omega arith) (omega arith)

pub returns-in-Ok-Was-clause-called : goal.returns-in-Ok-Was-clause-called
returns-in-Ok-Was-clause-called g c =
    goes (TakeSame c.args.seen) (Same 14 13) No c.same.ensures.added (ap same_reply c.if-same.false) refl refl
    (goes TakeValue (Get 11 12 0) (Got c.in-Ok.field-0.0 c.in-Ok.field-0.1) c.get.ensures.added (ap get_reply c.in-Ok.is) refl refl
    (goes TakeUnlinks (Cas 0 0 14 12) (Was c.in-Ok-Was.field-0-0) c.cas-2.ensures.added (ap cas_reply (c.in-Ok-Was.is ∙ ap Ok c.in-Ok-Was.field-0-is)) refl refl
    (ends_so TakeCopies (Copy c.args.d 11) Done c.copy.ensures refl (c.args.d, c.requires.register, refl) refl)))

pub returns-in-Ok-Was-clause-spends : goal.returns-in-Ok-Was-clause-spends
returns-in-Ok-Was-clause-spends g c =
    spends_more (Copy c.args.d 11) (λ e. cc) (spends_more (Cas 0 0 14 12) (λ e. cc) (spends_more (Get 11 12 0) (λ e. cc) (spends (Same 14 13) (λ e. cc) c.same.ensures.added) c.get.ensures.added) c.cas-2.ensures.added) c.copy.ensures
