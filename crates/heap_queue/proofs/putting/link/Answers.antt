-- The last calls of a put.
use Rattle.std.proofs.Common.{ap, ◌∙◌, refl, Ok, arith}
use Rattle.heap_model.specs.declared.command.Command.TheVariants.{Cas}
use Rattle.heap_model.specs.declared.reply.Reply.TheVariants.{Was, Now}
use Rattle.heap_model.specs.calls.SeatReplies.{cas_reply}
use Rattle.heap_queue.specs.Places.{PutLinks, PutSwings}
use Rattle.heap_queue.proofs.HeapCalls.{goes, ends_so, refused, spends, spends_more, spends_most, is_ready, is_ready_then, left_less}
use Rattle.heap_queue.proofs.putting.link.Goals as goal

pub cas-requires : goal.cas-requires
cas-requires g c = is_ready (Cas 14 1 13 15) (left_less 0 1 4 c.requires.ready (omega arith) (omega arith) (omega arith)) (omega arith, omega arith, omega arith, omega arith)

pub cas-requires-in-Ok-Was : goal.cas-requires-in-Ok-Was
cas-requires-in-Ok-Was g c = is_ready_then (Cas 0 1 14 15) c.requires.ready (spends (Cas 14 1 13 15) (λ e. cc) c.cas.ensures.added) (omega arith) (omega arith) (omega arith) (omega arith, omega arith, omega arith, omega arith)

pub returns-in-Err-clause-called : goal.returns-in-Err-clause-called
returns-in-Err-clause-called g c = refused (PutLinks c.args.v) (Cas 14 1 13 15) c.in-Err.field-0 c.cas.ensures.added (ap cas_reply c.in-Err.is) refl refl refl

pub returns-in-Err-clause-spends : goal.returns-in-Err-clause-spends
returns-in-Err-clause-spends g c = spends_most 0 2 4 (spends (Cas 14 1 13 15) (λ e. cc) c.cas.ensures.added) (omega arith) (omega arith) (omega arith)

pub returns-in-Ok-Now-clause-called : goal.returns-in-Ok-Now-clause-called
returns-in-Ok-Now-clause-called g c = ends_so (PutLinks c.args.v) (Cas 14 1 13 15) (Now c.in-Ok-Now.stamp) c.cas.ensures.added (ap cas_reply (c.in-Ok-Now.is ∙ ap Ok c.in-Ok-Now.field-0-is)) refl refl

pub returns-in-Ok-Now-clause-spends : goal.returns-in-Ok-Now-clause-spends
returns-in-Ok-Now-clause-spends g c = spends_most 0 2 4 (spends (Cas 14 1 13 15) (λ e. cc) c.cas.ensures.added) (omega arith) (omega arith) (omega arith)

pub returns-in-Ok-Was-clause-called : goal.returns-in-Ok-Was-clause-called
returns-in-Ok-Was-clause-called g c =
    goes (PutLinks c.args.v) (Cas 14 1 13 15) (Was c.in-Ok-Was.field-0-0) c.cas.ensures.added (ap cas_reply (c.in-Ok-Was.is ∙ ap Ok c.in-Ok-Was.field-0-is)) refl refl
    (ends_so (PutSwings c.args.v) (Cas 0 1 14 15) _ c.cas-in-Ok-Was.ensures.added refl refl refl)

pub returns-in-Ok-Was-clause-spends : goal.returns-in-Ok-Was-clause-spends
returns-in-Ok-Was-clause-spends g c = spends_more (Cas 0 1 14 15) (λ e. cc) (spends (Cas 14 1 13 15) (λ e. cc) c.cas.ensures.added) c.cas-in-Ok-Was.ensures.added
