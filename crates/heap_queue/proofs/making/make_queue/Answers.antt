-- The making of the queue, reply by reply.
use Rattle.std.proofs.Common.{ap, refl, subst, arith}
use Rattle.std.proofs.lemmas.Result.{err_from_is_err_and}
use Rattle.heap_model.specs.declared.command.Command.TheVariants.{New, Set}
use Rattle.heap_model.specs.declared.reply.Reply.TheVariants.{Full, Made}
use Rattle.heap_model.specs.calls.SeatCalls.{Adds}
use Rattle.heap_model.specs.calls.SeatReplies.{record_reply}
use Rattle.heap_queue.specs.Places.{MakesNode, SetsFirst, SetsLast}
use Rattle.heap_queue.proofs.FirstClaims.{makes_at_once, at_once_more}
use Rattle.heap_queue.proofs.HeapCalls.{goes, ends_so, spends, spends_more, spends_most, is_ready, is_ready_then, left_less}
use Rattle.heap_queue.proofs.making.make_queue.Goals as goal

pub new_record-requires : goal.new_record-requires
new_record-requires g c = is_ready (New 15 2) (left_less 1 0 6 c.requires.ready (omega arith) (omega arith) (omega arith)) ((omega arith, omega arith), (omega arith, omega arith))

pub set-requires : goal.set-requires
set-requires g c = is_ready_then (Set 0 0 15) c.requires.ready (spends (New 15 2) (λ e. cc) c.new_record.ensures.added) (omega arith) (omega arith) (omega arith) (omega arith, omega arith, omega arith)

pub set-requires-2 : goal.set-requires-2
set-requires-2 g c = is_ready_then (Set 0 1 15) c.requires.ready (spends_more (Set 0 0 15) (λ e. cc) (spends (New 15 2) (λ e. cc) c.new_record.ensures.added) c.set.ensures.added) (omega arith) (omega arith) (omega arith) (omega arith, omega arith, omega arith)

pub returns-in_err-id-clause-called : goal.returns-in_err-id-clause-called
returns-in_err-id-clause-called g c =
    let p = err_from_is_err_and c.from_residual.result c.from_residual.ensures.1 in
    rw (p.1, p.2) (ends_so MakesNode (New 15 2) (Full c.in_err-id.field-0.0.need c.in_err-id.field-0.0.found) c.new_record.ensures.added (ap record_reply c.in_err-id.was) refl refl)

pub returns-in_err-id-clause-spends : goal.returns-in_err-id-clause-spends
returns-in_err-id-clause-spends g c = spends_most 1 3 14 (spends (New 15 2) (λ e. cc) c.new_record.ensures.added) (omega arith) (omega arith) (omega arith)

pub returns-clause-called : goal.returns-clause-called
returns-clause-called g c =
    goes MakesNode (New 15 2) (Made c.in_ok-id.id) c.new_record.ensures.added (ap record_reply c.in_ok-id.was) refl refl
    (goes SetsFirst (Set 0 0 15) _ c.set.ensures.added refl refl refl (ends_so SetsLast (Set 0 1 15) _ c.set-2.ensures.added refl refl refl))

pub returns-clause-spends : goal.returns-clause-spends
returns-clause-spends g c =
    spends_most 1 3 14 (spends_more (Set 0 1 15) (λ e. cc) (spends_more (Set 0 0 15) (λ e. cc) (spends (New 15 2) (λ e. cc) c.new_record.ensures.added) c.set.ensures.added) c.set-2.ensures.added)
    (omega arith) (omega arith) (omega arith)

pub returns-clause-at_once : goal.returns-clause-at_once
returns-clause-at_once g c =
    at_once_more (at_once_more (makes_at_once c.in_ok-id.id (subst (Adds (g.S.SeatCalls.state c.args.seat.now) (g.S.SeatCalls.state c.new_record.new.self) (New 15 2)) (ap record_reply c.in_ok-id.was) c.new_record.ensures.added)) c.set.ensures.added) c.set-2.ensures.added
