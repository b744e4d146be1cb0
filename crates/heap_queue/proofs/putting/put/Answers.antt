-- A put, reply by reply.
use Rattle.std.proofs.Common.{ap, ◌∙◌, inl, refl, Ok, arith}
use Rattle.heap_model.specs.declared.command.Command.TheVariants.{New, Get, Set, Cas}
use Rattle.heap_model.specs.declared.id.Value.{Value}
use Rattle.heap_model.specs.declared.id.Value.TheVariants.{Nil, Number, Object}
use Rattle.heap_model.specs.declared.reply.Reply.TheVariants.{Full, Got}
use Rattle.heap_model.specs.calls.SeatReplies.{record_reply, get_reply, set_reply}
use Rattle.heap_queue.specs.Places.{Rests, PutValue, PutLast, PutNext, PutHelps}
use Rattle.heap_queue.proofs.HeapCalls.{goes, ends_so, refused, spends, spends_more, spends_both, spends_most, is_ready, is_ready_then, left_then, left_less}
use Rattle.heap_queue.proofs.PutCalls.{from_value, from_last, from_next}
use Rattle.heap_queue.proofs.putting.put.Goals as goal

pub new_record-requires : goal.new_record-requires
new_record-requires g c =
    is_ready (New 15 2) (left_less 1 0 6 c.requires.ready (omega arith) (omega arith) (omega arith)) ((omega arith, omega arith), (omega arith, omega arith))

pub set-requires : goal.set-requires
set-requires g c =
    is_ready_then (Set 15 0 c.args.v) c.requires.ready (spends (New 15 2) (λ e. cc) c.new_record.ensures.added) (omega arith) (omega arith) (omega arith) (omega arith, omega arith, let high = c.requires.register.1 in omega arith)

pub get-requires : goal.get-requires
get-requires g c =
    is_ready_then (Get 14 0 1) c.requires.ready (spends_more (Set 15 0 c.args.v) (λ e. cc) (spends (New 15 2) (λ e. cc) c.new_record.ensures.added) c.set.ensures.added) (omega arith) (omega arith) (omega arith) ((omega arith, omega arith), omega arith, omega arith)

pub get-requires-2 : goal.get-requires-2
get-requires-2 g c =
    is_ready_then (Get 13 14 1) c.requires.ready (spends_more (Get 14 0 1) (λ e. cc) (spends_more (Set 15 0 c.args.v) (λ e. cc) (spends (New 15 2) (λ e. cc) c.new_record.ensures.added) c.set.ensures.added) c.get.ensures.added) (omega arith) (omega arith) (omega arith) ((omega arith, omega arith), omega arith, omega arith)

pub cas-requires : goal.cas-requires
cas-requires g c =
    is_ready_then (Cas 0 1 14 13) c.requires.ready (spends_more (Get 13 14 1) (λ e. cc) (spends_more (Get 14 0 1) (λ e. cc) (spends_more (Set 15 0 c.args.v) (λ e. cc) (spends (New 15 2) (λ e. cc) c.new_record.ensures.added) c.set.ensures.added) c.get.ensures.added) c.get-2.ensures.added) (omega arith) (omega arith) (omega arith) (omega arith, omega arith, omega arith, omega arith)

pub link-requires : goal.link-requires
link-requires g c =
    record { ready = left_then 0 2 6 c.requires.ready (spends_more (Get 13 14 1) (λ e. cc) (spends_more (Get 14 0 1) (λ e. cc) (spends_more (Set 15 0 c.args.v) (λ e. cc) (spends (New 15 2) (λ e. cc) c.new_record.ensures.added) c.set.ensures.added) c.get.ensures.added) c.get-2.ensures.added) (omega arith) (omega arith) (omega arith) }

pub link-requires-in-Ok-Number-default : goal.link-requires-in-Ok-Number-default
link-requires-in-Ok-Number-default g c =
    record { ready = left_then 0 2 6 c.requires.ready (spends_more (Get 13 14 1) (λ e. cc) (spends_more (Get 14 0 1) (λ e. cc) (spends_more (Set 15 0 c.args.v) (λ e. cc) (spends (New 15 2) (λ e. cc) c.new_record.ensures.added) c.set.ensures.added) c.get.ensures.added) c.get-2.ensures.added) (omega arith) (omega arith) (omega arith) }

pub returns-in-Err-clause-called : goal.returns-in-Err-clause-called
returns-in-Err-clause-called g c =
    ends_so Rests (New 15 2) (Full c.in-Err.full.need c.in-Err.full.found) c.new_record.ensures.added (ap record_reply c.in-Err.is) (inl refl) refl

pub returns-in-Err-clause-spends : goal.returns-in-Err-clause-spends
returns-in-Err-clause-spends g c =
    spends_most 1 3 14 (spends (New 15 2) (λ e. cc) c.new_record.ensures.added) (omega arith) (omega arith) (omega arith)

pub returns-in_default-set-clause-called : goal.returns-in_default-set-clause-called
returns-in_default-set-clause-called g c =
    from_value c.new_record.ensures.added c.in_default.is (refused PutValue (Set 15 0 c.args.v) c.in_default-set.field-0 c.set.ensures.added (ap set_reply c.in_default-set.is) (c.args.v, c.requires.register, refl) refl refl)

pub returns-in_default-set-clause-spends : goal.returns-in_default-set-clause-spends
returns-in_default-set-clause-spends g c =
    spends_most 1 3 14 (spends_more (Set 15 0 c.args.v) (λ e. cc) (spends (New 15 2) (λ e. cc) c.new_record.ensures.added) c.set.ensures.added) (omega arith) (omega arith) (omega arith)

pub returns-in_default-get-clause-called : goal.returns-in_default-get-clause-called
returns-in_default-get-clause-called g c =
    from_last c.new_record.ensures.added c.in_default.is c.args.v c.requires.register c.set.ensures.added c.in-Ok.is (refused (PutLast c.args.v) (Get 14 0 1) c.in_default-get.field-0 c.get.ensures.added (ap get_reply c.in_default-get.is) refl refl refl)

pub returns-in_default-get-clause-spends : goal.returns-in_default-get-clause-spends
returns-in_default-get-clause-spends g c =
    spends_most 1 3 14 (spends_more (Get 14 0 1) (λ e. cc) (spends_more (Set 15 0 c.args.v) (λ e. cc) (spends (New 15 2) (λ e. cc) c.new_record.ensures.added) c.set.ensures.added) c.get.ensures.added) (omega arith) (omega arith) (omega arith)

pub returns-in-Err-get-clause-called : goal.returns-in-Err-get-clause-called
returns-in-Err-get-clause-called g c =
    from_next c.new_record.ensures.added c.in_default.is c.args.v c.requires.register c.set.ensures.added c.in-Ok.is c.get.ensures.added c.in-Ok-get.is (refused (PutNext c.args.v) (Get 13 14 1) c.in-Err-get.field-0 c.get-2.ensures.added (ap get_reply c.in-Err-get.is) refl refl refl)

pub returns-in-Err-get-clause-spends : goal.returns-in-Err-get-clause-spends
returns-in-Err-get-clause-spends g c =
    spends_most 1 3 14 (spends_more (Get 13 14 1) (λ e. cc) (spends_more (Get 14 0 1) (λ e. cc) (spends_more (Set 15 0 c.args.v) (λ e. cc) (spends (New 15 2) (λ e. cc) c.new_record.ensures.added) c.set.ensures.added) c.get.ensures.added) c.get-2.ensures.added) (omega arith) (omega arith) (omega arith)

pub returns-in-Ok-Object-default-clause-called : goal.returns-in-Ok-Object-default-clause-called
returns-in-Ok-Object-default-clause-called g c =
    from_next c.new_record.ensures.added c.in_default.is c.args.v c.requires.register c.set.ensures.added c.in-Ok.is c.get.ensures.added c.in-Ok-get.is
    (goes (PutNext c.args.v) (Get 13 14 1) (Got (Object c.in-Ok-Object-default.field-0-0-0) c.in-Ok-Object-default.stamp) c.get-2.ensures.added
    (ap get_reply (c.in-Ok-Object-default.is ∙ ap (λ (x : Value). Ok (x, c.in-Ok-Object-default.stamp)) c.in-Ok-Object-default.field-0-0-is)) refl refl
    (ends_so (PutHelps c.args.v c.in-Ok-Object-default.stamp) (Cas 0 1 14 13) _ c.cas.ensures.added refl refl refl))

pub returns-in-Ok-Object-default-clause-spends : goal.returns-in-Ok-Object-default-clause-spends
returns-in-Ok-Object-default-clause-spends g c =
    spends_most 1 3 14 (spends_more (Cas 0 1 14 13) (λ e. cc) (spends_more (Get 13 14 1) (λ e. cc) (spends_more (Get 14 0 1) (λ e. cc) (spends_more (Set 15 0 c.args.v) (λ e. cc) (spends (New 15 2) (λ e. cc) c.new_record.ensures.added) c.set.ensures.added) c.get.ensures.added) c.get-2.ensures.added) c.cas.ensures.added) (omega arith) (omega arith) (omega arith)

pub returns-in-Ok-Nil-default-clause-called : goal.returns-in-Ok-Nil-default-clause-called
returns-in-Ok-Nil-default-clause-called g c =
    from_next c.new_record.ensures.added c.in_default.is c.args.v c.requires.register c.set.ensures.added c.in-Ok.is c.get.ensures.added c.in-Ok-get.is
    (goes (PutNext c.args.v) (Get 13 14 1) (Got Nil c.in-Ok-Nil-default.field-0-1) c.get-2.ensures.added
    (ap get_reply (c.in-Ok-Nil-default.is ∙ ap (λ (x : Value). Ok (x, c.in-Ok-Nil-default.field-0-1)) c.in-Ok-Nil-default.field-0-0-is)) refl refl c.link.ensures.called)

pub returns-in-Ok-Nil-default-clause-spends : goal.returns-in-Ok-Nil-default-clause-spends
returns-in-Ok-Nil-default-clause-spends g c =
    spends_both (spends_more (Get 13 14 1) (λ e. cc) (spends_more (Get 14 0 1) (λ e. cc) (spends_more (Set 15 0 c.args.v) (λ e. cc) (spends (New 15 2) (λ e. cc) c.new_record.ensures.added) c.set.ensures.added) c.get.ensures.added) c.get-2.ensures.added) c.link.ensures.spends

pub returns-in-Ok-Number-default-clause-called : goal.returns-in-Ok-Number-default-clause-called
returns-in-Ok-Number-default-clause-called g c =
    from_next c.new_record.ensures.added c.in_default.is c.args.v c.requires.register c.set.ensures.added c.in-Ok.is c.get.ensures.added c.in-Ok-get.is
    (goes (PutNext c.args.v) (Get 13 14 1) (Got (Number c.in-Ok-Number-default.field-0-0-0) c.in-Ok-Number-default.field-0-1) c.get-2.ensures.added
    (ap get_reply (c.in-Ok-Number-default.is ∙ ap (λ (x : Value). Ok (x, c.in-Ok-Number-default.field-0-1)) c.in-Ok-Number-default.field-0-0-is)) refl refl c.link-in-Ok-Number-default.ensures.called)

pub returns-in-Ok-Number-default-clause-spends : goal.returns-in-Ok-Number-default-clause-spends
returns-in-Ok-Number-default-clause-spends g c =
    spends_both (spends_more (Get 13 14 1) (λ e. cc) (spends_more (Get 14 0 1) (λ e. cc) (spends_more (Set 15 0 c.args.v) (λ e. cc) (spends (New 15 2) (λ e. cc) c.new_record.ensures.added) c.set.ensures.added) c.get.ensures.added) c.get-2.ensures.added) c.link-in-Ok-Number-default.ensures.spends
