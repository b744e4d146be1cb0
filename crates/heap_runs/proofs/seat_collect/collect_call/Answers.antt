use Rattle.std.proofs.Common.{◌≡◌, ◌+◌, ◌-◌, ◌^◌, min}
use Rattle.heap_model.specs.declared.calls.collect.Inner.TheVariants.{Look}
use Rattle.heap_runs.specs.CollectCall.{LooksAround}
use Rattle.heap_runs.proofs.CollectEnds.{end_answers_collect}
use Rattle.heap_runs.proofs.LooksOn.{looks_around_by_room, looks_around_by_inner, looks_around_in_turn, on_err_holds}
use Rattle.heap_runs.proofs.seat_collect.collect_call.Goals as goal

pub returns-in_err-room-clause-memory : goal.returns-in_err-room-clause-memory
returns-in_err-room-clause-memory g c = on_err_holds (LooksAround c.args.seat.now c.room.new.self) c.from_residual.result (looks_around_by_room c.args.seat.now c.room.new.self c.room.ensures.stays)

pub returns-in_err-reply-clause-memory : goal.returns-in_err-reply-clause-memory
returns-in_err-reply-clause-memory g c =
    let looks = looks_around_by_inner c.args.seat.now c.room.new.self c.look.new.self Look tt c.room.ensures.stays c.look.ensures.made in
    on_err_holds (LooksAround c.args.seat.now c.find_reply.new.seat) c.from_residual-in_err-reply.result (looks_around_in_turn c.args.seat.now c.look.new.self c.find_reply.new.seat looks c.find_reply.ensures.around)

pub returns-in_err-room-2-clause-memory : goal.returns-in_err-room-2-clause-memory
returns-in_err-room-2-clause-memory g c =
    let looks = looks_around_by_inner c.args.seat.now c.room.new.self c.look.new.self Look tt c.room.ensures.stays c.look.ensures.made in
    let found = looks_around_in_turn c.args.seat.now c.look.new.self c.find_reply.new.seat looks c.find_reply.ensures.around in
    on_err_holds (LooksAround c.args.seat.now c.room-2.new.self) c.from_residual-in_err-room-2.result
    (looks_around_in_turn c.args.seat.now c.find_reply.new.seat c.room-2.new.self found (looks_around_by_room c.find_reply.new.seat c.room-2.new.self c.room-2.ensures.stays))

pub returns-clause-answers : goal.returns-clause-answers
returns-clause-answers g c =
    let enough : c.saturating_add-enough.result ≡ min (c.args.seat.now.seat.looks.waits + c.args.patience) (2 ^ 64 - 1) = cc in
    end_answers_collect c.args.patience c.next_whole_cycle-target.result c.saturating_add-enough.result c.look.result c.args.seat.now c.room.new.self c.look.new.self c.find_reply.new.seat c.room-2.new.self c.note.new.self
    c.in_ok-reply.reply c.room.ensures.stays c.look.ensures.made c.look.ensures.looks c.find_reply.ensures.around c.room-2.ensures.stays c.note.ensures.made c.in_ok-reply.ensures.answer enough c.next_whole_cycle-target.ensures.behind
    c.next_whole_cycle-target.ensures.first c.note.ensures.told c.note.ensures.waits
