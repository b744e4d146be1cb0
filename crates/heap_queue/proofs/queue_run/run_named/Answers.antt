use Rattle.std.proofs.Common.{List, Vec, Global, map, ap, arith}
use Rattle.std.proofs.lemmas.Result.{IfOk-from_err}
use Rattle.heap_model.specs.declared.heap.Heap.{Heap}
use Rattle.heap_queue.specs.declared.queue_command.QueueCommand.{QueueCommand}
use Rattle.heap_queue.proofs.OpenedSeats.{still_numbered, still_of_table, still_present, refused_there, ready_there}
use Rattle.heap_queue.proofs.RoomLeft.{ran_has_room}
use Rattle.heap_queue.proofs.queue_run.run_named.Goals as goal

pub refuse-requires-clause-numbered : goal.refuse-requires-clause-numbered
refuse-requires-clause-numbered g c =
    still_numbered c.requires.table c.requires.heap c.heap.ensures.heap c.heap.ensures.limits c.in_ok-refused.ensures c.requires.may.numbered c.requires.may.untouched

pub refuse-requires-clause-of_table : goal.refuse-requires-clause-of_table
refuse-requires-clause-of_table g c =
    still_of_table c.requires.table c.requires.heap c.heap.ensures.heap c.heap.ensures.limits c.in_ok-refused.ensures c.requires.may.numbered c.requires.may.untouched

pub refuse-requires-clause-present : goal.refuse-requires-clause-present
refuse-requires-clause-present g c =
    still_present c.requires.table c.requires.heap c.heap.ensures.heap c.heap.ensures.limits c.in_ok-refused.ensures c.requires.may.numbered c.requires.may.untouched

pub refuse-requires-clause-refused : goal.refuse-requires-clause-refused
refuse-requires-clause-refused g c =
    refused_there c.requires.table c.requires.heap c.heap.ensures.heap c.heap.ensures.limits c.in_ok-refused.ensures c.requires.may.numbered c.requires.may.untouched c.in-Some.full c.in-Some.is

pub serve_all-requires-clause-numbered : goal.serve_all-requires-clause-numbered
serve_all-requires-clause-numbered g c κs within =
    still_numbered c.requires.table c.requires.heap c.heap.ensures.heap c.heap.ensures.limits c.in_ok-refused.ensures c.requires.may.numbered c.requires.may.untouched

pub serve_all-requires-clause-ready : goal.serve_all-requires-clause-ready
serve_all-requires-clause-ready g c κs within =
    let scripts : List (List QueueCommand) = map (λ (script : Vec QueueCommand Global). script.items) c.args.scripts.now in
    ready_there c.requires.table c.requires.heap c.heap.ensures.heap c.heap.ensures.limits c.in_ok-refused.ensures c.requires.may.numbered c.requires.may.untouched c.in_default.is scripts c.requires.may.scripted c.requires.may.fit

pub returns-clause-room : goal.returns-clause-room
returns-clause-room g c =
    ran_has_room _ c.args.collector c.in_ok-ran.ran (omega (arith, c.heap.ensures.limits.some_seat, ap (λ (h : Heap). h.seats) c.heap.ensures.heap)) c.in_ok-ran.ensures

pub returns-in_err-refused-clause-ran : goal.returns-in_err-refused-clause-ran
returns-in_err-refused-clause-ran g c = IfOk-from_err c.from_residual.result _ c.from_residual.ensures.0

pub returns-in_err-refused-clause-room : goal.returns-in_err-refused-clause-room
returns-in_err-refused-clause-room g c = IfOk-from_err c.from_residual.result _ c.from_residual.ensures.0

pub returns-in_err-ran-clause-ran : goal.returns-in_err-ran-clause-ran
returns-in_err-ran-clause-ran g c = IfOk-from_err c.from_residual-in_err-ran.result _ c.from_residual-in_err-ran.ensures.0

pub returns-in_err-ran-clause-room : goal.returns-in_err-ran-clause-room
returns-in_err-ran-clause-room g c = IfOk-from_err c.from_residual-in_err-ran.result _ c.from_residual-in_err-ran.ensures.0
