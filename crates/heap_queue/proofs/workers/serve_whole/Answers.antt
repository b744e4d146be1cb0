use Rattle.std.proofs.Common.{◌++◌, length, sym, subst}
use Rattle.heap_table.specs.SeatHeld.{SeatHeld}
use Rattle.mutator_seat.specs.Resting.{seat_state}
use Rattle.heap_queue.specs.Serving.{GoesOnBy, HasCome}
use Rattle.heap_queue.proofs.LeavingSeats.{has_worked}
use Rattle.heap_queue.proofs.workers.serve_whole.Goals as goal

pub returns : goal.returns
returns g c =
    let number = c.number-number.result in
    let script = c.args.script.now in
    let seat = c.args.seat in
    let served = c.into_seat-seat.ensures in
    let went = subst (λ (h : SeatHeld). GoesOnBy (length script) (λ added. HasCome number script (h.seat.mine ++ added)) (seat_state h) (seat_state c.serve_script.new.seat)) c.new-seat.ensures c.in_ok-serve_script.ensures in
    has_worked g.N.HeldName.table g.N.HeldName.heap number script seat c.into_seat-seat.result c.leave.new.seat served.of_table c.number-number.ensures c.requires.may.may
    (subst (λ (h : SeatHeld). GoesOnBy (length script) (λ added. HasCome number script (seat.seat.mine ++ added)) (seat_state seat) (seat_state h)) (sym served.seat) went) c.in_ok-leave.ensures
