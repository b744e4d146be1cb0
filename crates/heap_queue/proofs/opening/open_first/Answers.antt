use Rattle.std.proofs.Common.{◌≡◌, ap, ◌∙◌, arith}
use Rattle.heap_model.specs.calls.SeatState.{SeatState, own_graph_seat}
use Rattle.mutator_seat.specs.Resting.{seat_state}
use Rattle.heap_queue.proofs.FirstSeat.{has_made, was_refused}
use Rattle.heap_queue.proofs.opening.open_first.Goals as goal

pub make_queue-requires-clause-board : goal.make_queue-requires-clause-board
make_queue-requires-clause-board g c =
    let roomy : SeatState = record (seat_state c.args.first.now) { spare = (seat_state c.room.new.self).spare } in
    omega (arith, c.requires.board, ap (λ (s : SeatState). s.heap.board) {y = roomy} c.room.ensures.same)

pub returns-in-Ok : goal.returns-in-Ok
returns-in-Ok g c =
    let now = seat_state c.room.new.self in
    let roomy : SeatState = record (seat_state c.args.first.now) { spare = now.spare } in
    let same : now ≡ roomy = c.room.ensures.same in
    has_made now c.make_queue.new.seat (ap (λ (s : SeatState). s.number) {y = roomy} same ∙ c.requires.number) (ap (λ (s : SeatState). (own_graph_seat s).left) {y = roomy} same ∙ c.requires.present)
    (ap (λ (s : SeatState). s.mine) {y = roomy} same ∙ c.requires.silent) c.in-Ok.ensures.spends c.in-Ok.ensures.called c.in-Ok.ensures.at_once

pub returns-in-Err : goal.returns-in-Err
returns-in-Err g c =
    let now = seat_state c.room.new.self in
    let roomy : SeatState = record (seat_state c.args.first.now) { spare = now.spare } in
    let same : now ≡ roomy = c.room.ensures.same in
    was_refused now c.make_queue.new.seat (ap (λ (s : SeatState). s.number) {y = roomy} same ∙ c.requires.number) (ap (λ (s : SeatState). (own_graph_seat s).left) {y = roomy} same ∙ c.requires.present)
    (ap (λ (s : SeatState). s.mine) {y = roomy} same ∙ c.requires.silent) c.in-Err.ensures.spends c.in-Err.full c.in-Err.ensures.called c.in-Err.ensures.full
