use Rattle.heap_queue.proofs.ServingParts.{finds}
use Rattle.heap_queue.proofs.serving.begin.Goals as goal

pub returns : goal.returns
returns g c = finds (g.S.SeatCalls.state c.args.seat.now) (g.S.SeatCalls.state c.find_queue.new.seat) c.args.number c.find_queue.result c.if-number-eq0.false c.requires.begun c.find_queue.ensures
