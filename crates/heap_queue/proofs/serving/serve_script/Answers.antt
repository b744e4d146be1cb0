use Rattle.heap_queue.proofs.ServingParts.{comes_ok}
use Rattle.heap_queue.proofs.serving.serve_script.Goals as goal

pub returns : goal.returns
returns g c = comes_ok (g.S.SeatCalls.state c.args.seat.now) (g.S.SeatCalls.state c.begin.new.seat) (g.S.SeatCalls.state c.serve_each.new.seat) c.args.number c.args.script.now c.serve_each.result c.requires.number c.in_ok-begin.ensures c.serve_each.ensures
