use Rattle.std.proofs.Common.{◌≡◌, length, ap, ◌∙◌, arith}
use Rattle.std.proofs.lemmas.List.{get_or-replicate}
use Rattle.heap_model.specs.calls.SeatState.{own_graph_seat}
use Rattle.heap_model.specs.graph.Graph.{GraphSeat, opening, opening_graph_seat}
use Rattle.heap_model.specs.graph.Growth.{graph_after}
use Rattle.heap_model.specs.graph.Objects.{absent_graph_seat, graph_seat}
use Rattle.heap_runs.specs.PlayHeap.{PlayState, seat_state_of}
use Rattle.run_tests.proofs.tests.first_record.Goals as goal

pub call-requires : goal.call-requires
call-requires g c =
    let state : PlayState = g.H.PlayHeap.state c.args.whole.now in
    let seat : own_graph_seat (seat_state_of state 0) ≡ opening_graph_seat
    = ap (λ es. graph_seat (graph_after (opening state.heap) es) 0) c.requires.fresh ∙ get_or-replicate state.heap.seats 0 opening_graph_seat absent_graph_seat c.requires.seats in
    record {
      may = record {
        within = c.requires.seats;
        present = ap (λ (s : GraphSeat). s.left) seat;
        in_range = ((omega arith, omega arith), (omega arith, omega arith));
        numbered = omega (arith, ap (λ (s : GraphSeat). length s.objects) seat);
      };
    }
