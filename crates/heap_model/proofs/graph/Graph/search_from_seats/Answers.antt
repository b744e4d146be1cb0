use Rattle.std.proofs.Common.{◌≡◌, ◌<◌, ◌≤◌, [], get_or, length, subst, ◌∙◌, rules}
use Rattle.heap_model.specs.graph.Reach.{IsRoot}
use Rattle.heap_model.specs.graph.Search.{FoundFromSeat, GoesOn}
use Rattle.heap_model.specs.graph.Marking.{mark_counts, no_marks}
use Rattle.heap_model.proofs.graph_lemmas.MarkLemmas.{mark_counts-no_marks}
use Rattle.heap_model.proofs.graph_lemmas.SearchLemmas.{IsSearch-start}
use Rattle.heap_model.proofs.graph_lemmas.NoteLemmas.{GoesOn-seat, found_from_seats, All-taken}
use Rattle.heap_model.proofs.graph.Graph.search_from_seats.Goals as goal

pub loop-seat-preserved : goal.loop-seat-preserved
loop-seat-preserved c =
    let noted = c.note_seat.ensures in
    let within : c.loop-seat.seat-index < length c.args.self.now.seats = search rules in
    let is : c.seat-item.result ≡ get_or c.args.self.now.seats c.loop-seat.seat-index c.seat-item.result = search rules in
    record {
      goes_on = GoesOn-seat c.args.self.now c.loop-seat.seat-index c.seat-item.result within is c.loop-seat.invariant.goes_on noted.goes_on;
      found = found_from_seats c.args.self.now.seats c.loop-seat.seat-index c.seat-item.result within is noted.goes_on c.loop-seat.invariant.found noted.found;
    }

pub returns-clause-reached : goal.returns-clause-reached
returns-clause-reached c = λ there.
    let past : length c.args.self.now.seats ≤ c.loop-seat.seat-index = search rules in
    let start = subst (λ counts. GoesOn (IsRoot c.args.self.now) (record { marks = no_marks counts; waiting = [] }) c.loop-seat.search) there c.loop-seat.invariant.goes_on in
    IsSearch-start c.args.self.now c.loop-seat.search start
    (All-taken (FoundFromSeat c.loop-seat.search.marks) c.args.self.now.seats c.args.self.now.seats c.loop-seat.seat-index (search rules) past c.loop-seat.invariant.found)

pub returns-clause-marks : goal.returns-clause-marks
returns-clause-marks c = c.loop-seat.invariant.goes_on.marks_stay ∙ mark_counts-no_marks (mark_counts c.args.search.now.marks)
