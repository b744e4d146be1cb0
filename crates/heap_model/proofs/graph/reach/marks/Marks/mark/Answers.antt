use Rattle.std.proofs.Common.{◌≡◌, [], get_or, rules}
use Rattle.heap_model.proofs.graph_lemmas.WalkLemmas.{marking_by-mark}
use Rattle.heap_model.proofs.graph.reach.marks.Marks.mark.Goals as goal
use Rattle.heap_model.proofs.graph.reach.marks.Marks.mark.Goals.{in-Some, in-None}

pub returns-after-get_mut-clause-marked : goal.returns-after-get_mut-clause-marked
returns-after-get_mut-clause-marked c =
    let fields = c.self.inside in
    let rows = fields.seats.items in
    elim c.match-get_mut.branch [
      | in-Some w ↦ (
          let row : w.in-Some.row.now ≡ get_or rows c.in-Made.seat [] = search rules in
          rw (w.result-is, w.self-inside-is, c.in-Made.is, ← c.self.view_is)
          (marking_by-mark fields.walk fields.board rows c.in-Made.seat c.in-Made.count w.mark.result w.in-Some.row.now w.mark.new.self row w.mark.ensures.marked))
      | in-None w ↦ rw (w.result-is, w.self-inside-is) c.self.view_is
    ]
