use Rattle.std.proofs.Common.{◌≡◌, ◌≤◌, ◌∷◌, [], ◌++◌, length, get_or, set, OnOk, sym, ap, ◌∙◌, rules, arith}
use Rattle.std.proofs.lemmas.List.{length-map}
use Rattle.std.proofs.lemmas.Result.{on_ok_weaker}
use Rattle.heap_model.specs.graph.Walks.{marks_by, marking_by}
use Rattle.heap_model.proofs.graph_lemmas.FoundLemmas.{added}
use Rattle.heap_model.proofs.graph_lemmas.WalkLemmas.{marking_by-added, added_past_seats_same}
use Rattle.heap_model.proofs.graph.reach.marks.Marks.add.Goals as goal
use Rattle.heap_model.proofs.graph.reach.marks.Marks.add.Goals.{in-Some, in-None}

pub returns-clause-added : goal.returns-clause-added
returns-clause-added c =
    let fields = c.self.inside in
    let rows = fields.seats.items in
    elim c.match-get_mut.branch [
      | in-Some w ↦ (
          let row : w.in-Some.row.now ≡ get_or rows c.args.seat [] = search rules in
          let more : OnOk w.add.result (marking_by fields.walk fields.board (set rows c.args.seat w.add.new.self) ≡ added (marking_by fields.walk fields.board rows) c.args.seat) =
          on_ok_weaker w.add.result (λ is. ap (λ r. marking_by fields.walk fields.board (set rows c.args.seat r)) (is ∙ ap (λ r. r ++ 0 ∷ []) row) ∙ marking_by-added fields.walk fields.board rows c.args.seat c.self.invariant.begun) w.add.ensures.added in
          rw (w.result-is, w.self-inside-is, ← c.self.view_is) more)
      | in-None w ↦ (
          let past : length rows ≤ c.args.seat = search rules in
          rw (w.result-is, w.self-inside-is, ← c.self.view_is) (sym (added_past_seats_same (marking_by fields.walk fields.board rows) c.args.seat (omega (arith, past, length-map rows (marks_by fields.walk))))))
    ]
