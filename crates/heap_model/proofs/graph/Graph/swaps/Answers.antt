use Rattle.std.proofs.Common.{inl, inr, sym, ◌∙◌}
use Rattle.std.proofs.lemmas.Bool.{true≢false}
use Rattle.std.proofs.lemmas.Bool.Decides.{Decides-eqb, Decides-at, Decides-not}
use Rattle.heap_model.proofs.graph_lemmas.EqualTests.{equal_cells, refusal_decided}
use Rattle.heap_model.proofs.graph.Graph.swaps.Goals as goal
use Rattle.heap_model.proofs.graph.Graph.swaps.Goals.{then-eq, else-eq}

pub returns-then-stamp-cell : goal.returns-then-stamp-cell
returns-then-stamp-cell c =
    let found = c.in-Ok-Was in
    let same = (Decides-at _ _ c.eq.ensures (equal_cells found.cell c.register-seen.result)).0 c.if-stamp-cell.true.0 in
    rw (sym c.cell.ensures ∙ found.is-0, found.is-1, ← c.register-seen.ensures)
    (λ t. (same, c.if-stamp-cell.true.1, c.has_set_left.ensures.0 t), λ told. c.has_set_left.ensures.1 told.2)

pub returns-else-stamp-cell : goal.returns-else-stamp-cell
returns-else-stamp-cell c =
    let found = c.in-Ok-Was in
    let same = Decides-at _ _ c.eq.ensures (equal_cells found.cell c.register-seen.result) in
    let stamps = Decides-eqb found.stamp found.cell.stamp in
    rw (sym c.cell.ensures ∙ found.is-0, found.is-1, ← c.register-seen.ensures)
    (elim c.if-eq.branch [
      | then-eq w ↦ (
        λ t. elim c.if-stamp-cell.either [
          | inl d ↦ absurd (d.1 (stamps.0 (sym w.t-19-is ∙ t)))
          | inr f ↦ absurd (true≢false (sym w.if-eq.true ∙ f))
        ],
        λ told. w.t-19-is ∙ stamps.1 told.1,
      )
      | else-eq w ↦ (λ t. absurd (true≢false (sym t ∙ (w.t-19-is ∙ w.if-eq.false))), λ told. w.t-19-is ∙ same.1 told.0)
    ])

pub returns-then-ne : goal.returns-then-ne
returns-then-ne c =
    let found = c.in-Ok-Now in
    let differs = Decides-at _ _ c.ne.ensures (Decides-not _ (equal_cells found.cell c.register-seen.result)) in
    let stamps = Decides-eqb found.stamp found.cell.stamp in
    rw (sym c.cell.ensures ∙ found.is-0, found.is-1, ← c.register-seen.ensures)
    (λ t. (differs.0 c.if-ne.true, stamps.0 t), λ told. stamps.1 told.1)

pub returns-else-ne : goal.returns-else-ne
returns-else-ne c =
    let found = c.in-Ok-Now in
    let differs = Decides-at _ _ c.ne.ensures (Decides-not _ (equal_cells found.cell c.register-seen.result)) in
    rw (sym c.cell.ensures ∙ found.is-0, found.is-1, ← c.register-seen.ensures)
    (λ t. absurd (true≢false (sym t ∙ c.if-ne.false)), λ told. differs.1 told.0)

pub returns-in-Err-default : goal.returns-in-Err-default
returns-in-Err-default c =
    let read = c.in-Err-default in
    rw (sym c.cell.ensures ∙ read.is-0) (refusal_decided _ c.args.i c.args.reply read.refusal c.eq-in-Err-default.result (sym c.cell.ensures ∙ read.is-0) c.eq-in-Err-default.ensures)
