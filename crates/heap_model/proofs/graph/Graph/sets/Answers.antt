use Rattle.std.proofs.Common.{sym, ◌∙◌}
use Rattle.std.proofs.lemmas.Bool.{true≢false}
use Rattle.heap_model.proofs.graph_lemmas.EqualTests.{was_decided, refusal_decided}
use Rattle.heap_model.proofs.graph.Graph.sets.Goals as goal

pub returns-then-eq : goal.returns-then-eq
returns-then-eq c =
    rw (sym c.cell.ensures ∙ c.in-Ok.is)
    (λ t. ((was_decided c.in-Ok.cell.stamp c.args.reply c.eq.result c.eq.ensures).0 c.if-eq.true, c.has_set_left.ensures.0 t), λ told. c.has_set_left.ensures.1 told.1)

pub returns-else-eq : goal.returns-else-eq
returns-else-eq c =
    rw (sym c.cell.ensures ∙ c.in-Ok.is)
    (λ t. absurd (true≢false (sym t ∙ c.if-eq.false)), λ told. (was_decided c.in-Ok.cell.stamp c.args.reply c.eq.result c.eq.ensures).1 told.0)

pub returns-in-Err : goal.returns-in-Err
returns-in-Err c =
    rw (sym c.cell.ensures ∙ c.in-Err.is) (refusal_decided _ c.args.i c.args.reply c.in-Err.refusal c.eq-in-Err.result (sym c.cell.ensures ∙ c.in-Err.is) c.eq-in-Err.ensures)
