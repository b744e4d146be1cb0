use Rattle.std.proofs.Common.{sym, ◌∙◌}
use Rattle.heap_model.proofs.graph_lemmas.EqualTests.{refusal_decided}
use Rattle.heap_model.proofs.graph.Graph.gets.Goals as goal

pub returns-in-Err : goal.returns-in-Err
returns-in-Err c =
    rw (sym c.cell.ensures ∙ c.in-Err.is) (refusal_decided _ c.args.i c.args.reply c.in-Err.refusal c.eq-in-Err.result (sym c.cell.ensures ∙ c.in-Err.is) c.eq-in-Err.ensures)
