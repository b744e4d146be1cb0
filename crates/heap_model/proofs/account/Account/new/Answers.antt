use Rattle.std.proofs.Common.{ap, ◌∙◌}
use Rattle.heap_model.specs.graph.Marking.{mark_counts}
use Rattle.heap_model.specs.graph.Objects.{made_counts}
use Rattle.heap_model.proofs.account_lemmas.Opening.{opening_tells_empty_history}
use Rattle.heap_model.proofs.account.Account.new.Goals as goal

pub returns-clause-tells : goal.returns-clause-tells
returns-clause-tells c =
    rw c.new-3.ensures (opening_tells_empty_history c.args.heap _ (mark_counts c.in_ok-search.search.marks) c.requires (c.in_ok-search.ensures ∙ ap made_counts c.in_ok-new.ensures))
