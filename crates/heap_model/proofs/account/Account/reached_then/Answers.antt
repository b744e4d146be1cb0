use Rattle.std.proofs.Common.{sym, ap, subst, arith}
use Rattle.heap_model.specs.account.Books.{Books}
use Rattle.heap_model.specs.account.Cycles.{graph_of}
use Rattle.heap_model.specs.account.Windows.{up_to_cycle}
use Rattle.heap_model.specs.graph.Sizes.{HasReach}
use Rattle.heap_model.proofs.account_lemmas.CycleLemmas.{has_reach_by_books}
use Rattle.heap_model.proofs.account.Account.reached_then.Goals as goal

pub returns : goal.returns
returns c = λ history t some.
    subst (HasReach (graph_of c.args.self.now.heap (up_to_cycle history))) (sym (ap (λ (books : Books). books.cycle.frags) c.self.view_is))
    (has_reach_by_books c.args.self.now history t (omega (arith, t.all.phases, some)))
