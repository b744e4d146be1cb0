use Rattle.std.proofs.Common.{subst, rules}
use Rattle.heap_model.specs.account.Books.{Books}
use Rattle.heap_model.specs.account.Cycles.{graph_of}
use Rattle.heap_model.specs.account.Preparing.{IsPrepared}
use Rattle.heap_model.proofs.account_lemmas.Applying.{account_tells_entry}
use Rattle.heap_model.proofs.account.Account.apply.Goals as goal

pub returns-clause-tells : goal.returns-clause-tells
returns-clause-tells c history t same =
    let keeps = c.keeps.ensures.keeps history t same in
    account_tells_entry c.args.play c.args.self.now c.prepare.new.self c.note.new.self history c.args.entry.now t (keeps.0 (search rules))
    (subst (λ (b : Books). IsPrepared b (graph_of c.args.self.now.heap history) c.args.entry.now c.prepare.new.self) c.keeps.ensures.unchanged
    (subst (λ g. IsPrepared c.keeps.new.self g c.args.entry.now c.prepare.new.self) same c.in_ok-prepare.ensures.prepared)) c.note.ensures
