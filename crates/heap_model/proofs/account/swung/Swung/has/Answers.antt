use Rattle.std.proofs.Common.{◌↔◌, IsTrue, subst, sym, Contains}
use Rattle.heap_model.proofs.account_lemmas.SwungLemmas.{contains_is_membership}
use Rattle.heap_model.proofs.account.swung.Swung.has.Goals as goal

pub returns : goal.returns
returns c =
    subst (λ ids. IsTrue c.contains.result ↔ Contains ids c.args.id) c.self.view_is
    (subst (λ b. IsTrue b ↔ Contains c.self.inside.ids.keys c.args.id) (sym c.contains.ensures) (contains_is_membership c.self.inside.ids c.args.id))
