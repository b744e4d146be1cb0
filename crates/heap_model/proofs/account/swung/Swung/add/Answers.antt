use Rattle.std.proofs.Common.{◌≡◌, ◌↔◌, ◌⊎◌, subst, Contains}
use Rattle.heap_model.proofs.account_lemmas.SwungLemmas.{members_with_added_key}
use Rattle.heap_model.proofs.account.swung.Swung.add.Goals as goal

pub returns-clause-added : goal.returns-clause-added
returns-clause-added c other =
    subst (λ ids. Contains c.insert.new.self.keys other ↔ Contains ids other ⊎ (other ≡ c.args.id)) c.self.view_is
    (members_with_added_key c.self.inside.ids c.insert.new.self c.args.id c.in_ok-insert.ensures.updates other)
