use Rattle.std.proofs.Common.{ap, unwrap_or}
use Rattle.log_merge.proofs.merge_lemmas.Kinds.{unequal_kinds_are_untied}
use Rattle.log_merge.proofs.merging.pending_gets.PendingGets.add.Goals as goal

pub returns-clause-others : goal.returns-clause-others
returns-clause-others c = λ other apart. ap (λ o. unwrap_or o 0) (c.in_ok-insert.ensures.updates.2 other (unequal_kinds_are_untied c.args.get other apart))
