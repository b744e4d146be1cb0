-- The laws of answers to commands of the collector.
use Rattle.heap_model.proofs.account_lemmas.TurnedRules.{turned_may_stand}
use Rattle.heap_model.proofs.account_lemmas.TurnedCounts.{turned_count_nothing, turned_hold_nobody}
use Rattle.heap_model.proofs.account.laws.account_laws.Goals as goal

pub returns-clause-turned : goal.returns-clause-turned
returns-clause-turned c = turned_may_stand

pub returns-clause-counts : goal.returns-clause-counts
returns-clause-counts c = turned_count_nothing

pub returns-clause-behind : goal.returns-clause-behind
returns-clause-behind c = turned_hold_nobody
