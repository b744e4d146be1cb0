use Rattle.log_merge.proofs.Migrated.{migrated_is_judged_alike}
use Rattle.log_merge.proofs.law.law_migrated_verdict.Goals as goal

pub returns : goal.returns
returns c = migrated_is_judged_alike
