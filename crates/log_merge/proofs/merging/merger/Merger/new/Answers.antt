use Rattle.std.proofs.Common.{◌≡◌, length, map, replicate, arith}
use Rattle.std.proofs.lemmas.Grind.{common_steps}
use Rattle.log_merge.proofs.merge_lemmas.MergerLemmas.{IsMerging-none}
use Rattle.log_merge.proofs.merging.merger.Merger.new.Goals as goal

pub returns-clause-merging : goal.returns-clause-merging
returns-clause-merging c =
    let logs = map (λ log. log.items) c.args.logs.now in
    let counts : c.in_ok-vec.field-0.items ≡ replicate (length logs) 0 = grind (arith, common_steps) in
    IsMerging-none logs _ c.requires.order c.requires.few c.new-2.ensures.items c.in_ok-new.ensures counts c.in_ok-of_logs.ensures
