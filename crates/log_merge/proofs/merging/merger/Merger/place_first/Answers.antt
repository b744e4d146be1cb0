use Rattle.std.proofs.Common.{◌≡◌, ◌≤◌, ◌+◌, ◌∙◌, Ok, false, length, map, subst, sym, arith}
use Rattle.std.proofs.lemmas.Grind.{common_steps}
use Rattle.log_merge.specs.Placing.{IsMerging, AreStuck}
use Rattle.log_merge.proofs.merge_lemmas.MergerLemmas.{AreStuck-more, all_logs_are_placed}
use Rattle.log_merge.proofs.merging.merger.Merger.place_first.Goals as goal

pub loop-number-preserved : goal.loop-number-preserved
loop-number-preserved c =
    let logs = map (λ log. log.items) c.args.logs.now in
    let number = c.loop-number.number in
    let none : c.place_next.result ≡ Ok false = cc in
    let same = c.place_next.ensures.unchanged none in
    record {
      same = same ∙ c.loop-number.invariant.same;
      merging = subst (IsMerging logs) (sym same) c.loop-number.invariant.merging;
      stuck = subst (λ m. AreStuck logs m (number + 1)) (sym same) (AreStuck-more logs c.loop-number.self number c.loop-number.invariant.stuck (c.place_next.ensures.stuck none));
    }

pub returns-clause-whole : goal.returns-clause-whole
returns-clause-whole c = λ is.
    let logs = map (λ log. log.items) c.args.logs.now in
    let past : length logs ≤ c.loop-number.number = grind (arith, common_steps) in
    all_logs_are_placed logs c.loop-number.self c.loop-number.invariant.merging (λ number below. c.loop-number.invariant.stuck number (omega (arith, below, past)))
