use Rattle.std.proofs.Common.{◌<◌, List, Vec, Global, map, subst, arith}
use Rattle.std.specs.Prelude.{All}
use Rattle.std.proofs.Math.ListN.{get_or-map}
use Rattle.std.proofs.lemmas.List.{length-map}
use Rattle.std.proofs.lemmas.List.Elements.{All-map}
use Rattle.heap_model.specs.Limits.{stamp_limit}
use Rattle.heap_model.specs.declared.entry.Entry.{Entry}
use Rattle.log_merge.specs.FewSets.{set_count, HaveFewSets}
use Rattle.log_merge.proofs.few_sets.have_few_sets.Goals as goal

-- what is so of each log's entries is so of each log
each_few : (logs : List (Vec Entry Global)) → HaveFewSets (map (λ log. log.items) logs) → All (λ log. set_count log.items < stamp_limit) logs
each_few logs few k d below =
    subst (λ (log : List Entry). set_count log < stamp_limit) (get_or-map (λ (log : Vec Entry Global). log.items) logs k d)
    (few k d.items (omega (arith, below, length-map logs (λ (log : Vec Entry Global). log.items))))

pub returns : goal.returns
returns c = (
  (λ t. All-map (λ (log : List Entry). set_count log < stamp_limit) (λ (log : Vec Entry Global). log.items) c.args.logs.now (c.all_few.ensures.0 t)),
  (λ few. c.all_few.ensures.1 (each_few c.args.logs.now few)),
)
