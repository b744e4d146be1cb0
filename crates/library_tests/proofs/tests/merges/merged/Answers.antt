use Rattle.std.proofs.Common.{◌∙◌, Vec, Global, ap, map}
use Rattle.heap_model.specs.declared.entry.Entry.{Entry}
use Rattle.library_tests.proofs.tests.merges.merged.Goals as goal

pub merge-requires-clause-order : goal.merge-requires-clause-order
merge-requires-clause-order c = record {
  history = c.args.entries.now;
  legal = c.in_ok-accept.ensures;
  kept = ap (map (λ (log : Vec Entry Global). log.items)) c.as_slice-2.ensures.value ∙ c.in_ok-logs.ensures;
}
