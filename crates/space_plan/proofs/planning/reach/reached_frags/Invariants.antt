use Rattle.std.proofs.Common.{◌≡◌, ◌+◌, ◌*◌, ◌≤◌, ◌^◌, length, take}
use Rattle.std.specs.Prelude.{sum}
use Rattle.heap_model.specs.graph.Objects.{made_counts}
use Rattle.heap_model.specs.graph.Sizes.{fragments_of_all}
use Rattle.space_plan.proofs.planning.reach.reached_frags.Given as goal

abbrev pub invariant-loop-id : goal.invariant-loop-id
invariant-loop-id l = record {
  counted : l.sum ≡ fragments_of_all l.graph (take l.id-index l.id-items);
  fits : l.sum ≤ 2 ^ 32 * l.id-index;
  short : length l.id-items ≤ sum (made_counts l.graph) + 1;
}
