use Rattle.std.proofs.Common.{◌≡◌, []}
use Rattle.std.specs.List.{range_with_len}
use Rattle.crossbeam_queue.specs.Passes.{view, IsPassOf, ruled_capacity}
use Rattle.script_crew.specs.Positions.{all_shares, tally}
use Rattle.script_crew.proofs.filling.push_positions.Given as goal

abbrev pub invariant-loop-position : goal.invariant-loop-position
invariant-loop-position g l = IsPassOf l.queue l.pass × (view l.pass ≡ tally all_shares (range_with_len 0 l.position) [] (range_with_len 0 l.position)) × (ruled_capacity l.queue ≡ l.count)
