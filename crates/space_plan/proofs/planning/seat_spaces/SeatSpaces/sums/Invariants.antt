use Rattle.std.proofs.Common.{◌≡◌, ◌*◌, ◌≤◌, ◌^◌}
use Rattle.space_plan.proofs.plan_lemmas.SeatSums.{reserves_below, since_below}
use Rattle.space_plan.proofs.planning.seat_spaces.SeatSpaces.sums.Given as goal

abbrev pub invariant-loop-seat : goal.invariant-loop-seat
invariant-loop-seat l = record {
  reserves : l.reserves ≡ reserves_below l.self.spaces l.seat;
  since : l.since ≡ since_below l.self.spaces l.seat;
  few_reserves : l.reserves ≤ 2 ^ 54 * l.seat;
  few_since : l.since ≤ 2 ^ 54 * l.seat;
}
