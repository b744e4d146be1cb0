use Rattle.std.proofs.Common.{◌≡◌, ◌*◌, ◌≤◌, length}
use Rattle.core_machine.proofs.Terms.{Control, clear_in, at}
use Rattle.core_machine.specs.machine.Sums.{sum_upto}
use Rattle.core_machine.proofs.machine.space.free_in.Given as goal

abbrev pub invariant-loop-group : goal.invariant-loop-group
invariant-loop-group l = record {
  counted : l.free ≡ sum_upto l.group (λ g. length (clear_in g (at l.heap l.words (Control g))));
  few : l.free ≤ 16 * l.group;
}
