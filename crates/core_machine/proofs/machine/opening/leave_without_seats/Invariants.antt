use Rattle.std.proofs.Common.{◌≡◌, length}
use Rattle.core_machine.proofs.Terms.{Address, table_length, InTable, at}
use Rattle.core_machine.specs.machine.Opening.{with_left}
use Rattle.core_machine.proofs.machine.opening.leave_without_seats.Given as goal

abbrev pub invariant-loop-number : goal.invariant-loop-number
invariant-loop-number l = record {
  table : length l.words ≡ table_length l.heap;
  left : (a : Address) → InTable l.heap a → at l.heap l.words a ≡ with_left l.heap l.number a (at l.heap l.fn.words a);
}
