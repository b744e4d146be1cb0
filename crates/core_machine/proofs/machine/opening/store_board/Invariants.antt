use Rattle.std.proofs.Common.{◌≡◌, length}
use Rattle.core_machine.proofs.Terms.{Address, table_length, InTable, at}
use Rattle.core_machine.specs.machine.Opening.{with_board}
use Rattle.core_machine.proofs.machine.opening.store_board.Given as goal

abbrev pub invariant-loop-position : goal.invariant-loop-position
invariant-loop-position l = record {
  table : length l.words ≡ table_length l.heap;
  board : (a : Address) → InTable l.heap a → at l.heap l.words a ≡ with_board l.heap l.position a (at l.heap l.fn.words a);
}
