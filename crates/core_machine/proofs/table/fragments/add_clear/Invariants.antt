use Rattle.std.proofs.Common.{◌≡◌, ◌++◌}
use Rattle.core_machine.proofs.Terms.{clear_among}
use Rattle.core_machine.proofs.table.fragments.add_clear.Given as goal

abbrev pub invariant-loop-position : goal.invariant-loop-position
invariant-loop-position l = l.hand.items ≡ l.fn.hand.items ++ clear_among l.group l.word l.position
