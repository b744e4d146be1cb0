use Rattle.std.proofs.lemmas.List.Filters.{FiltersInPlace}
use Rattle.core_machine.proofs.Terms.{out_of_group}
use Rattle.core_machine.proofs.table.fragments.leave_out.Given as goal

abbrev pub invariant-loop-position : goal.invariant-loop-position
invariant-loop-position l = FiltersInPlace (out_of_group l.group) l.fn.hand.items l.hand.items l.kept l.position
