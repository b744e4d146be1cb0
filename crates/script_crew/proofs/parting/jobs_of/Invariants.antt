use Rattle.std.proofs.Common.{◌≡◌, ◌++◌, length, map}
use Rattle.std.specs.Vec.Iter.{into_iter_items}
use Rattle.script_crew.specs.Parting.{AreSlots, jobs_below, told_by}
use Rattle.script_crew.proofs.parting.jobs_of.Given as goal

abbrev pub invariant-loop-commands : goal.invariant-loop-commands
invariant-loop-commands l =
    (map told_by l.jobs.items ≡ jobs_below l.number l.fn.crew.lines)
    × (length l.yielded ≡ l.number) × AreSlots l.fn.crew.lines (map (λ slot. slot.items) (l.yielded ++ into_iter_items l.commands-iterator))
