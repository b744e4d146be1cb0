use Rattle.std.proofs.Common.{map, take}
use Rattle.script_crew.specs.Parting.{AreSlots}
use Rattle.script_crew.proofs.parting.slots_of.Given as goal

abbrev pub invariant-loop-line : goal.invariant-loop-line
invariant-loop-line l = AreSlots (take l.line-index l.fn.lines) (map (λ slot. slot.items) l.slots.items)
