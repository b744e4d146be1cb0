use Rattle.std.proofs.Common.{◌≡◌, [], map}
use Rattle.std.specs.Prelude.{replicate}
use Rattle.script_crew.proofs.parting.empty_slots.Given as goal

abbrev pub invariant-loop : goal.invariant-loop
invariant-loop l = map (λ slot. slot.items) l.slots.items ≡ replicate l.counter []
