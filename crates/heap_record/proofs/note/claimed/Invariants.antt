use Rattle.std.proofs.Common.{◌≡◌, take}
use Rattle.heap_record.specs.Recorded.{claimed_by}
use Rattle.heap_record.proofs.note.claimed.Given as goal

-- what was taken so far
abbrev pub invariant-loop-entry : goal.invariant-loop-entry
invariant-loop-entry l = l.taken ≡ claimed_by (take l.entry-index l.entries)
