-- A heap is closed, as C has it.
use Rattle.std.specs.Prelude.{◌≡◌, ℕ, List, Option, Some, None, Result, Ok, Err}
use Rattle.heap_table.specs.Closed.{HaveOneHistory}
use Rattle.heap_table.specs.Folded.{AllFolded}
use Rattle.fodderpause_c.specs.Codes.{answer_code}
use Rattle.fodderpause_c.specs.declared.party.Party.{Party}
use Rattle.fodderpause_c.specs.declared.party.Party.TheVariants.{OfSeat, OfCollector}
use Rattle.fodderpause_c.specs.declared.refusal.Refusal.{Refusal}
use Rattle.fodderpause_c.specs.declared.refusal.Refusal.TheVariants.{NoParty, NotFolded}

-- it is a collector that has taken in every seat
abbrev pub IsOver : Party → Type 0
IsOver (OfCollector held) = AllFolded held.heap held.known.seats
IsOver (OfSeat held) = ⊥

-- it isn't closed for this cause: a seat has yet to be folded in, or it is no collector
abbrev pub RefusesClose : Party → Refusal → Type 0
RefusesClose (OfCollector held) NotFolded = ¬ AllFolded held.heap held.known.seats
RefusesClose (OfCollector held) _ = ⊥
RefusesClose (OfSeat held) NoParty = Unit {0}
RefusesClose (OfSeat held) _ = ⊥

-- one legal history, for which the table's last words stand, has exactly what each seat and the collector told
abbrev pub LeavesOneHistory : Party → Type 0
LeavesOneHistory (OfCollector held) = (words : List ℕ) × HaveOneHistory held.heap held.known words
LeavesOneHistory (OfSeat held) = ⊥

-- it goes where it has taken in every seat, and leaves one history; else it stays
abbrev pub Closes : Option Party → Option Party → Result (Unit {0}) Refusal → Type 0
Closes (Some old) new (Ok done) = IsOver old × LeavesOneHistory old × (new ≡ None)
Closes (Some old) new (Err refusal) = RefusesClose old refusal × (new ≡ Some old)
Closes None new (Err NoParty) = new ≡ None
Closes None new _ = ⊥

-- and C is told which
abbrev pub IsToldOf : (Option Party → Option Party → Result (Unit {0}) Refusal → Type 0) → Option Party → Option Party → ℕ → Type 0
IsToldOf Happens old new code = (answer : Result (Unit {0}) Refusal) × Happens old new answer × (code ≡ answer_code answer)

-- C is told whether the heap was closed
abbrev pub ClosesAll : Option Party → Option Party → ℕ → Type 0
ClosesAll = IsToldOf Closes
