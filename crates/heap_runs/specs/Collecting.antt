-- What the parts of a collect on the machine come to.
use Rattle.std.specs.Prelude.{◌≡◌, ◌≢◌, ℕ, ◌+◌, ◌-◌, ◌*◌, ◌<◌, ◌≤◌, ◌^◌, min, length, false, Some}
use Rattle.std.specs.List.{AllByRecursion}
use Rattle.heap_model.specs.declared.calls.collect.Inner.{Inner}
use Rattle.heap_model.specs.declared.calls.collect.Inner.TheVariants.{Look, Behind}
use Rattle.heap_model.specs.declared.calls.collect.CollectReply.{CollectReply}
use Rattle.heap_model.specs.declared.calls.collect.CollectReply.TheVariants.{Cycle, Waits}
use Rattle.heap_model.specs.declared.calls.collector_calls.Turn.TheVariants as turns
use Rattle.heap_model.specs.PhasePlan.{cycle_phases, clearing}
use Rattle.heap_model.specs.account.PhaseCounts.{phase}
use Rattle.heap_model.specs.account.Phases.{IsBehind}
use Rattle.core_machine.specs.machine.Machine.{BeginsInner, Can, seat_at}
use Rattle.core_rule.specs.runs.Laws.{NotesNow}
use Rattle.heap_record.specs.Recorded.{Recorded}
use Rattle.heap_runs.specs.MachineHeap.{CollectsMachine}
use Rattle.heap_runs.specs.Play.{EndsInCycle, TellsInCollect, IsFirstFrom}

-- the seat may make the inner call now
pub record MayGoOn (whole : Recorded) (number : ℕ) (inner : Inner) : Type 0 where
  pub can : Can whole.machine.heap whole.machine.state (BeginsInner number inner)
  pub now : NotesNow whole.machine.heap whole.machine.state inner

-- a seat that is there, and hasn't left
pub record IsStillThere (whole : Recorded) (number : ℕ) : Type 0 where
  pub within : number < length whole.machine.state.seats
  pub there : (seat_at whole.machine.state number).left ≡ false

-- turns were made, and answers of the seat between them; it hasn't left, and what it looked at first stays
pub record CollectGoesOn (old new : Recorded) (number : ℕ) : Type 0 where
  pub machine : CollectsMachine old new number
  pub quiet : AllByRecursion (TellsInCollect number) machine.told
  pub turns : ℕ
  pub counted : min new.turns (2 ^ 64 - 1) ≡ min (old.turns + turns) (2 ^ 64 - 1)
  pub spare : old.spare + length old.history ≤ new.spare + length new.history
  pub present : IsStillThere new number
  pub first_stays : (seat_at new.machine.state number).looks.first ≡ (seat_at old.machine.state number).looks.first
  pub onward : phase old.history ≤ phase new.history

-- the inner call by which the seat sees for itself what the turns came to: it looks at the phase, or whether the other seat is behind
abbrev pub seen_by : CollectReply → Inner
seen_by (Cycle cycle) = Look
seen_by (Waits other answer p) = Behind other

-- the last turn came to this: it ended that cycle, or it waits for that other seat
abbrev pub LastTurnIs : Recorded → ℕ → CollectReply → Type 0
LastTurnIs whole number (Cycle cycle) = (kept : ℕ) × (whole.last_turn ≡ Some (turns.Ended cycle kept)) × (phase whole.history ≡ cycle_phases * cycle + cycle_phases)
LastTurnIs whole number (Waits other answer p) =
    (other ≢ number) × (whole.last_turn ≡ Some (turns.Waits other answer p)) × (other < whole.machine.heap.seats) × IsBehind other answer p whole.history × (answer < p)

-- no cycle has ended: the phase has come to no multiple of seven
abbrev pub StaysInCycle : Recorded → Recorded → Type 0
StaysInCycle old new = (cycle : ℕ) → phase old.history < cycle_phases * cycle → phase new.history < cycle_phases * cycle

-- the cycle was under way at this phase, or at rest
abbrev pub IsUnderWayAt : ℕ → ℕ → Type 0
IsUnderWayAt p cycle = (cycle_phases * cycle ≤ p) × (p ≤ cycle_phases * cycle + clearing)

-- turns were made, of which the last ended a cycle or waits for another seat, as the reply tells
pub record ComesToEndFor (old new : Recorded) (number : ℕ) (reply : CollectReply) : Type 0 where
  pub goes : CollectGoesOn old new number
  pub some : 0 < goes.turns
  pub comes : LastTurnIs new number reply
  pub last : (cycle : ℕ) → reply ≡ Cycle cycle → EndsInCycle cycle goes.machine.told

-- that was the first that did so: a cycle that ended is the one at whose phases the turns began
pub record EndsFor (old new : Recorded) (number : ℕ) (reply : CollectReply) : Type 0 where
  pub ends : ComesToEndFor old new number reply
  pub under_way : (cycle : ℕ) → reply ≡ Cycle cycle → IsUnderWayAt (phase old.history) cycle

-- a cycle that ended is the first that began not before the first turn
pub record EndsWholeFor (old new : Recorded) (number : ℕ) (reply : CollectReply) : Type 0 where
  pub ends : ComesToEndFor old new number reply
  pub first : (cycle : ℕ) → reply ≡ Cycle cycle → IsFirstFrom (phase old.history) cycle
