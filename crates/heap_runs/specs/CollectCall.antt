-- A collect of a seat while others step, by the seat's own inner calls.
use Rattle.std.specs.Prelude.{◌≡◌, ℕ, ◌+◌, ◌-◌, ◌*◌, ◌^◌, ◌<◌, ◌≤◌, ◌⊎◌, false, List, [], ◌∷◌, ◌++◌, Option, Some, None}
use Rattle.std.specs.List.{AllByRecursion}
use Rattle.heap_model.specs.Behind.{behind_of}
use Rattle.heap_model.specs.declared.behind.Behind.{Behind}
use Rattle.heap_model.specs.calls.SeatState.{own_graph, own_graph_seat}
use Rattle.heap_model.specs.declared.calls.collect.CollectReply.{CollectReply}
use Rattle.heap_model.specs.declared.calls.collect.CollectReply.TheVariants.{Cycle, Waits}
use Rattle.heap_model.specs.declared.calls.collect.Inner.{Inner}
use Rattle.heap_model.specs.declared.calls.collect.Inner.TheVariants.{Look, Note}
use Rattle.heap_model.specs.declared.command.Command.TheVariants.{Collect}
use Rattle.heap_model.specs.declared.entry.Entry.{Entry}
use Rattle.heap_model.specs.declared.entry.Entry.TheVariants.{Said, Answers}
use Rattle.heap_model.specs.PhasePlan.{cycle_phases}
use Rattle.core_machine.specs.declared.seat.looks.Looks.{Looks}
use Rattle.core_machine.specs.machine.Machine.{MayBeginInner}
use Rattle.core_machine.specs.seat.Looks.{MayNote, noted_reply}
use Rattle.heap_table.specs.SeatHeld.{SeatHeld}
use Rattle.mutator_seat.specs.InnerCalls.{MakesInner}
use Rattle.mutator_seat.specs.Resting.{seat_state, MakesRoom}

-- the seat hasn't left
abbrev pub IsPresent : SeatHeld → Type 0
IsPresent held = (own_graph_seat (seat_state held)).left ≡ false

-- the seat made these inner calls, one after another, each once there was room, and nothing else
abbrev pub MakesInners : List Inner → SeatHeld → SeatHeld → Type 0
MakesInners [] old new = MakesRoom old new
MakesInners (inner ∷ more) old new = (ready : SeatHeld) × (made : SeatHeld) × MakesRoom old ready × MakesInner ready made inner × MakesInners more made new

-- the inner call tells no reply
abbrev pub IsQuiet : Inner → Type 0
IsQuiet (Note reply) = ⊥
IsQuiet _ = Unit {0}

-- the entry tells that the seat has answered a phase
abbrev pub IsAnswerOf : ℕ → Entry → Type 0
IsAnswerOf number (Answers other phase) = other ≡ number
IsAnswerOf number _ = ⊥

-- it is the same seat of the same table and heap, and whether it has left, its registers, its objects and its sets are by its own entries as before
pub record IsSameSeat (old new : SeatHeld) : Type 0 where
  pub table_stays : new.table ≡ old.table
  pub heap_stays : new.heap ≡ old.heap
  pub number_stays : new.number ≡ old.number
  pub graph_stays : own_graph (seat_state new) ≡ own_graph (seat_state old)

-- the seat made inner calls that tell no reply, and nothing else; it has told at most which phases it answered, and has found others behind as often as before, or more often
pub record LooksAround (old new : SeatHeld) : Type 0 where
  pub calls : List Inner
  pub quiet : AllByRecursion IsQuiet calls
  pub made : MakesInners calls old new
  pub same : IsSameSeat old new
  pub answers : List Entry
  pub own : AllByRecursion (IsAnswerOf old.number) answers
  pub mine : new.seat.mine ≡ old.seat.mine ++ answers
  pub waits : old.seat.looks.waits ≤ new.seat.looks.waits

-- the cycle is the first that begins at the phase that was looked at first, or behind it, and later a phase was loaded that is not before the cycle's end
pub record HasSeenTarget (first seen cycle : ℕ) : Type 0 where
  pub behind : first ≤ cycle_phases * cycle
  pub first_such : cycle_phases * cycle < first + cycle_phases
  pub ended : cycle_phases * (cycle + 1) ≤ seen

-- others were found behind as often more as the patience asks, or as often as is counted
abbrev pub IsPatient : ℕ → ℕ → ℕ → Type 0
IsPatient patience before now = (before + patience ≤ now) ⊎ (2 ^ 64 - 1 ≤ now)

-- a cycle is answered only once it was seen to end, and that it waits only by a patient seat, which shows whom it has found behind last
abbrev pub IsCauseOf : ℕ → SeatHeld → SeatHeld → SeatHeld → CollectReply → Type 0
IsCauseOf patience old looked found (Cycle cycle) = HasSeenTarget looked.seat.looks.seen found.seat.looks.seen cycle
IsCauseOf patience old looked found (Waits other answered phase) =
    IsPatient patience old.seat.looks.waits found.seat.looks.waits × (found.seat.looks.behind ≡ Some (behind_of other answered phase))

-- the seat looked at the phase, made inner calls that tell no reply, and noted this one, for which there was such a cause; it has told nothing else but which phases it answered
pub record AnswersCollect (patience : ℕ) (old new : SeatHeld) (reply : CollectReply) : Type 0 where
  pub looked : SeatHeld
  pub looks : MakesInners (Look ∷ []) old looked
  pub found : SeatHeld
  pub around : LooksAround looked found
  pub notes : MakesInners (Note reply ∷ []) found new
  pub cause : IsCauseOf patience old looked found reply
  pub same : IsSameSeat old new
  pub answers : List Entry
  pub own : AllByRecursion (IsAnswerOf old.number) answers
  pub mine : new.seat.mine ≡ old.seat.mine ++ (answers ++ Said old.number Collect (noted_reply reply) ∷ [])
  pub finds_stay : new.seat.looks.waits ≡ found.seat.looks.waits
  pub waits : old.seat.looks.waits ≤ new.seat.looks.waits

-- the reply is one that the seat may note now: that its target has ended, or that it waits, once it has found others behind so often
abbrev pub MayAnswer : ℕ → ℕ → Looks → CollectReply → Type 0
MayAnswer target enough looks (Cycle cycle) = (cycle ≡ target) × MayNote looks (Cycle cycle)
MayAnswer target enough looks (Waits other answered phase) = (enough ≤ looks.waits) × MayNote looks (Waits other answered phase)

-- the seat may note no end of its target now, and has found others behind too seldom, or nobody just now
pub record LacksReply (target enough : ℕ) (held : SeatHeld) (found : Option Behind) : Type 0 where
  pub unended : ¬ MayBeginInner held.heap held.number held.seat (Note (Cycle target))
  pub impatient : (held.seat.looks.waits < enough) ⊎ (found ≡ None)
