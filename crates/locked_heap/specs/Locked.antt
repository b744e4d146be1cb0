-- What contracts see of the heap under the lock.
use Rattle.std.specs.Prelude.{◌≡◌, ◌≢◌, ℕ, ◌+◌, ◌-◌, ◌*◌, ◌^◌, ◌<◌, ◌≤◌, ◌⊎◌, ◌==◌, if◌then◌else◌, Bool, true, false, min, List, ◌∷◌, [], ◌++◌, length, drop, slice_get, Some, None}
use Rattle.heap_model.specs.Behind.{as_collect_reply}
use Rattle.heap_model.specs.declared.behind.Behind.{Behind}
use Rattle.heap_model.specs.declared.command.Command.{Command}
use Rattle.heap_model.specs.declared.command.Command.TheVariants.{Collect}
use Rattle.heap_model.specs.declared.calls.collect.CollectReply.{CollectReply}
use Rattle.heap_model.specs.declared.calls.collect.CollectReply.TheVariants.{Cycle, Waits}
use Rattle.heap_model.specs.declared.calls.collect.Inner.{Inner}
use Rattle.heap_model.specs.declared.calls.collect.Inner.TheVariants as inners
use Rattle.heap_model.specs.declared.calls.collector_calls.Turn.{Turn}
use Rattle.heap_model.specs.declared.calls.collector_calls.Turn.TheVariants as turns
use Rattle.heap_model.specs.declared.entry.Entry.{Entry}
use Rattle.heap_model.specs.declared.entry.Entry.TheVariants.{Said}
use Rattle.heap_model.specs.declared.heap.Heap.{Heap}
use Rattle.heap_model.specs.PhasePlan.{cycle_phases}
use Rattle.heap_model.specs.account.Space.{total}
use Rattle.core_machine.specs.machine.Machine.{State, seat_at, Event, BeginsInner, Can}
use Rattle.core_machine.specs.seat.Looks.{noted_reply}
use Rattle.slack_pace.specs.Slack.{MakesEach, last_made, HasWaited}
use Rattle.locked_heap.specs.declared.progress.Progress.{Progress}
use Rattle.locked_heap.specs.Given.{Given, IsGiven, script_of}
use Rattle.locked_heap.specs.Progress.{progress_at, HasCome}
use Rattle.heap_record.specs.Recorded.{Recorded, EventsLeadTo, StandsStill, MakesInner, MakesTurn, collector_of}
use Rattle.heap_model.specs.runs.Told.{EndsWithLeave}

-- they lead from the opening that was given
abbrev pub OpensAs : Given → Heap → State → List Event → Type 0
OpensAs given heap opening events = opening ≡ given.opening

-- a run from what was given led to the machine and its history, between whose entries nothing was noted
pub record IsRunFrom (given : Given) (recorded : Recorded) : Type 0 where
  pub given_right : IsGiven given
  pub of_heap : recorded.machine.heap ≡ given.heap
  pub led : EventsLeadTo (OpensAs given) recorded.machine.heap recorded.machine.state recorded.history
  pub plain : recorded.listed ≡ recorded.history

-- the machine with its history, how far each seat has come, how many fragments were claimed since the collector last made its slack, and whether the seats' workers
-- have returned
pub record LockedValue : Type 0 where
  pub recorded : Recorded
  pub seats : List Progress
  pub owed : ℕ
  pub over : Bool

-- each seat has come as far as is kept of it
pub record AllHaveCome (given : Given) (told : List Entry) (state : State) (seats : List Progress) : Type 0 where
  pub seated : length seats ≡ given.heap.seats
  pub each : (number : ℕ) → number < given.heap.seats → HasCome given told number (seat_at state number) (progress_at seats number)

-- the seat has left
abbrev pub SeatHasLeft : List Progress → ℕ → Type 0
SeatHasLeft seats number = (progress_at seats number).gone ≡ true

-- every seat has left
abbrev pub AllGone : Given → List Progress → Type 0
AllGone given seats = (number : ℕ) → number < given.heap.seats → SeatHasLeft seats number

-- not all have
abbrev pub SomeAreThere : Given → List Progress → Type 0
SomeAreThere given seats = ¬ AllGone given seats

-- once every seat has left nothing is told behind the last leave
pub record IsParted (given : Given) (told : List Entry) (seats : List Progress) : Type 0 where
  pub behind_leave : AllGone given seats → EndsWithLeave told

-- a run from what was given led here, each seat has come as far as is kept of it, nothing is told behind the last leave, and the patience is the one given
pub record StandsLocked (given : Given) (locked : LockedValue) (patience : ℕ) : Type 0 where
  pub run : IsRunFrom given locked.recorded
  pub come : AllHaveCome given locked.recorded.history locked.recorded.machine.state locked.seats
  pub parted : IsParted given locked.recorded.history locked.seats
  pub patient : patience ≡ given.patience

-- the command is the seat's next one, and the seat hasn't left
pub record IsNext (given : Given) (seats : List Progress) (number : ℕ) (command : Command) : Type 0 where
  pub within : number < given.heap.seats
  pub there : (progress_at seats number).gone ≡ false
  pub next : slice_get (script_of given number) (progress_at seats number).position ≡ Some command

-- the seat is in a collect that has begun
pub record IsCollecting (given : Given) (seats : List Progress) (number : ℕ) : Type 0 where
  pub next : IsNext given seats number Collect
  pub begun : (progress_at seats number).target ≢ None

-- who has left stays so
abbrev pub KeepsGone : List Progress → List Progress → Type 0
KeepsGone old new = (number : ℕ) → SeatHasLeft old number → SeatHasLeft new number

-- the seat has come one command further at most, where it had left it stays so, the others are where they were, and the seats' workers have returned no more than before
pub record ComesOneFurther (old new : LockedValue) (number : ℕ) : Type 0 where
  pub onward : (progress_at old.seats number).position ≤ (progress_at new.seats number).position
  pub few : (progress_at new.seats number).position ≤ (progress_at old.seats number).position + 1
  pub gone_stays : SeatHasLeft old.seats number → SeatHasLeft new.seats number
  pub others : (other : ℕ) → other ≢ number → progress_at new.seats other ≡ progress_at old.seats other
  pub over_stays : new.over ≡ old.over

-- what is owed is more by what the new entries claim, or stands at the last number of its type
abbrev pub OwesMore : LockedValue → LockedValue → Type 0
OwesMore old new =
    new.owed ≡ min (old.owed + total (λ e. e.taken) (drop (length old.recorded.history) new.recorded.history)) (2 ^ 64 - 1)

-- the entries that were added claim nothing, and as much is owed as before
pub record OwesNoMore (old new : LockedValue) : Type 0 where
  pub added : List Entry
  pub grown : new.recorded.history ≡ old.recorded.history ++ added
  pub none_claimed : total (λ e. e.taken) added ≡ 0
  pub owed_stays : new.owed ≡ old.owed

-- the inner call tells no reply
abbrev pub IsQuiet : Inner → Type 0
IsQuiet (inners.Note reply) = ⊥
IsQuiet _ = Unit {0}

-- since its collect began the seat has found another one behind as often as its patience asks, or as often as is counted
abbrev pub IsPatient : Given → LockedValue → ℕ → Type 0
IsPatient given locked number =
    let finds = (seat_at locked.recorded.machine.state number).looks.waits in
    ((progress_at locked.seats number).paid + given.patience ≤ finds) ⊎ (2 ^ 64 - 1 ≤ finds)

-- the reply is no wait, or the seat was patient
abbrev pub MayAnswer : Given → LockedValue → ℕ → CollectReply → Type 0
MayAnswer given locked number (Cycle cycle) = Unit {0}
MayAnswer given locked number (Waits other answered p) = IsPatient given locked number

-- the seat has seen the end of this cycle
abbrev pub HasSeenEnd : LockedValue → ℕ → ℕ → Type 0
HasSeenEnd locked number cycle = cycle_phases * (cycle + 1) ≤ (seat_at locked.recorded.machine.state number).looks.seen

-- the seat's collect was answered so, and the seat has come to its next command
pub record TellsAnswer (old new : LockedValue) (number : ℕ) (came : CollectReply) : Type 0 where
  pub told : new.recorded.history ≡ old.recorded.history ++ Said number Collect (noted_reply came) ∷ []
  pub onward : (progress_at new.seats number).position ≡ (progress_at old.seats number).position + 1

-- the collect is answered that it waits for the seat that was found behind last, where one was, and the seat was patient
abbrev pub AnswersWait : Given → LockedValue → LockedValue → ℕ → Type 0
AnswersWait given old new number = IsPatient given old number → (found : Behind) → (seat_at old.recorded.machine.state number).looks.behind ≡ Some found
    → TellsAnswer old new number (as_collect_reply found)

-- the inner call by which the seat finds out what a turn of its collect came to: it answers the phase, or looks whether the other seat is behind, or how far the phase has come
abbrev pub found_by_turn : ℕ → Turn → Inner
found_by_turn number (turns.Waits other answered p) = if other == number then inners.Answer else inners.Behind other
found_by_turn number _ = inners.Look

-- one turn was made for the seat's collect, the seat has found out what that came to, and the collect is answered where this answers it: first that its cycle has ended, and
-- only else that it waits
pub record CollectsOn (given : Given) (old new : LockedValue) (number target : ℕ) : Type 0 where
  pub ready : Recorded
  pub still : StandsStill old.recorded ready
  pub turned : LockedValue
  pub turn : Turn
  pub turns : MakesTurn ready turned.recorded turn
  pub found : LockedValue
  pub finds : Can turned.recorded.machine.heap turned.recorded.machine.state (BeginsInner number (found_by_turn number turn))
      → MakesInner turned.recorded found.recorded number (found_by_turn number turn)
  pub ended : HasSeenEnd found number target → TellsAnswer found new number (Cycle target)
  pub waits : ¬ HasSeenEnd found number target → AnswersWait given found new number

-- once there was room, not more turns were made than these, one after another, and fewer only where the last waits; nothing is owed then
pub record MakesSlack (asked : ℕ) (old new : LockedValue) : Type 0 where
  pub ready : Recorded
  pub still : StandsStill old.recorded ready
  pub made : ℕ
  pub most : made ≤ asked
  pub turns : MakesEach MakesTurn made ready new.recorded
  pub fewer : made < asked → HasWaited (last_made made (collector_of new.recorded))
  pub seats_stay : new.seats ≡ old.seats
  pub over_stays : new.over ≡ old.over
  pub none_owed : new.owed ≡ 0

-- no more slack is wanted: the seats' workers have returned, or every seat has left
abbrev pub IsOver : Given → LockedValue → Type 0
IsOver given locked = (locked.over ≡ true) ⊎ AllGone given locked.seats
