-- What a seat finds out by its inner calls, by events and words alone.
use Rattle.std.specs.Prelude.{◌≡◌, ◌==◌, ℕ, ◌+◌, ◌-◌, ◌^◌, ◌<◌, ◌≤◌, min, nat_lt, Bool, true, false, if◌then◌else◌, List, [], ◌∷◌, Option, Some, None}
use Rattle.heap_model.specs.Behind.{behind_of}
use Rattle.heap_model.specs.declared.behind.Behind.{Behind}
use Rattle.heap_model.specs.Heap.{IsHeap}
use Rattle.heap_model.specs.declared.heap.Heap.{Heap}
use Rattle.core_machine.specs.declared.seat.looks.Looks.{Looks}
use Rattle.core_machine.specs.declared.step.Step.{Step}
use Rattle.core_machine.specs.declared.step.Step.TheVariants.{PollLoad, Turning}
use Rattle.core_machine.specs.declared.step.TurningStep.TheVariants.{LookLoad}
use Rattle.core_machine.specs.machine.Machine.{State, seat_at, found_by, Event, Steps, Can, state_after, Run, state_after_all}
use Rattle.core_machine.specs.machine.Opening.{IsOpening}
use Rattle.core_machine.specs.Moves.{due_step}
use Rattle.core_rule.specs.Book.{Book}
use Rattle.core_rule.specs.Stands.{Stands}

-- the step that the seat makes by the event; none where the event is no step of this seat
abbrev pub step_made : Heap → State → ℕ → Event → Option Step
step_made heap state number (Steps other) = if number == other then due_step heap number (seat_at state number) else None
step_made heap state number _ = None

-- a seat that has loaded this phase finds another one behind: the step loads that one's word, which is below the phase
abbrev pub finds_behind : Heap → State → ℕ → Option Step → Bool
finds_behind heap state loaded (Some (Turning (LookLoad other))) = nat_lt (found_by heap state (Turning (LookLoad other))) loaded
finds_behind heap state loaded _ = false

-- the event is the seat's step at a comparison whose word is below the phase that it had loaded
abbrev pub is_find : Heap → State → ℕ → Event → Bool
is_find heap state number event = finds_behind heap state (seat_at state number).looks.seen (step_made heap state number event)

-- how many of these events are such steps of the seat
abbrev pub finds_in : Heap → State → List Event → ℕ → ℕ
finds_in heap state [] number = 0
finds_in heap state (event ∷ events) number = (if is_find heap state number event then 1 else 0) + finds_in heap (state_after heap state event) events number

-- after every run from the opening a seat's count is how often it found another one behind, as far as 64 bits count
unfoldable pub WaitsAreFinds : Type 0
WaitsAreFinds = (heap : Heap) (opening : State) (events : List Event) (number : ℕ) → IsHeap heap → IsOpening heap opening → Run heap opening events → number < heap.seats
    → (seat_at (state_after_all heap opening events) number).looks.waits ≡ min (finds_in heap opening events number) (2 ^ 64 - 1)

-- the count is as it was, unless there was a find: then it is one more, or stands at the largest number of 64 bits
abbrev pub CountsFind : Bool → ℕ → ℕ → Type 0
CountsFind true old new = (old + 1 < 2 ^ 64 → new ≡ old + 1) × (2 ^ 64 ≤ old + 1 → new ≡ old)
CountsFind false old new = new ≡ old

-- the phase that was loaded last: that which this step loads, where it loads the phase
abbrev pub loaded_by : Heap → State → ℕ → Option Step → ℕ
loaded_by heap state loaded (Some PollLoad) = found_by heap state PollLoad
loaded_by heap state loaded _ = loaded

-- what a comparison finds: the seat whose word is below the phase that was loaded, or none
abbrev pub comparison_of : ℕ → ℕ → ℕ → Option Behind
comparison_of other word loaded = if nat_lt word loaded then Some (behind_of other word loaded) else None

-- after a comparison the seat has found what it finds there
abbrev pub TellsBehind : Heap → State → ℕ → Option Step → Option Behind → Type 0
TellsBehind heap state loaded (Some (Turning (LookLoad other))) behind = behind ≡ comparison_of other (found_by heap state (Turning (LookLoad other))) loaded
TellsBehind heap state loaded _ behind = Unit {0}

-- what a seat has found out follows its steps: each find counts once, a comparison tells what it finds, and each load of the phase is seen
pub record FollowsSteps (heap : Heap) (state : State) (step : Option Step) (old new : Looks) : Type 0 where
  pub counts : CountsFind (finds_behind heap state old.seen step) old.waits new.waits
  pub behind : TellsBehind heap state old.seen step new.behind
  pub seen : new.seen ≡ loaded_by heap state old.seen step

-- so it is by each event that may happen in a state that a book stands for
unfoldable pub EachEventIsFollowed : Type 0
EachEventIsFollowed = (heap : Heap) (state : State) (book : Book) (event : Event) (number : ℕ) → Stands heap state book → Can heap state event → number < heap.seats
    → FollowsSteps heap state (step_made heap state number event) (seat_at state number).looks (seat_at (state_after heap state event) number).looks
