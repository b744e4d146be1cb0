-- The inner calls of a collect, and how much is left to a seat.
use Rattle.std.specs.Prelude.{◌≡◌, ℕ, ◌+◌, ◌-◌, ◌^◌, ◌<◌, ◌≤◌, ◌⊎◌, true, false, length, Option, Result, Ok, Err}
use Rattle.heap_model.specs.Limits.{name_limit, set_limit}
use Rattle.heap_model.specs.calls.SeatState.{own_graph_seat}
use Rattle.heap_model.specs.declared.calls.collect.CollectReply.{CollectReply}
use Rattle.heap_model.specs.declared.calls.collect.CollectReply.TheVariants.{Waits}
use Rattle.heap_model.specs.declared.calls.collect.Inner.{Inner}
use Rattle.heap_model.specs.declared.calls.collect.Inner.TheVariants as inners
use Rattle.core_machine.specs.declared.step.Step.TheVariants.{PollLoad}
use Rattle.core_machine.specs.machine.Machine.{MayBeginInner}
use Rattle.core_machine.specs.seat.Looks.{MayMake}
use Rattle.heap_table.specs.Made.{FoundIn}
use Rattle.heap_table.specs.SeatHeld.{SeatHeld}
use Rattle.mutator_seat.specs.InnerCalls.{MayCollect, MakesInner, ByInner, ShowsBehind}
use Rattle.mutator_seat.specs.Resting.{seat_state}
use Rattle.fodderpause_c.specs.declared.refusal.Refusal.{Refusal}
use Rattle.fodderpause_c.specs.declared.refusal.Refusal.TheVariants as causes

-- the seat may make the inner call
pub record MayMakeInner (held : SeatHeld) (inner : Inner) : Type 0 where
  pub ready : MayCollect (seat_state held)
  pub makes : MayMake held.heap held.number held.seat.looks inner

-- why an inner call may not be begun, where that is so: a note tells what wasn't found, and another asks no other seat of the heap
abbrev pub cause_of : Inner → Refusal
cause_of (inners.Note reply) = causes.NotFound
cause_of inners.Look = causes.OutOfRange
cause_of inners.Answer = causes.OutOfRange
cause_of (inners.Behind other) = causes.OutOfRange

-- the seat has left, or has no room for what an inner call tells
abbrev pub IsUnready : SeatHeld → Refusal → Type 0
IsUnready held causes.HasLeft = (own_graph_seat (seat_state held)).left ≡ true
IsUnready held causes.EntriesSpent = ((own_graph_seat (seat_state held)).left ≡ false) × (held.spare < 4)
IsUnready held _ = ⊥

-- the inner call names a seat by a number of more than eight bits, which no seat has
abbrev pub NamesNoSeat : Inner → Type 0
NamesNoSeat (inners.Behind other) = 2 ^ 8 ≤ other
NamesNoSeat (inners.Note (Waits other answered phase)) = 2 ^ 8 ≤ other
NamesNoSeat _ = ⊥

-- the inner call may not be begun, though the seat is ready
pub record IsBarred (held : SeatHeld) (inner : Inner) (refusal : Refusal) : Type 0 where
  pub ready : MayCollect (seat_state held)
  pub barred : (¬ MayBeginInner held.heap held.number held.seat inner) ⊎ NamesNoSeat inner
  pub cause : refusal ≡ cause_of inner

-- the seat may not make the inner call for this cause, the first that stands
abbrev pub RefusesInner : SeatHeld → Inner → Refusal → Type 0
RefusesInner held inner refusal = IsUnready held refusal ⊎ IsBarred held inner refusal

-- the seat makes the inner call, which it may, and so it answers; or it may not, and is as it was
abbrev pub Makes : {A : Type 0} → Inner → (SeatHeld → SeatHeld → A → Type 0) → SeatHeld → SeatHeld → Result A Refusal → Type 0
Makes inner Answers old new (Ok answer) = MayMakeInner old inner × MakesInner old new inner × Answers old new answer
Makes inner Answers old new (Err refusal) = RefusesInner old inner refusal × (new ≡ old)

-- the answer is the phase that was loaded
abbrev pub FindsPhase : Inner → SeatHeld → SeatHeld → ℕ → Type 0
FindsPhase inner old new phase = ByInner old new inner (λ made. FoundIn made PollLoad phase)

-- the seat looks at the phase
abbrev pub Looks : SeatHeld → SeatHeld → Result ℕ Refusal → Type 0
Looks = Makes inners.Look (FindsPhase inners.Look)

-- the seat answers the phase
abbrev pub AnswersPhase : SeatHeld → SeatHeld → Result ℕ Refusal → Type 0
AnswersPhase = Makes inners.Answer (FindsPhase inners.Answer)

-- the seat looks whether this other seat is behind
abbrev pub LooksBehind : ℕ → SeatHeld → SeatHeld → Result (Option (ℕ × ℕ)) Refusal → Type 0
LooksBehind other = Makes (inners.Behind other) (λ old new answer. ByInner old new (inners.Behind other) (λ made. ShowsBehind made other answer))

-- the seat notes what its collect came to
abbrev pub Notes : CollectReply → SeatHeld → SeatHeld → Result (Unit {0}) Refusal → Type 0
Notes reply = Makes (inners.Note reply) (λ old new answer. Unit {0})

-- nothing happens to the seat, and this is told of it
abbrev pub Tells : {A : Type 0} → (SeatHeld → A → Type 0) → SeatHeld → SeatHeld → Result A Refusal → Type 0
Tells IsOf old new (Ok answer) = (new ≡ old) × IsOf old answer
Tells IsOf old new (Err refusal) = ⊥

-- how many more objects it can make
abbrev pub TellsNames : SeatHeld → SeatHeld → Result ℕ Refusal → Type 0
TellsNames = Tells (λ held left. left + length (own_graph_seat (seat_state held)).objects ≡ name_limit - 1)

-- how many more sets it can do
abbrev pub TellsSets : SeatHeld → SeatHeld → Result ℕ Refusal → Type 0
TellsSets = Tells (λ held left. left + (own_graph_seat (seat_state held)).sets ≡ set_limit - 1)
