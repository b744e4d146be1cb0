-- What help at a berth comes to.
use Rattle.std.specs.Prelude.{◌≡◌, ◌≢◌, ℕ, ◌∷◌, Option, Some, None}
use Rattle.heap_model.specs.declared.calls.collect.Inner.TheVariants.{Answer}
use Rattle.core_machine.specs.declared.step.Step.TheVariants.{PollLoad}
use Rattle.heap_table.specs.Made.{FoundIn}
use Rattle.heap_table.specs.SeatHeld.{SeatHeld}
use Rattle.mutator_seat.specs.InnerCalls.{MayCollect, MakesInner, ByInner}
use Rattle.mutator_seat.specs.Resting.{seat_state}
use Rattle.seat_berth.specs.Parties.{HelperSeen}
use Rattle.seat_berth.specs.Resting.{IsOf}
use Rattle.seat_berth.specs.declared.helper.Helped.{Helped}
use Rattle.seat_berth.specs.declared.helper.Helped.TheVariants.{Answered, Absent, Unable}

-- the seat has made the inner call that answers the phase, and this is the phase that it loaded
pub record AnswersBy (phase : ℕ) (old new : SeatHeld) : Type 0 where
  pub made : MakesInner old new Answer
  pub loaded : ByInner old new Answer (λ made. FoundIn made PollLoad phase)
  pub answered : new.seat.answered ≡ phase

-- the seat can't answer, since it has left or has no room, and stays as it is
pub record Stays (old new : SeatHeld) : Type 0 where
  pub may_not : ¬ MayCollect (seat_state old)
  pub same : new ≡ old

-- the helper found that its berth's seat rests, took it, did this with it, and gave it back
pub record HadSeat (old new : HelperSeen) (Does : SeatHeld → SeatHeld → Type 0) : Type 0 where
  pub took : SeatHeld
  pub gave : SeatHeld
  pub of : IsOf old.home took
  pub does : Does took gave
  pub known_is : new.known ≡ record old.known { words = 1 ∷ old.known.words; had = record { took = took; gave = gave } ∷ old.known.had }

-- the helper found that no seat rests in its berth
pub record FoundNone (old new : HelperSeen) : Type 0 where
  pub found : ℕ
  pub other : found ≢ 1
  pub known_is : new.known ≡ record old.known { words = found ∷ old.known.words }

-- it answered a phase for the seat that rested; or none rested; or that can't answer
abbrev pub Helps : HelperSeen → HelperSeen → Helped → Type 0
Helps old new (Answered phase) = HadSeat old new (AnswersBy phase)
Helps old new Absent = FoundNone old new
Helps old new Unable = HadSeat old new Stays

-- what help has come to, once the seat was taken, by what that has answered
abbrev pub helped_of : Option ℕ → Helped
helped_of (Some phase) = Answered phase
helped_of None = Unable
