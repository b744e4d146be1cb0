-- What is true of a seat's own data while it answers the phase, leaves, or looks at no word.
use Rattle.std.specs.Prelude.{◌≡◌, ◌≢◌, ℕ, ◌<◌, List, [], length, None}
use Rattle.heap_model.specs.declared.command.Command.{Command}
use Rattle.heap_model.specs.declared.command.Command.TheVariants as commands
use Rattle.core_machine.specs.declared.point.Polling.{Polling}
use Rattle.core_machine.specs.declared.point.Polling.TheVariants as polling
use Rattle.core_machine.specs.declared.point.Leaving.{Leaving}
use Rattle.core_machine.specs.declared.point.Leaving.TheVariants as leaving
use Rattle.core_machine.specs.declared.seat.register.Register.{Register}
use Rattle.core_machine.specs.seat.Handshake.{roots}
use Rattle.core_machine.specs.seat.Registers.{register_in, register_head}
use Rattle.core_machine.specs.seat.Seat.{Seat}

-- a command that looks at no word: one on an object does so where its register holds none
abbrev pub IsLocal : List Register → Command → Type 0
IsLocal registers (commands.Num d n) = Unit {0}
IsLocal registers (commands.Nil d) = Unit {0}
IsLocal registers (commands.Copy d r) = Unit {0}
IsLocal registers (commands.Same a b) = Unit {0}
IsLocal registers (commands.Get d r i) = register_head (register_in registers r) ≡ None
IsLocal registers (commands.Set r i v) = register_head (register_in registers r) ≡ None
IsLocal registers (commands.Cas r i a v) = register_head (register_in registers r) ≡ None
IsLocal registers (commands.Len r) = register_head (register_in registers r) ≡ None
IsLocal registers _ = ⊥

-- the reserve is given back before the seat leaves
abbrev pub FitsLeaving : Seat → Leaving → Type 0
FitsLeaving seat leaving.Emptying = 0 < length seat.reserve
FitsLeaving seat leaving.Parting = seat.reserve ≡ []

-- the command answers the phase: a poll, or a collect
abbrev pub AnswersThePhase : Command → Type 0
AnswersThePhase commands.Poll = Unit {0}
AnswersThePhase commands.Collect = Unit {0}
AnswersThePhase _ = ⊥

-- no phase is about to be answered
pub record HasNoAnswer (asked shaded : ℕ) : Type 0 where
  pub none_asked : asked ≡ 0
  pub none_shaded : shaded ≡ 0

-- the seat is about to answer no phase
abbrev pub IsSilent : Seat → Type 0
IsSilent seat = HasNoAnswer seat.asked seat.shaded

-- a phase is about to be answered that the seat hasn't answered yet
pub record IsNew (command : Command) (asked answered : ℕ) : Type 0 where
  pub polls : AnswersThePhase command
  pub anew : asked ≢ answered

-- the seat is about to answer a phase that it hasn't answered
abbrev pub SeatIsAnswering : Seat → Type 0
SeatIsAnswering seat = IsNew seat.command seat.asked seat.answered

-- what is true of the seat's data at each point of a poll
abbrev pub FitsPolling : Seat → Polling → Type 0
FitsPolling seat polling.Asking = IsSilent seat × AnswersThePhase seat.command
FitsPolling seat polling.Shading = SeatIsAnswering seat × (seat.shaded < length (roots seat))
FitsPolling seat polling.Answering = SeatIsAnswering seat × (seat.shaded ≡ length (roots seat))
