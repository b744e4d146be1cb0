-- What the turns of one command of the collector come to.
use Rattle.std.specs.Prelude.{◌≡◌, ℕ, zero, suc, ◌+◌, ◌-◌, ◌<◌, ◌^◌, min, List, ◌++◌}
use Rattle.heap_model.specs.declared.command.TurnCommand.{TurnCommand}
use Rattle.heap_model.specs.declared.command.TurnCommand.TheVariants as commands
use Rattle.heap_model.specs.declared.entry.Entry.{Entry}
use Rattle.heap_model.specs.declared.reply.TurnReply.{TurnReply}
use Rattle.heap_model.specs.declared.reply.TurnReply.TheVariants as replies
use Rattle.heap_model.specs.declared.calls.collector_calls.Turn.{Turn}
use Rattle.heap_model.specs.declared.calls.collector_calls.Turn.TheVariants as turns
use Rattle.heap_model.specs.account.Phases.{TurnShows}
use Rattle.heap_runs.specs.Play.{AreTurns}
use Rattle.heap_runs.specs.PlayHeap.{PlayState, TakesTurn}

-- turns of the collector were made, which added what they told
pub record AddsTurns (old new : PlayState) : Type 0 where
  pub same_heap : new.heap ≡ old.heap
  pub added : List Entry
  pub told : new.entries ≡ old.entries ++ added
  pub turned : AreTurns added

-- the turn doesn't wait
abbrev pub IsNoWait : Turn → Type 0
IsNoWait (turns.Waits number answer p) = ⊥
IsNoWait _ = Unit {0}

-- it is a step alone: it neither waits nor ends a cycle
abbrev pub IsStep : Turn → Type 0
IsStep turn = turn ≡ turns.Stepped

-- so many turns were made, one after another, and each came to such an answer
abbrev pub TakesTurns : (Turn → Type 0) → ℕ → PlayState → PlayState → Type 0
TakesTurns Is zero old new = new ≡ old
TakesTurns Is (suc n) old new = (now : PlayState) × (turn : Turn) × TakesTurns Is n old now × TakesTurn now new turn × Is turn

-- the number of turns rose by so many, or it stands at its last value
abbrev pub TurnsRiseBy : PlayState → PlayState → ℕ → Type 0
TurnsRiseBy old new n = min new.turns (2 ^ 64 - 1) ≡ min (old.turns + n) (2 ^ 64 - 1)

-- so many turns were made, each with such an answer, and counted
pub record HasTurned (Is : Turn → Type 0) (old new : PlayState) (n : ℕ) : Type 0 where
  pub taken : TakesTurns Is n old new
  pub counted : TurnsRiseBy old new n

-- turns with such answers were made, and one more with the last answer, of which the reply shows what is so
pub record HasComeTo (Is : Turn → Type 0) (old new : PlayState) (last : Turn) (reply : TurnReply) : Type 0 where
  pub earlier : ℕ
  pub now : PlayState
  pub turned : HasTurned Is old now earlier
  pub takes : TakesTurn now new last
  pub counted : TurnsRiseBy old new (earlier + 1)
  pub shows : TurnShows new.heap new.entries reply

-- the turns were made, or fewer of them, and then the first that waited, as the reply shows
abbrev pub ServesTurns : PlayState → PlayState → ℕ → TurnReply → Type 0
ServesTurns old new n replies.Done = HasTurned IsNoWait old new n
ServesTurns old new n (replies.Waits number answer p) =
    (came : HasComeTo IsNoWait old new (turns.Waits number answer p) (replies.Waits number answer p)) × (came.earlier < n)
ServesTurns old new n (replies.Cycle cycle) = ⊥

-- steps were made, and then the first turn that ended a cycle or waited, as the reply shows
abbrev pub ServesCycle : PlayState → PlayState → TurnReply → Type 0
ServesCycle old new replies.Done = ⊥
ServesCycle old new (replies.Waits number answer p) = HasComeTo IsStep old new (turns.Waits number answer p) (replies.Waits number answer p)
ServesCycle old new (replies.Cycle cycle) = (kept : ℕ) × HasComeTo IsStep old new (turns.Ended cycle kept) (replies.Cycle cycle)

-- a command of the collector was served
abbrev pub ServesCommand : PlayState → PlayState → TurnCommand → TurnReply → Type 0
ServesCommand old new (commands.Turns n) reply = ServesTurns old new n reply
ServesCommand old new commands.Cycle reply = ServesCycle old new reply
