-- The collector's turns, as C has them.
use Rattle.std.specs.Prelude.{◌≡◌, ℕ, ◌<◌, ◌≤◌, Option, Some, None, Result, Ok, Err}
use Rattle.heap_model.specs.declared.calls.collector_calls.Turn.{Turn}
use Rattle.heap_model.specs.declared.calls.collector_calls.Turn.TheVariants as turns
use Rattle.heap_model.specs.declared.calls.collector_calls.TurnsMade.{TurnsMade}
use Rattle.heap_model.specs.calls.ManyTurns.{TakesTurns}
use Rattle.core_machine.specs.collector.Collector.{next_turn}
use Rattle.heap_table.specs.CollectorHeld.{CollectorHeld, IsTurned}
use Rattle.heap_table.specs.ManyTurns.{MakesTurn}
use Rattle.fodderpause_c.specs.Codes.{refusal_code}
use Rattle.fodderpause_c.specs.declared.codes.TheConstants.{DONE}
use Rattle.fodderpause_c.specs.declared.refusal.Refusal.{Refusal}
use Rattle.fodderpause_c.specs.declared.refusal.Refusal.TheVariants.{EntriesSpent}
use Rattle.fodderpause_c.specs.declared.turning.TheConstants.{STEPPED, WAITS, ENDED}
use Rattle.fodderpause_c.specs.declared.turning.Turned.{Turned}

-- the collector's due turn was made, which found a word, and this is its answer for that word
pub record AnswersTurn (old new : CollectorHeld) (turn : Turn) : Type 0 where
  pub found : ℕ
  pub turned : IsTurned old new found
  pub answer : turn ≡ (next_turn old.heap old.known.collector).answer found

-- a turn is made, where one more entry can be counted
abbrev pub TakesTurn : CollectorHeld → CollectorHeld → Result Turn Refusal → Type 0
TakesTurn old new (Ok turn) = (2 ≤ old.spare) × AnswersTurn old new turn
TakesTurn old new (Err EntriesSpent) = (old.spare < 2) × (new ≡ old)
TakesTurn old new (Err _) = ⊥

-- so many turns are made, or those up to the first that waits, where an entry can be counted for each and for one more
abbrev pub MakesTurns : ℕ → CollectorHeld → CollectorHeld → Result TurnsMade Refusal → Type 0
MakesTurns n old new (Ok done) = (n < old.spare) × TakesTurns MakesTurn n old new done
MakesTurns n old new (Err EntriesSpent) = (old.spare ≤ n) × (new ≡ old)
MakesTurns n old new (Err _) = ⊥

-- the phase is told
abbrev pub TellsPhase : CollectorHeld → CollectorHeld → Result ℕ Refusal → Type 0
TellsPhase old new (Ok phase) = (new ≡ old) × (phase ≡ old.known.collector.phase)
TellsPhase old new (Err refusal) = ⊥

-- what the turn came to
abbrev pub turn_shown : Result Turn Refusal → Turned
turn_shown (Ok turns.Stepped) = record { code = DONE; kind = STEPPED; seat = 0; answered = 0; phase = 0; cycle = 0; kept = 0 }
turn_shown (Ok (turns.Waits seat answered phase)) = record { code = DONE; kind = WAITS; seat = seat; answered = answered; phase = phase; cycle = 0; kept = 0 }
turn_shown (Ok (turns.Ended cycle kept)) = record { code = DONE; kind = ENDED; seat = 0; answered = 0; phase = 0; cycle = cycle; kept = kept }
turn_shown (Err refusal) = record { code = refusal_code refusal; kind = STEPPED; seat = 0; answered = 0; phase = 0; cycle = 0; kept = 0 }

-- what the last of some turns came to, or a step where none was made
abbrev pub last_shown : Option Turn → Turned
last_shown (Some turn) = turn_shown (Ok turn)
last_shown None = turn_shown (Ok turns.Stepped)

-- what the last of the turns came to, and how many were made
abbrev pub turns_shown : Result TurnsMade Refusal → Turned × ℕ
turns_shown (Ok done) = (last_shown done.last, done.made)
turns_shown (Err refusal) = (turn_shown (Err refusal), 0)
