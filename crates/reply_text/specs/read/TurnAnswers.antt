-- The reply of the collector that stands first in the words of a line.
use Rattle.std.specs.Prelude.{ℕ, ◌^◌, List, Option, Some, None, bytes_eq, codes, if◌then◌else◌}
use Rattle.heap_model.specs.Behind.{as_turn_reply}
use Rattle.heap_model.specs.declared.reply.TurnReply.{TurnReply}
use Rattle.heap_model.specs.declared.reply.TurnReply.TheVariants as turns
use Rattle.reply_text.specs.read.Tokens.{◌>>=◌, by_first, number_at}
use Rattle.reply_text.specs.read.Parts.{wait_at}

-- a seat is waited for, after `waits`
abbrev pub waiting_at : List (List ℕ) → Option (TurnReply × List (List ℕ))
waiting_at rest = do
  behind ← wait_at rest
  Some (as_turn_reply behind.0, behind.1)

-- a reply of the collector to `turns`, by its first word
abbrev pub turning_to : List ℕ → List (List ℕ) → Option (TurnReply × List (List ℕ))
turning_to word rest =
    if bytes_eq word (codes "done") then Some (turns.Done, rest)
    else if bytes_eq word (codes "waits") then waiting_at rest
    else None

-- a reply of the collector to `turns`
abbrev pub turning_at : List (List ℕ) → Option (TurnReply × List (List ℕ))
turning_at words = by_first turning_to words

-- a reply of the collector to `cycle`, by its first word
abbrev pub cycling_to : List ℕ → List (List ℕ) → Option (TurnReply × List (List ℕ))
cycling_to word rest =
    if bytes_eq word (codes "cycle") then (do
      j ← number_at (2 ^ 64) rest
      Some (turns.Cycle j.0, j.1))
    else if bytes_eq word (codes "waits") then waiting_at rest
    else None

-- a reply of the collector to `cycle`
abbrev pub cycling_at : List (List ℕ) → Option (TurnReply × List (List ℕ))
cycling_at words = by_first cycling_to words
