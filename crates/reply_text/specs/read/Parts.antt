-- Values, and what a reply tells of space and seats, as the first words of a line.
use Rattle.std.specs.Prelude.{ℕ, ◌^◌, List, Option, Some, None, bytes_eq, codes, if◌then◌else◌}
use Rattle.heap_model.specs.Behind.{behind_of}
use Rattle.heap_model.specs.declared.behind.Behind.{Behind}
use Rattle.heap_model.specs.Limits.{most_seats}
use Rattle.heap_model.specs.declared.id.Value.{Value}
use Rattle.heap_model.specs.declared.id.Value.TheVariants as values
use Rattle.reply_text.specs.read.Tokens.{◌>>=◌, first_by, after_word, number_at, word_id}

-- a value, by its first word
abbrev pub value_at : List ℕ → List (List ℕ) → Option (Value × List (List ℕ))
value_at word rest =
    if bytes_eq word (codes "nil") then Some (values.Nil, rest)
    else if bytes_eq word (codes "number") then (do
      n ← number_at 1073741824 rest
      Some (values.Number n.0, n.1))
    else if bytes_eq word (codes "object") then (do
      id ← first_by word_id rest
      Some (values.Object id.0, id.1))
    else None

-- what is needed, and what was there instead, after the word for what is lacking
abbrev pub lack_at : List ℕ → List (List ℕ) → Option ((ℕ × ℕ) × List (List ℕ))
lack_at shown words = do
  named ← after_word (codes "need") words
  need ← number_at (2 ^ 32) named
  counted ← after_word shown need.1
  number ← number_at (2 ^ 32) counted
  Some ((need.0, number.0), number.1)

-- the seat that is waited for, what it answered and the phase, after `waits`
abbrev pub wait_at : List (List ℕ) → Option (Behind × List (List ℕ))
wait_at words = do
  seat ← number_at most_seats words
  told ← after_word (codes "answered") seat.1
  answered ← number_at (2 ^ 64) told
  now ← after_word (codes "phase") answered.1
  phase ← number_at (2 ^ 64) now
  Some (behind_of seat.0 answered.0 phase.0, phase.1)
