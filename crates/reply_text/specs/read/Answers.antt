-- The reply that stands first in the words of a line, by its first word and the words after that.
use Rattle.std.specs.Prelude.{ℕ, ◌^◌, List, [], ◌∷◌, Option, Some, None, bytes_eq, codes, if◌then◌else◌}
use Rattle.heap_model.specs.Behind.{as_reply}
use Rattle.heap_model.specs.declared.command.Command.{Command}
use Rattle.heap_model.specs.declared.command.Command.TheVariants.{New, Array, Get, Set, Cas, Num, Nil, Copy, Same, Len, Poll, Collect, Leave}
use Rattle.heap_model.specs.declared.reply.Reply.{Reply}
use Rattle.heap_model.specs.declared.reply.Reply.TheVariants as replies
use Rattle.script_text.specs.Numbers.{number_below}
use Rattle.reply_text.specs.read.Tokens.{◌>>=◌, by_first, first_by, after_word, number_at, word_id, word_stamp}
use Rattle.reply_text.specs.read.Parts.{value_at, lack_at, wait_at}

-- a reply to `new`, by its first word
abbrev pub making_at : List ℕ → List (List ℕ) → Option (Reply × List (List ℕ))
making_at word rest =
    if bytes_eq word (codes "full") then (do
      lack ← lack_at (codes "found") rest
      Some (replies.Full lack.0.0 lack.0.1, lack.1))
    else (do
      id ← word_id word
      Some (replies.Made id, rest))

-- a reply to `array`, by its first word
abbrev pub arraying_at : List ℕ → List (List ℕ) → Option (Reply × List (List ℕ))
arraying_at word rest =
    if bytes_eq word (codes "spine") then (do
      lack ← lack_at (codes "used") rest
      Some (replies.SpineFull lack.0.0 lack.0.1, lack.1))
    else making_at word rest

-- the reply that no such object or field is there, after `no`
abbrev pub nowhere_at : List (List ℕ) → Option (Reply × List (List ℕ))
nowhere_at [] = None
nowhere_at (word ∷ rest) =
    if bytes_eq word (codes "object") then Some (replies.NoObject, rest)
    else if bytes_eq word (codes "field") then Some (replies.NoField, rest)
    else None

-- a reply to `get`, by its first word
abbrev pub getting_at : List ℕ → List (List ℕ) → Option (Reply × List (List ℕ))
getting_at word rest =
    if bytes_eq word (codes "no") then nowhere_at rest
    else (do
      value ← value_at word rest
      stamped ← after_word (codes "at") value.1
      stamp ← first_by word_stamp stamped
      Some (replies.Got value.0 stamp.0, stamp.1))

-- a reply to `set`, by its first word
abbrev pub setting_at : List ℕ → List (List ℕ) → Option (Reply × List (List ℕ))
setting_at word rest =
    if bytes_eq word (codes "no") then nowhere_at rest
    else if bytes_eq word (codes "was") then (do
      stamp ← first_by word_stamp rest
      Some (replies.Was stamp.0, stamp.1))
    else None

-- a reply to a command that can't be refused, by its first word
abbrev pub done_at : List ℕ → List (List ℕ) → Option (Reply × List (List ℕ))
done_at word rest = if bytes_eq word (codes "ok") then Some (replies.Done, rest) else None

-- a reply to `same`, by its first word
abbrev pub comparing_at : List ℕ → List (List ℕ) → Option (Reply × List (List ℕ))
comparing_at word rest =
    if bytes_eq word (codes "yes") then Some (replies.Yes, rest)
    else if bytes_eq word (codes "no") then Some (replies.No, rest)
    else None

-- a reply to `len`, by its first word
abbrev pub measuring_at : List ℕ → List (List ℕ) → Option (Reply × List (List ℕ))
measuring_at word rest =
    if bytes_eq word (codes "no") then (do
      after ← after_word (codes "object") rest
      Some (replies.NoObject, after))
    else (do
      n ← number_below (2 ^ 16) word
      Some (replies.Length n, rest))

-- a reply to `poll`, by its first word
abbrev pub polling_at : List ℕ → List (List ℕ) → Option (Reply × List (List ℕ))
polling_at word rest = do
  p ← number_below (2 ^ 64) word
  Some (replies.Phase p, rest)

-- a reply to `collect`, by its first word
abbrev pub collecting_at : List ℕ → List (List ℕ) → Option (Reply × List (List ℕ))
collecting_at word rest =
    if bytes_eq word (codes "cycle") then (do
      j ← number_at (2 ^ 64) rest
      Some (replies.Cycle j.0, j.1))
    else if bytes_eq word (codes "waits") then (do
      behind ← wait_at rest
      Some (as_reply behind.0, behind.1))
    else None

-- a reply to `cas`, by its first word
abbrev pub swapping_at : List ℕ → List (List ℕ) → Option (Reply × List (List ℕ))
swapping_at word rest =
    if bytes_eq word (codes "now") then (do
      stamp ← first_by word_stamp rest
      Some (replies.Now stamp.0, stamp.1))
    else setting_at word rest

-- how the replies to the command are read
abbrev pub answer_to : Command → List ℕ → List (List ℕ) → Option (Reply × List (List ℕ))
answer_to (New d fields) = making_at
answer_to (Array d cells) = arraying_at
answer_to (Get d r i) = getting_at
answer_to (Set r i v) = setting_at
answer_to (Cas r i a v) = swapping_at
answer_to (Num d n) = done_at
answer_to (Nil d) = done_at
answer_to (Copy d r) = done_at
answer_to (Same a b) = comparing_at
answer_to (Len r) = measuring_at
answer_to Poll = polling_at
answer_to Collect = collecting_at
answer_to Leave = done_at

-- a reply to the command
abbrev pub answer_at : Command → List (List ℕ) → Option (Reply × List (List ℕ))
answer_at command words = by_first (answer_to command) words
