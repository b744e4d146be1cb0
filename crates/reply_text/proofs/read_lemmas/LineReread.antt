-- Each line that was spelled is read again.
use Rattle.std.proofs.Common.{◌≡◌, ℕ, ◌<◌, ◌^◌, inr, List, [], ◌∷◌, ◌++◌, Option, Some, codes, decimal, refl, ◌∙◌, arith}
use Rattle.heap_model.specs.declared.command.Command.{Command}
use Rattle.heap_model.specs.declared.command.Command.TheVariants.{New, Array, Get, Set, Cas, Num, Nil, Copy, Same, Len, Poll, Collect, Leave}
use Rattle.heap_model.specs.declared.command.TurnCommand.TheVariants as commands
use Rattle.heap_model.specs.declared.entry.Entry.{Entry}
use Rattle.heap_model.specs.declared.entry.Entry.TheVariants as entries
use Rattle.script_text.specs.declared.preamble.Preamble.{Preamble}
use Rattle.script_text.specs.declared.script.Form.{Form}
use Rattle.script_text.specs.declared.script.Form.TheVariants.{Play, Run}
use Rattle.script_text.specs.Words.{command_words}
use Rattle.script_text.proofs.Numbers.{number_below-decimal}
use Rattle.reply_text.specs.declared.history_line.HistoryLine.{HistoryLine}
use Rattle.reply_text.specs.declared.history_line.HistoryLine.TheVariants as lines
use Rattle.reply_text.specs.read.Answers.{answer_at}
use Rattle.reply_text.specs.write.Entries.{entry_words, reply_words, turn_reply_words}
use Rattle.reply_text.specs.write.Lines.{history_words, IsHistoryLine}
use Rattle.reply_text.specs.read.LineWords.{line_at}
use Rattle.reply_text.specs.read.EntryWords.{seat_entry}
use Rattle.reply_text.specs.read.Tokens.{◌>>=◌, after_word}
use Rattle.reply_text.specs.Written.{IsWritten}
use Rattle.reply_text.proofs.read_lemmas.Answered.{answer_at-words, turning_at-words, cycling_at-words}
use Rattle.reply_text.proofs.read_lemmas.CommandReading.{first_command, first_command-words}
use Rattle.reply_text.proofs.read_lemmas.Reread.{number_at-decimal, decimal-other, id_of-word}

-- what follows a seat's command
abbrev said_after : ℕ → Option (Command × List (List ℕ)) → Option (Entry × List (List ℕ))
said_after seat found = do
  command ← found
  told ← after_word (codes "=") command.1
  reply ← answer_at command.0 told
  Some (entries.Said seat command.0 reply.0, reply.1)

-- a line with the name of a command is a command and its reply
seat_entry-command : (version seat : ℕ) (command : Command) (rest : List (List ℕ)) → seat_entry version seat (command_words command ++ rest) ≡ said_after seat (first_command version (command_words command ++ rest))
seat_entry-command version seat (New d fields) rest = refl
seat_entry-command version seat (Array d cells) rest = refl
seat_entry-command version seat (Get d r i) rest = refl
seat_entry-command version seat (Set r i v) rest = refl
seat_entry-command version seat (Cas r i a v) rest = refl
seat_entry-command version seat (Num d n) rest = refl
seat_entry-command version seat (Nil d) rest = refl
seat_entry-command version seat (Copy d r) rest = refl
seat_entry-command version seat (Same a b) rest = refl
seat_entry-command version seat (Len r) rest = refl
seat_entry-command version seat Poll rest = refl
seat_entry-command version seat Collect rest = refl
seat_entry-command version seat Leave rest = refl

-- a line that begins with a seat, and one that begins with the collector's word
seat_line : (form : Form) (preamble : Preamble) (seat : ℕ) (rest : List (List ℕ)) (entry : Entry) → preamble.heap.seats < 2 ^ 8 → seat < preamble.heap.seats → seat_entry preamble.version seat rest ≡ Some (entry, []) →
    line_at form preamble (decimal seat ∷ rest) ≡ Some (lines.Entry entry, [])
seat_line form preamble seat rest entry few below e =
    let small : seat < 2 ^ 64 = omega arith in
    rw (
      decimal-other seat 115 (112 ∷ 97 ∷ 99 ∷ 101 ∷ []) small (inr (omega arith)),
      decimal-other seat 101 (110 ∷ 100 ∷ []) small (inr (omega arith)),
      decimal-other seat 99 [] small (inr (omega arith)),
      number_below-decimal preamble.heap.seats seat (omega arith) below,
      e,
    ) refl

entry_line : (form : Form) (preamble : Preamble) (entry : Entry) → preamble.heap.seats < 2 ^ 8 → IsWritten form preamble entry → line_at form preamble (entry_words entry) ≡ Some (lines.Entry entry, [])
entry_line form preamble (entries.Said seat command reply) few h =
    seat_line form preamble seat (command_words command ++ codes "=" ∷ reply_words reply) (entries.Said seat command reply) few h.0
    (seat_entry-command preamble.version seat command (codes "=" ∷ reply_words reply)
    ∙ rw (first_command-words preamble.version command (codes "=" ∷ reply_words reply) h.1 h.3, answer_at-words command reply h.2) refl)
entry_line form preamble (entries.Takes seat count) few h =
    seat_line form preamble seat (codes "takes" ∷ decimal count ∷ []) (entries.Takes seat count) few h.0 (rw (number_at-decimal (2 ^ 32) count [] (omega arith) h.1) refl)
entry_line form preamble (entries.GivesBack seat count) few h =
    seat_line form preamble seat (codes "gives" ∷ codes "back" ∷ decimal count ∷ []) (entries.GivesBack seat count) few h.0 (rw (number_at-decimal (2 ^ 32) count [] (omega arith) h.1) refl)
entry_line form preamble (entries.Answers seat phase) few h =
    seat_line form preamble seat (codes "answers" ∷ decimal phase ∷ []) (entries.Answers seat phase) few h.0 (rw (number_at-decimal (2 ^ 64) phase [] (omega arith) h.1) refl)
entry_line form preamble (entries.Advance phase) few h = rw (number_at-decimal (2 ^ 64) phase [] (omega arith) h) refl
entry_line form preamble (entries.Frees count) few h = rw (number_at-decimal (2 ^ 32) count [] (omega arith) h) refl
entry_line form preamble (entries.Returns count) few h = rw (number_at-decimal (2 ^ 32) count [] (omega arith) h) refl
entry_line form preamble (entries.Swings id) few h = rw (id_of-word id h) refl
entry_line form preamble (entries.Ends cycle kept) few h =
    rw (number_at-decimal (2 ^ 64) cycle (codes "kept" ∷ decimal kept ∷ []) (omega arith) h.0, number_at-decimal (2 ^ 64) kept [] (omega arith) h.1) refl
entry_line Play preamble (entries.Turned (commands.Turns n) reply) few h =
    rw (number_at-decimal 1000001 n (codes "=" ∷ turn_reply_words reply) (omega arith) (omega (arith, h.0)), turning_at-words n reply h.1) refl
entry_line Play preamble (entries.Turned commands.Cycle reply) few h = rw (cycling_at-words reply h.1) refl
entry_line Run preamble (entries.Turned command reply) few h = absurd h

-- the words of a line tell the line
pub line_at-words : (form : Form) (preamble : Preamble) (line : HistoryLine) → preamble.heap.seats < 2 ^ 8 → IsHistoryLine form preamble line → line_at form preamble (history_words line) ≡ Some (line, [])
line_at-words form preamble (lines.Entry entry) few h = entry_line form preamble entry few h
line_at-words form preamble (lines.Space used total spine budget) few h =
    rw (
      number_at-decimal (2 ^ 64) used (codes "of" ∷ decimal total ∷ codes "spine" ∷ decimal spine ∷ codes "of" ∷ decimal budget ∷ []) (omega arith) h.0,
      number_at-decimal (2 ^ 64) total (codes "spine" ∷ decimal spine ∷ codes "of" ∷ decimal budget ∷ []) (omega arith) h.1,
      number_at-decimal (2 ^ 64) spine (codes "of" ∷ decimal budget ∷ []) (omega arith) h.2,
      number_at-decimal (2 ^ 64) budget [] (omega arith) h.3,
    ) refl
line_at-words form preamble (lines.End used) few h = rw (number_at-decimal (2 ^ 64) used [] (omega arith) h) refl
