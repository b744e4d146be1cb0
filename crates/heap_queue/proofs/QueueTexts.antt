-- A text that is a queue's has no fault, and tells one heap and one list of lines.
use Rattle.std.proofs.Common.{◌≡◌, ℕ, ◌^◌, ◌-◌, List, [], ◌∷◌, Some, None, true, nat_lt, codes, decimal, refl, ap, arith, rules}
use Rattle.std.specs.List.{AllByRecursion}
use Rattle.std.specs.Str.Parse.{digits_value}
use Rattle.heap_model.specs.Limits.{number_limit}
use Rattle.script_text.specs.declared.preamble.Preamble.{Preamble}
use Rattle.script_text.specs.LineFaults.{command_fault}
use Rattle.script_text.specs.Preamble.{IsPreamble}
use Rattle.script_text.specs.Text.{sentence, words_of}
use Rattle.script_text.proofs.Decoded.{value-decimal}
use Rattle.script_text.proofs.NoFault.{operand-decimal}
use Rattle.script_text.proofs.Numbers.{number_below-decimal}
use Rattle.script_text.proofs.Texts.{IsReadable, equal_texts_tell_one_list, equal_texts_tell_one_preamble, text_fault-none}
use Rattle.script_text.proofs.Tokens.{IsAbove, IsAbove-decimal, IsAbove-from_test, words_of-sentence}
use Rattle.heap_queue.specs.declared.queue_command.QueueCommand.{QueueCommand}
use Rattle.heap_queue.specs.declared.queue_command.QueueCommand.TheVariants.{Put, Take}
use Rattle.heap_queue.specs.declared.queue_line.QueueLine.{QueueLine}
use Rattle.heap_queue.specs.declared.queue_script.QueueScript.{QueueScript}
use Rattle.heap_queue.specs.Serving.{IsQueueCommand}
use Rattle.heap_queue.specs.QueueText.{IsQueueLine, IsQueueText, first_queue_fault, queue_command_words, queue_commands, queue_header, queue_judge, queue_line_fault, queue_preamble, queue_version, queue_words}

-- the one version that a queue's texts have
abbrev IsSecond : ℕ → Type 0
IsSecond version = version ≡ 2

header-above : (version : ℕ) → IsSecond version → IsAbove 31 (queue_header version)
header-above version second = IsAbove-from_test 31 (codes "queue 1") refl

header-told : (version : ℕ) → IsSecond version → queue_version (queue_header version) ≡ Some version
header-told version second = rw second refl

command_words-above : (command : QueueCommand) → IsQueueCommand command → AllByRecursion (IsAbove 32) (queue_command_words command)
command_words-above (Put n) h = (IsAbove-from_test 32 (codes "put") refl, (IsAbove-decimal n (omega (arith, h)), tt))
command_words-above Take h = (IsAbove-from_test 32 (codes "take") refl, tt)

words-above : (front : Preamble) (line : QueueLine) → IsPreamble front → IsQueueLine front line → AllByRecursion (IsAbove 32) (queue_words line)
words-above front line is h = (IsAbove-decimal line.seat (omega (arith, h.0, is)), command_words-above line.command h.1)

words_of-line : (front : Preamble) (line : QueueLine) → IsPreamble front → IsQueueLine front line → words_of (sentence (queue_words line)) ≡ queue_words line
words_of-line front line is h = words_of-sentence (decimal line.seat) (queue_command_words line.command) (words-above front line is h)

command_fault-none : (command : QueueCommand) → IsQueueCommand command → command_fault queue_commands (queue_command_words command) ≡ None
command_fault-none (Put n) h = rw (operand-decimal 0 (number_limit - 1) n [] (omega arith) (omega arith, omega (arith, h))) refl
command_fault-none Take h = refl

line_fault-none : (front : Preamble) (line : QueueLine) → IsPreamble front → IsQueueLine front line → queue_line_fault front (queue_words line) ≡ None
line_fault-none front line is h =
    let below : nat_lt line.seat front.heap.seats ≡ true = search (rules, h.0) in
    rw (number_below-decimal (10 ^ 10) line.seat (omega arith) (omega (arith, h.0, is)), below) (command_fault-none line.command h.1)

abbrev command_of : List (List ℕ) → QueueCommand
command_of (word ∷ n ∷ rest) = Put (digits_value 10 n)
command_of _ = Take

command_of-words : (command : QueueCommand) → IsQueueCommand command → command_of (queue_command_words command) ≡ command
command_of-words (Put n) h = ap Put (value-decimal n (omega (arith, h)))
command_of-words Take h = refl

abbrev line_of : List (List ℕ) → QueueLine
line_of [] = record { seat = 0; command = Take }
line_of (word ∷ rest) = record { seat = digits_value 10 word; command = command_of rest }

line_of-words : (front : Preamble) (line : QueueLine) → IsPreamble front → IsQueueLine front line → line_of (queue_words line) ≡ line
line_of-words front line is h = rw (value-decimal line.seat (omega (arith, h.0, is)), command_of-words line.command h.1) refl

queue_is_readable : IsReadable queue_judge queue_header queue_words IsQueueLine IsSecond
queue_is_readable = record {
  header_above = header-above;
  header_told = header-told;
  above = words-above;
  again = words_of-line;
  faultless = line_fault-none;
  tell = line_of;
  told = line_of-words;
}

-- a queue's text has no fault
pub first_queue_fault-none : (text : List ℕ) (script : QueueScript) → IsQueueText text script → first_queue_fault text ≡ None
first_queue_fault-none text script h =
    text_fault-none QueueLine queue_judge queue_header queue_words IsQueueLine IsSecond queue_is_readable text (queue_preamble script.heap) script.lines refl h

same_parts : (one other : QueueScript) → one.heap ≡ other.heap → one.lines ≡ other.lines → one ≡ other
same_parts one other e f = λ i. record { heap = e i; lines = f i }

-- two that one text tells are one
pub same_queue_script : (text : List ℕ) (one other : QueueScript) → IsQueueText text one → IsQueueText text other → one ≡ other
same_queue_script text one other f g =
    same_parts one other
    (ap (λ (front : Preamble). front.heap)
    (equal_texts_tell_one_preamble QueueLine queue_judge queue_header queue_words IsQueueLine IsSecond queue_is_readable text (queue_preamble one.heap) (queue_preamble other.heap) one.lines other.lines refl refl f g))
    (equal_texts_tell_one_list QueueLine queue_judge queue_header queue_words IsQueueLine IsSecond queue_is_readable text (queue_preamble one.heap) (queue_preamble other.heap) one.lines other.lines f g)
