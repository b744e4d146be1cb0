-- A text that is a crew's has no fault, and tells one heap and one list of lines.
use Rattle.std.proofs.Common.{◌≡◌, ℕ, ◌^◌, List, [], ◌∷◌, Some, None, true, nat_lt, codes, decimal, refl, ap, arith, rules}
use Rattle.std.specs.List.{AllByRecursion}
use Rattle.std.specs.Str.Parse.{digits_value}
use Rattle.script_text.specs.declared.preamble.Preamble.{Preamble}
use Rattle.script_text.specs.Preamble.{IsPreamble}
use Rattle.script_text.specs.Text.{sentence, words_of}
use Rattle.script_text.specs.Words.{command_words}
use Rattle.script_text.proofs.Decoded.{command_of, command_of-words, value-decimal}
use Rattle.script_text.proofs.NoFault.{command_fault-none}
use Rattle.script_text.proofs.Numbers.{number_below-decimal}
use Rattle.script_text.proofs.Texts.{IsReadable, equal_texts_tell_one_list, equal_texts_tell_one_preamble, text_fault-none}
use Rattle.script_text.proofs.Tokens.{IsAbove, IsAbove-decimal, IsAbove-from_test, words_of-sentence}
use Rattle.script_text.proofs.WordBytes.{command_words-above, scripted_command_is_in_range}
use Rattle.script_crew.specs.declared.crew_script.CrewScript.{CrewScript}
use Rattle.script_crew.specs.declared.job_line.JobLine.{JobLine}
use Rattle.script_crew.specs.CrewText.{IsCrewText, IsJobLine, crew_header, crew_judge, crew_preamble, crew_version, first_crew_fault, job_commands, job_fault, job_limit, job_words}

-- the one version that a crew's texts have
abbrev IsSecond : ℕ → Type 0
IsSecond version = version ≡ 2

header-above : (version : ℕ) → IsSecond version → IsAbove 31 (crew_header version)
header-above version second = IsAbove-from_test 31 (codes "crew 1") refl

header-told : (version : ℕ) → IsSecond version → crew_version (crew_header version) ≡ Some version
header-told version second = rw second refl

job_words-above : (front : Preamble) (line : JobLine) → IsPreamble front → IsJobLine front line → AllByRecursion (IsAbove 32) (job_words line)
job_words-above front line is h =
    (IsAbove-decimal line.job (omega (arith, h.0)), command_words-above line.command (scripted_command_is_in_range job_commands line.command h.1))

words_of-line : (front : Preamble) (line : JobLine) → IsPreamble front → IsJobLine front line → words_of (sentence (job_words line)) ≡ job_words line
words_of-line front line is h = words_of-sentence (decimal line.job) (command_words line.command) (job_words-above front line is h)

job_fault-none : (front : Preamble) (line : JobLine) → IsPreamble front → IsJobLine front line → job_fault front (job_words line) ≡ None
job_fault-none front line is h =
    let below : nat_lt line.job job_limit ≡ true = search (rules, h.0) in
    rw (number_below-decimal (10 ^ 10) line.job (omega arith) (omega (arith, h.0)), below) (command_fault-none job_commands line.command h.1)

abbrev line_of : List (List ℕ) → JobLine
line_of [] = record { job = 0; command = command_of [] }
line_of (word ∷ rest) = record { job = digits_value 10 word; command = command_of rest }

line_of-words : (front : Preamble) (line : JobLine) → IsPreamble front → IsJobLine front line → line_of (job_words line) ≡ line
line_of-words front line is h = rw (value-decimal line.job (omega (arith, h.0)), command_of-words job_commands line.command h.1) refl

crew_is_readable : IsReadable crew_judge crew_header job_words IsJobLine IsSecond
crew_is_readable = record {
  header_above = header-above;
  header_told = header-told;
  above = job_words-above;
  again = words_of-line;
  faultless = job_fault-none;
  tell = line_of;
  told = line_of-words;
}

-- a crew's text has no fault
pub first_crew_fault-none : (text : List ℕ) (crew : CrewScript) → IsCrewText text crew → first_crew_fault text ≡ None
first_crew_fault-none text crew h =
    text_fault-none JobLine crew_judge crew_header job_words IsJobLine IsSecond crew_is_readable text (crew_preamble crew.heap) crew.lines refl h

same_parts : (one other : CrewScript) → one.heap ≡ other.heap → one.lines ≡ other.lines → one ≡ other
same_parts one other e f = λ i. record { heap = e i; lines = f i }

-- two that one text tells are one
pub same_crew : (text : List ℕ) (one other : CrewScript) → IsCrewText text one → IsCrewText text other → one ≡ other
same_crew text one other f g =
    same_parts one other
    (ap (λ (front : Preamble). front.heap)
    (equal_texts_tell_one_preamble JobLine crew_judge crew_header job_words IsJobLine IsSecond crew_is_readable text (crew_preamble one.heap) (crew_preamble other.heap) one.lines other.lines refl refl f g))
    (equal_texts_tell_one_list JobLine crew_judge crew_header job_words IsJobLine IsSecond crew_is_readable text (crew_preamble one.heap) (crew_preamble other.heap) one.lines other.lines f g)
