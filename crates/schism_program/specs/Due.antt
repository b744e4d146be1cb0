-- The status that words and input call for.
use Rattle.std.specs.Prelude.{◌≡◌, ℕ, ◌<◌, ◌≤◌, List, [], length, Option, Some}
use Rattle.form_words.specs.declared.work.Work.{Work}
use Rattle.form_words.specs.declared.work.Work.TheVariants.{Make}
use Rattle.form_words.specs.Works.{most_bytes, AskFor, IsForm}
use Rattle.schism_program.specs.declared.status.Status.{Status}
use Rattle.schism_program.specs.declared.status.Status.TheVariants.{Done, Refused, Usage, TooLong, NotLegal}
use Rattle.schism_program.specs.Works.{FailsAt, IsIllegalAt, Suits}

-- the input is within the work's limit
abbrev pub IsShort : Work → List ℕ → Type 0
IsShort work input = length input ≤ most_bytes work

-- the input calls for the status, where the work is asked for
abbrev pub IsDueTo : Work → List ℕ → Status → Type 0
IsDueTo work input Done = IsShort work input × Suits work input
IsDueTo work input (Refused line cause) = IsShort work input × FailsAt work input line cause
IsDueTo work input (NotLegal line) = IsShort work input × IsIllegalAt work input line
IsDueTo work input TooLong = most_bytes work < length input
IsDueTo work input _ = ⊥

-- the input is what is left to read, where that is told; a work without an input has none
abbrev pub IsInput : Work → Option (List ℕ) → List ℕ → Type 0
IsInput (Make start seats lines) left input = input ≡ []
IsInput work left input = left ≡ Some input

-- the words call for the status, together with the bytes that are left to read, where these are told
abbrev pub IsDue : List (List ℕ) → Option (List ℕ) → Status → Type 0
IsDue words left Usage = ¬ IsForm words
IsDue words left status = (work : Work) × (input : List ℕ) × AskFor words work × IsInput work left input × IsDueTo work input status
