-- Which texts are those of a crew, and what is wrong with one that is none.
use Rattle.std.specs.Prelude.{ℕ, ◌<◌, true, false, List, [], ◌∷◌, Option, Some, None, bytes_eq, codes, decimal, if◌then◌else◌}
use Rattle.heap_model.specs.declared.heap.Heap.{Heap}
use Rattle.script_text.specs.declared.cause.Cause.{Cause}
use Rattle.script_text.specs.declared.cause.Cause.TheVariants.{NoSeat}
use Rattle.script_text.specs.declared.cause.LineFault.{LineFault}
use Rattle.script_text.specs.declared.command_set.CommandSet.{CommandSet}
use Rattle.script_text.specs.declared.preamble.Preamble.{Preamble}
use Rattle.script_text.specs.Faults.{text_fault}
use Rattle.script_text.specs.Grammar.{IsScripted, IsText, IsTold, takes_any}
use Rattle.script_text.specs.Judge.{Judge}
use Rattle.script_text.specs.LineFaults.{is_below, seat_command_fault}
use Rattle.script_text.specs.Words.{command_words}
use Rattle.script_crew.specs.declared.crew_script.CrewScript.{CrewScript}
use Rattle.script_crew.specs.declared.job_line.JobLine.{JobLine}

-- the numbers of jobs are below this
abbrev pub job_limit : ℕ
job_limit = 4096

-- a job has each command of a script of version 2 but the collect
abbrev pub job_commands : CommandSet
job_commands = record { cas = true; collect = false }

-- a line that a crew's text may have: its job's number is below the limit, and its command is one of a job
abbrev pub IsJobLine : Preamble → JobLine → Type 0
IsJobLine preamble line = (line.job < job_limit) × IsScripted job_commands line.command

-- the words of a line: its job's number and its command
abbrev pub job_words : JobLine → List (List ℕ)
job_words line = decimal line.job ∷ command_words line.command

-- the first line
abbrev pub crew_header : ℕ → List ℕ
crew_header version = codes "crew 1"

-- behind it stands a heap line as in version 2 of a script
abbrev pub crew_version : List ℕ → Option ℕ
crew_version line = if bytes_eq line (codes "crew 1") then Some 2 else None

-- what is wrong with the words of a line after the heap line
abbrev pub job_fault : Preamble → List (List ℕ) → Option Cause
job_fault preamble [] = Some NoSeat
job_fault preamble (word ∷ rest) = if is_below job_limit word then seat_command_fault job_commands rest else Some NoSeat

-- how a crew's text is judged
abbrev pub crew_judge : Judge
crew_judge = record { version_of = crew_version; takes = takes_any; words_fault = job_fault }

-- what the first two lines of a crew's text tell, by its heap
abbrev pub crew_preamble : Heap → Preamble
crew_preamble heap = record { version = 2; heap = heap }

-- the text spells this heap and these lines of jobs, which are of the grammar
abbrev pub IsCrewText : List ℕ → CrewScript → Type 0
IsCrewText text crew = IsText takes_any crew_header job_words IsJobLine text (crew_preamble crew.heap) crew.lines

-- its lines are of jobs, and not more than a text may have
abbrev pub IsOfCrew : CrewScript → Type 0
IsOfCrew crew = IsTold takes_any IsJobLine (crew_preamble crew.heap) crew.lines

-- the first fault of a crew's text
abbrev pub first_crew_fault : List ℕ → Option LineFault
first_crew_fault text = text_fault crew_judge text
