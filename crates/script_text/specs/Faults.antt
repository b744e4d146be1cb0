-- The first fault of a text, whatever its kind.
use Rattle.std.specs.Prelude.{ℕ, ◌+◌, List, [], ◌∷◌, Option, Some, None, nat_lt, option_map, if◌then◌else◌}
use Rattle.std.specs.Option.{option_or}
use Rattle.heap_model.specs.declared.heap.Heap.{Heap}
use Rattle.script_text.specs.declared.cause.Cause.{Cause}
use Rattle.script_text.specs.declared.cause.Cause.TheVariants.{NoHeader, BadHeap, TooManyLines}
use Rattle.script_text.specs.declared.cause.LineFault.{LineFault}
use Rattle.script_text.specs.declared.preamble.Preamble.{Preamble}
use Rattle.script_text.specs.declared.script.Form.{Form}
use Rattle.script_text.specs.Grammar.{most_lines}
use Rattle.script_text.specs.HeapLine.{heap_of}
use Rattle.script_text.specs.Judge.{Judge}
use Rattle.script_text.specs.LineFaults.{script_judge}
use Rattle.script_text.specs.Text.{lines_of, words_of}

-- the fault of this line, by its cause
abbrev pub fault_at : ℕ → Cause → Option LineFault
fault_at number cause = Some (record { line = number; cause = cause })

-- what is wrong with the line of this number
abbrev pub line_cause : Judge → Preamble → ℕ → List ℕ → Option Cause
line_cause judge preamble number line =
    if nat_lt most_lines number then Some TooManyLines else judge.words_fault preamble (words_of line)

-- what is wrong with the line of this number, together with that number
abbrev pub line_fault : Judge → Preamble → ℕ → List ℕ → Option LineFault
line_fault judge preamble number line =
    option_map (λ cause. record { line = number; cause = cause }) (line_cause judge preamble number line)

-- the first fault of these lines, the first of which has this number
abbrev pub lines_fault : Judge → Preamble → ℕ → List (List ℕ) → Option LineFault
lines_fault judge preamble number [] = None
lines_fault judge preamble number (line ∷ more) =
    option_or (line_fault judge preamble number line) (lines_fault judge preamble (number + 1) more)

-- the first fault from the third line on, if the second asks for a heap that may be asked for
abbrev pub further_fault : Judge → ℕ → Option Heap → List (List ℕ) → Option LineFault
further_fault judge version None more = fault_at 2 BadHeap
further_fault judge version (Some heap) more =
    if judge.takes heap then lines_fault judge (record { version = version; heap = heap }) 3 more else fault_at 2 BadHeap

-- the first fault from the second line on, if the first tells a version
abbrev pub heap_fault : Judge → Option ℕ → List (List ℕ) → Option LineFault
heap_fault judge None lines = fault_at 1 NoHeader
heap_fault judge (Some version) [] = fault_at 2 BadHeap
heap_fault judge (Some version) (line ∷ more) = further_fault judge version (heap_of version (words_of line)) more

-- the first fault of the lines of a text
abbrev pub header_fault : Judge → List (List ℕ) → Option LineFault
header_fault judge [] = fault_at 1 NoHeader
header_fault judge (line ∷ more) = heap_fault judge (judge.version_of line) more

-- the first fault of a text of the kind that is judged so
unfoldable pub text_fault : Judge → List ℕ → Option LineFault
text_fault judge text = header_fault judge (lines_of text)

-- the first fault of a script
abbrev pub first_fault : Form → List ℕ → Option LineFault
first_fault form text = text_fault (script_judge form) text
