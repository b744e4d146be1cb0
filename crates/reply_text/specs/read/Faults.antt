-- The first fault of the text of a history.
use Rattle.std.specs.Prelude.{ℕ, ◌+◌, ◌==◌, List, [], ◌∷◌, Option, Some, None, bytes_eq, codes, if◌then◌else◌}
use Rattle.heap_model.specs.declared.heap.Heap.{Heap}
use Rattle.script_text.specs.declared.cause.Cause.TheVariants.{NoHeader, BadHeap, BadEntry, NoEnd, HistoryLines}
use Rattle.script_text.specs.declared.cause.LineFault.{LineFault}
use Rattle.script_text.specs.declared.preamble.Preamble.{Preamble}
use Rattle.script_text.specs.declared.script.Form.{Form}
use Rattle.script_text.specs.declared.script.Form.TheVariants.{Play, Run}
use Rattle.script_text.specs.Faults.{fault_at}
use Rattle.script_text.specs.HeapLine.{heap_of}
use Rattle.script_text.specs.Text.{lines_of, words_of}
use Rattle.reply_text.specs.declared.read.stage.Stage.{Stage}
use Rattle.reply_text.specs.declared.read.stage.Stage.TheVariants.{Unmarked, Marked, Ended}
use Rattle.reply_text.specs.History.{too_many}
use Rattle.reply_text.specs.read.LineWords.{line_of}
use Rattle.reply_text.specs.read.Tokens.{◌>>=◌}
use Rattle.reply_text.specs.read.Stages.{first_stage, after_line}

-- what is wrong where no line follows
abbrev pub end_fault : Stage → ℕ → Option LineFault
end_fault Ended number = None
end_fault Unmarked number = fault_at number NoEnd
end_fault Marked number = fault_at number NoEnd

-- what is wrong with the line of this number, by where it leads, or else with the lines after it
abbrev pub history_line_fault : ℕ → Option Stage → (Stage → Option LineFault) → Option LineFault
history_line_fault number None rest = fault_at number BadEntry
history_line_fault number (Some stage) rest = if number == too_many then fault_at number HistoryLines else rest stage

-- the first fault of these lines, the first of which has this number
abbrev pub history_lines_fault : Form → Preamble → Stage → ℕ → List (List ℕ) → Option LineFault
history_lines_fault form preamble stage number [] = end_fault stage number
history_lines_fault form preamble stage number (line ∷ more) =
    history_line_fault number (line_of form preamble line >>= after_line stage) (λ next. history_lines_fault form preamble next (number + 1) more)

-- the version and the form that the first line tells
abbrev pub form_of : List ℕ → Option (ℕ × Form)
form_of line =
    if bytes_eq line (codes "history 1 play") then Some (1, Play)
    else if bytes_eq line (codes "history 1 run") then Some (1, Run)
    else if bytes_eq line (codes "history 2 play") then Some (2, Play)
    else if bytes_eq line (codes "history 2 run") then Some (2, Run)
    else None

-- the first fault from the third line on, if the second asks for a heap
abbrev pub history_further_fault : ℕ → Form → Option Heap → List (List ℕ) → Option LineFault
history_further_fault version form None more = fault_at 2 BadHeap
history_further_fault version form (Some heap) more =
    history_lines_fault form (record { version = version; heap = heap }) (first_stage form) 3 more

-- the first fault from the second line on, if the first tells a version and a form
abbrev pub history_heap_fault : Option (ℕ × Form) → List (List ℕ) → Option LineFault
history_heap_fault None more = fault_at 1 NoHeader
history_heap_fault (Some told) [] = fault_at 2 BadHeap
history_heap_fault (Some told) (line ∷ more) =
    history_further_fault told.0 told.1 (heap_of told.0 (words_of line)) more

-- the first fault of the lines of a text
abbrev pub history_header_fault : List (List ℕ) → Option LineFault
history_header_fault [] = fault_at 1 NoHeader
history_header_fault (line ∷ more) = history_heap_fault (form_of line) more

-- the first fault of a text
unfoldable pub first_history_fault : List ℕ → Option LineFault
first_history_fault text = history_header_fault (lines_of text)
