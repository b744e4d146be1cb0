-- The words that spell a heap, a command and a line, and the lines that spell a text.
use Rattle.std.specs.Prelude.{ℕ, ◌==◌, List, [], ◌∷◌, codes, decimal, map, if◌then◌else◌}
use Rattle.heap_model.specs.declared.command.Command.{Command}
use Rattle.heap_model.specs.declared.command.Command.TheVariants.{New, Array, Get, Set, Cas, Num, Nil, Copy, Same, Len, Poll, Collect, Leave}
use Rattle.heap_model.specs.declared.command.TurnCommand.{TurnCommand}
use Rattle.heap_model.specs.declared.command.TurnCommand.TheVariants as turns
use Rattle.script_text.specs.declared.preamble.Preamble.{Preamble}
use Rattle.script_text.specs.declared.script.Line.{Line}
use Rattle.script_text.specs.declared.script.Line.TheVariants as lines
use Rattle.script_text.specs.declared.script.Script.{Script}
use Rattle.script_text.specs.Text.{sentence}

-- the number of the board's fields, as a word of a heap line: from version 2 on there is one
abbrev pub board_words : ℕ → ℕ → List (List ℕ)
board_words version board = if version == 2 then decimal board ∷ [] else []

-- the numbers of a heap line, as words
abbrev pub heap_words : Preamble → List (List ℕ)
heap_words preamble =
    let heap = preamble.heap in
    decimal heap.groups ∷ decimal heap.spine ∷ decimal heap.seats ∷ board_words preamble.version heap.board

-- the heap line
abbrev pub heap_line : Preamble → List ℕ
heap_line preamble = sentence (codes "heap" ∷ heap_words preamble)

-- the lines of a text: its first one, the heap line, and the further ones, each by its words
abbrev pub text_lines : {L : Type 0} → List ℕ → (L → List (List ℕ)) → Preamble → List L → List (List ℕ)
text_lines header words preamble lines = header ∷ heap_line preamble ∷ map (λ line. sentence (words line)) lines

-- the words of a command
abbrev pub command_words : Command → List (List ℕ)
command_words (New d fields) = codes "new" ∷ decimal d ∷ decimal fields ∷ []
command_words (Array d cells) = codes "array" ∷ decimal d ∷ decimal cells ∷ []
command_words (Get d r i) = codes "get" ∷ decimal d ∷ decimal r ∷ decimal i ∷ []
command_words (Set r i v) = codes "set" ∷ decimal r ∷ decimal i ∷ decimal v ∷ []
command_words (Cas r i a v) = codes "cas" ∷ decimal r ∷ decimal i ∷ decimal a ∷ decimal v ∷ []
command_words (Num d n) = codes "num" ∷ decimal d ∷ decimal n ∷ []
command_words (Nil d) = codes "nil" ∷ decimal d ∷ []
command_words (Copy d r) = codes "copy" ∷ decimal d ∷ decimal r ∷ []
command_words (Same a b) = codes "same" ∷ decimal a ∷ decimal b ∷ []
command_words (Len r) = codes "len" ∷ decimal r ∷ []
command_words Poll = codes "poll" ∷ []
command_words Collect = codes "collect" ∷ []
command_words Leave = codes "leave" ∷ []

-- the words of a command of the collector
abbrev pub turn_words : TurnCommand → List (List ℕ)
turn_words (turns.Turns n) = codes "turns" ∷ decimal n ∷ []
turn_words turns.Cycle = codes "cycle" ∷ []

-- the words of a line
abbrev pub line_words : Line → List (List ℕ)
line_words (lines.Seat seat command) = decimal seat ∷ command_words command
line_words (lines.Turns command) = codes "c" ∷ turn_words command

-- the text of a line of a script, without a line feed
abbrev pub line_text : Line → List ℕ
line_text line = sentence (line_words line)

-- the first line of a script
abbrev pub script_header : ℕ → List ℕ
script_header version = if version == 2 then codes "schism 2" else codes "schism 1"

-- what the first two lines of a script tell
abbrev pub preamble_of : Script → Preamble
preamble_of script = record { version = script.version; heap = script.heap }

-- the lines of a script's text
abbrev pub script_lines : Script → List (List ℕ)
script_lines script = text_lines (script_header script.version) line_words (preamble_of script) script.lines
