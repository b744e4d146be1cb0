-- What the program's statuses say of what it read and wrote.
use Rattle.std.specs.Prelude.{◌≡◌, ℕ, ◌+◌, ◌≤◌, List, [], length, Option}
use Rattle.form_words.specs.declared.work.Work.{Work}
use Rattle.form_words.specs.declared.work.Work.TheVariants.{Make}
use Rattle.form_words.specs.Works.{most_bytes, AskFor, HasInput, IsForm}
use Rattle.script_text.specs.declared.cause.Cause.{Cause}
use Rattle.io_edge.specs.Faults.{Rose}
use Rattle.io_edge.specs.Left.{GivesAll, LosesNext, LosesUpTo}
use Rattle.io_edge.specs.Taken.{Takes, TakesFront}
use Rattle.schism_program.specs.declared.status.Status.{Status}
use Rattle.schism_program.specs.declared.status.Status.TheVariants as statuses
use Rattle.heap_table.specs.Closed.{ClosedTable}
use Rattle.schism_program.specs.Works.{FailsAt, IsIllegalAt, LeavesTable, MakesText}

-- all that was left was read, where the work has an input; where it has none, nothing was
abbrev pub IsRead : Work → Option (List ℕ) → Option (List ℕ) → List ℕ → Type 0
IsRead (Make start seats lines) left left' input = (input ≡ []) × (left' ≡ left)
IsRead work left left' input = GivesAll left left' input

-- the words ask for the work, and its input was read, no more than the limit
pub record ReadsInput (words : List (List ℕ)) (left left' : Option (List ℕ)) (work : Work) (input : List ℕ) : Type 0 where
  pub asked : AskFor words work
  pub all : IsRead work left left' input
  pub short : length input ≤ most_bytes work

-- all was read, and what was written is told by the text that the work makes of it
pub record Writes (IsWritten : List ℕ → Type 0) (words : List (List ℕ)) (left left' : Option (List ℕ)) : Type 0 where
  pub work : Work
  pub input : List ℕ
  pub text : List ℕ
  pub reads : ReadsInput words left left' work input
  pub makes : MakesText work input text
  pub written : IsWritten text

-- all was read, and a front of the text that the work makes of it was written
abbrev pub WritesFront : List (List ℕ) → Option (List ℕ) → Option (List ℕ) → Option (List ℕ) → Option (List ℕ) → Type 0
WritesFront words left left' taken taken' = Writes (TakesFront taken taken') words left left'

-- all was read, the text that the work makes of it was written, and of a run without the lock the closed table is left, whose run the text tells
pub record WritesAll (words : List (List ℕ)) (left left' taken taken' : Option (List ℕ)) (closed : Option ClosedTable) : Type 0 where
  pub all : Writes (Takes taken taken') words left left'
  pub leaves : LeavesTable all.work all.input all.text closed

-- all was read, and this line is refused
pub record IsRefusedAt (words : List (List ℕ)) (left left' : Option (List ℕ)) (line : ℕ) (cause : Cause) : Type 0 where
  pub work : Work
  pub input : List ℕ
  pub reads : ReadsInput words left left' work input
  pub fails : FailsAt work input line cause

-- all was read, and this line isn't legal
pub record IsNotLegal (words : List (List ℕ)) (left left' : Option (List ℕ)) (line : ℕ) : Type 0 where
  pub work : Work
  pub input : List ℕ
  pub reads : ReadsInput words left left' work input
  pub illegal : IsIllegalAt work input line

-- one byte more than the limit was read
pub record ReadsTooMuch (words : List (List ℕ)) (left left' : Option (List ℕ)) : Type 0 where
  pub work : Work
  pub asked : AskFor words work
  pub reads : HasInput work
  pub lost : LosesNext left left' (most_bytes work + 1)

-- the work has an input, of which no more than the limit was read; or it has none, and nothing was
abbrev pub IsReadUpTo : Work → Option (List ℕ) → Option (List ℕ) → Type 0
IsReadUpTo (Make start seats lines) left left' = left' ≡ left
IsReadUpTo work left left' = LosesUpTo left left' (most_bytes work)

-- the words ask for the work, and no more than its limit was read
pub record ReadsNoMore (words : List (List ℕ)) (left left' : Option (List ℕ)) : Type 0 where
  pub work : Work
  pub asked : AskFor words work
  pub lost : IsReadUpTo work left left'

-- what a status says of the words, of what was read and written, and of the table that is left
abbrev pub StatusSays : List (List ℕ) → Option (List ℕ) → Option (List ℕ) → Option (List ℕ) → Option (List ℕ) → Option ClosedTable → Status → Type 0
StatusSays words left left' taken taken' closed statuses.Done = WritesAll words left left' taken taken' closed
StatusSays words left left' taken taken' closed (statuses.Refused line cause) = IsRefusedAt words left left' line cause
StatusSays words left left' taken taken' closed (statuses.NotLegal line) = IsNotLegal words left left' line
StatusSays words left left' taken taken' closed statuses.TooLong = ReadsTooMuch words left left'
StatusSays words left left' taken taken' closed statuses.WriteFault = WritesFront words left left' taken taken'
StatusSays words left left' taken taken' closed statuses.Usage = ¬ IsForm words
StatusSays words left left' taken taken' closed statuses.ReadFault = Unit {0}
StatusSays words left left' taken taken' closed statuses.Memory = Unit {0}

-- the source's count of faults rose where the status tells so, and else it is as it was
abbrev pub CountsReads : Status → ℕ → ℕ → Type 0
CountsReads statuses.ReadFault old new = Rose old new
CountsReads _ old new = new ≡ old

-- the sink's count of faults rose where the status tells so, and else it is as it was
abbrev pub CountsWrites : Status → ℕ → ℕ → Type 0
CountsWrites statuses.WriteFault old new = Rose old new
CountsWrites _ old new = new ≡ old

-- the statuses after which something was written
abbrev pub IsWriting : Status → Type 0
IsWriting statuses.Done = Unit {0}
IsWriting statuses.WriteFault = Unit {0}
IsWriting _ = ⊥
