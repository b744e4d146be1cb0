-- The numbers and texts of statuses.
use Rattle.std.specs.Prelude.{ℕ, List, [], ◌∷◌, ◌++◌, codes, decimal}
use Rattle.script_text.specs.declared.cause.Cause.{Cause}
use Rattle.script_text.specs.declared.cause.Cause.TheVariants.{NoHeader, BadHeap, NoSeat, NoCommand, BadNumber, OutOfRange, TooManyWords, TooManyLines, BadEntry, NoEnd, HistoryLines, NotPlay}
use Rattle.schism_program.specs.declared.status.Status.{Status}
use Rattle.schism_program.specs.declared.status.Status.TheVariants.{Done, Refused, Usage, ReadFault, WriteFault, Memory, TooLong, NotLegal}

-- the exit status of the process
abbrev pub status_number : Status → ℕ
status_number Done = 0
status_number (Refused line cause) = 1
status_number Usage = 2
status_number ReadFault = 3
status_number WriteFault = 4
status_number Memory = 5
status_number TooLong = 6
status_number (NotLegal line) = 7

-- the name of a cause
abbrev pub cause_name : Cause → List ℕ
cause_name NoHeader = codes "NoHeader"
cause_name BadHeap = codes "BadHeap"
cause_name NoSeat = codes "NoSeat"
cause_name NoCommand = codes "NoCommand"
cause_name BadNumber = codes "BadNumber"
cause_name OutOfRange = codes "OutOfRange"
cause_name TooManyWords = codes "TooManyWords"
cause_name TooManyLines = codes "TooManyLines"
cause_name BadEntry = codes "BadEntry"
cause_name NoEnd = codes "NoEnd"
cause_name HistoryLines = codes "HistoryLines"
cause_name NotPlay = codes "NotPlay"

-- what is said of a status
abbrev pub status_words : Status → List ℕ
status_words Done = []
status_words (Refused line cause) = codes "refused at line " ++ decimal line ++ codes ": " ++ cause_name cause
status_words Usage = codes "usage"
status_words ReadFault = codes "read fault"
status_words WriteFault = codes "write fault"
status_words Memory = codes "memory"
status_words TooLong = codes "too long"
status_words (NotLegal line) = codes "not legal at line " ++ decimal line

-- the line that standard error gets, which is none where all is done
abbrev pub status_line : Status → List ℕ
status_line Done = []
status_line status = status_words status ++ 10 ∷ []
