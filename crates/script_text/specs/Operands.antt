-- The operands of the commands.
use Rattle.std.specs.Prelude.{ℕ, ◌-◌, ◌&&◌, List, [], ◌∷◌, Option, Some, None, Result, Ok, Err, codes, nat_le, slice_index, if◌then◌else◌}
use Rattle.heap_model.specs.Limits.{last_register, last_index, most_fields, most_cells, most_turns, number_limit}
use Rattle.heap_model.specs.declared.command.Command.{Command}
use Rattle.heap_model.specs.declared.command.Command.TheVariants.{New, Array, Get, Set, Cas, Num, Nil, Copy, Same, Len, Poll, Collect}
use Rattle.script_text.specs.declared.cause.Cause.{Cause}
use Rattle.script_text.specs.declared.cause.Cause.TheVariants.{BadNumber, OutOfRange, TooManyWords}
use Rattle.script_text.specs.Numbers.{number_of}

-- the least and the most number of an operand
abbrev pub Range : Type 0
Range = ℕ × ℕ

-- the numbers of a register that is written
abbrev pub target_range : Range
target_range = (1, last_register)

-- the numbers of a register that is read
abbrev pub register_range : Range
register_range = (0, last_register)

-- the index of a field or cell
abbrev pub index_range : Range
index_range = (0, last_index)

-- each command of a seat by its name, with the ranges of its operands
abbrev pub commands : List (List ℕ × List Range)
commands =
    (codes "new", target_range ∷ (1, most_fields) ∷ [])
    ∷ (codes "array", target_range ∷ (1, most_cells) ∷ [])
    ∷ (codes "get", target_range ∷ register_range ∷ index_range ∷ [])
    ∷ (codes "set", register_range ∷ index_range ∷ register_range ∷ [])
    ∷ (codes "cas", register_range ∷ index_range ∷ register_range ∷ register_range ∷ [])
    ∷ (codes "num", target_range ∷ (0, number_limit - 1) ∷ [])
    ∷ (codes "nil", target_range ∷ [])
    ∷ (codes "copy", target_range ∷ register_range ∷ [])
    ∷ (codes "same", register_range ∷ register_range ∷ [])
    ∷ (codes "len", register_range ∷ [])
    ∷ (codes "poll", [])
    ∷ (codes "collect", [])
    ∷ []

-- each command of a seat by its name, made with these operands
abbrev pub commands_with : List ℕ → List (List ℕ × Command)
commands_with ns =
    let at : ℕ → ℕ = λ k. slice_index ns k in
    (codes "new", New (at 0) (at 1))
    ∷ (codes "array", Array (at 0) (at 1))
    ∷ (codes "get", Get (at 0) (at 1) (at 2))
    ∷ (codes "set", Set (at 0) (at 1) (at 2))
    ∷ (codes "cas", Cas (at 0) (at 1) (at 2) (at 3))
    ∷ (codes "num", Num (at 0) (at 1))
    ∷ (codes "nil", Nil (at 0))
    ∷ (codes "copy", Copy (at 0) (at 1))
    ∷ (codes "same", Same (at 0) (at 1))
    ∷ (codes "len", Len (at 0))
    ∷ (codes "poll", Poll)
    ∷ (codes "collect", Collect)
    ∷ []

-- each command of the collector by its name, with the ranges of its operands
abbrev pub turn_commands : List (List ℕ × List Range)
turn_commands =
    (codes "turns", (0, most_turns) ∷ [])
    ∷ (codes "cycle", [])
    ∷ []

-- the words after a number, where it is in the range
abbrev pub after_number : Range → Option ℕ → List (List ℕ) → Result (List (List ℕ)) Cause
after_number range None rest = Err BadNumber
after_number range (Some n) rest =
    if nat_le range.0 n && nat_le n range.1 then Ok rest else Err OutOfRange

-- the words after the first, where that is an operand in the range
abbrev pub after_operand : Range → List (List ℕ) → Result (List (List ℕ)) Cause
after_operand range [] = Err BadNumber
after_operand range (word ∷ rest) = after_number range (number_of word) rest

-- the fault of a word, or else that of the words after it
abbrev pub fault_or : (List (List ℕ) → Option Cause) → Result (List (List ℕ)) Cause → Option Cause
fault_or fault (Ok rest) = fault rest
fault_or fault (Err cause) = Some cause

-- what is wrong with the operands, looked at from the left
abbrev pub operands_fault : List Range → List (List ℕ) → Option Cause
operands_fault [] [] = None
operands_fault [] (word ∷ rest) = Some TooManyWords
operands_fault (range ∷ ranges) words = fault_or (operands_fault ranges) (after_operand range words)
