use Rattle.std.specs.Prelude.{ℕ, ◌<◌, ◌≤◌}
use Rattle.heap_model.specs.Limits.{last_register, last_index, most_fields, most_cells, number_limit}
use Rattle.heap_model.specs.declared.command.Command.{Command}
use Rattle.heap_model.specs.declared.command.Command.TheVariants.{New, Array, Get, Set, Cas, Num, Nil, Copy, Same, Len, Poll, Collect, Leave}

-- the number is from the least to the most, both of these included
abbrev pub IsWithin : ℕ → ℕ → ℕ → Type 0
IsWithin least most n = (least ≤ n) × (n ≤ most)

-- a register that a command may write
abbrev pub IsTarget : ℕ → Type 0
IsTarget d = IsWithin 1 last_register d

-- a register
abbrev pub IsRegister : ℕ → Type 0
IsRegister r = r ≤ last_register

-- an index that a command may name
abbrev pub IsIndex : ℕ → Type 0
IsIndex i = i ≤ last_index

-- each number of the command is in its range
abbrev pub IsCommand : Command → Type 0
IsCommand (New d fields) = IsTarget d × IsWithin 1 most_fields fields
IsCommand (Array d cells) = IsTarget d × IsWithin 1 most_cells cells
IsCommand (Get d r i) = IsTarget d × IsRegister r × IsIndex i
IsCommand (Set r i v) = IsRegister r × IsIndex i × IsRegister v
IsCommand (Cas r i a v) = IsRegister r × IsIndex i × IsRegister a × IsRegister v
IsCommand (Num d n) = IsTarget d × (n < number_limit)
IsCommand (Nil d) = IsTarget d
IsCommand (Copy d r) = IsTarget d × IsRegister r
IsCommand (Same a b) = IsRegister a × IsRegister b
IsCommand (Len r) = IsRegister r
IsCommand Poll = Unit {0}
IsCommand Collect = Unit {0}
IsCommand Leave = Unit {0}
