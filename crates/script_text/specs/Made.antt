-- Made scripts: each line by its number and by what is drawn for it.
use Rattle.std.specs.Prelude.{ℕ, zero, suc, ◌+◌, ◌/◌, ◌%◌, ◌==◌, if◌then◌else◌, List, [], ◌∷◌, length, map, slice_index_or}
use Rattle.std.specs.List.{range_with_len}
use Rattle.heap_model.specs.Limits.{last_register, register_count}
use Rattle.heap_model.specs.declared.heap.Heap.{Heap}
use Rattle.heap_model.specs.declared.command.Command.{Command}
use Rattle.heap_model.specs.declared.command.Command.TheVariants.{New, Array, Get, Set, Num, Nil, Copy, Same, Poll}
use Rattle.script_text.specs.declared.script.Line.{Line}
use Rattle.script_text.specs.declared.script.Line.TheVariants as lines
use Rattle.script_text.specs.declared.script.Script.{Script}
use Rattle.script_text.specs.Generator.{draw, state_after_draws}
use Rattle.script_text.specs.Preamble.{usual_board}
use Rattle.script_text.specs.Words.{command_words}

-- the greatest start of the generator
abbrev pub most_start : ℕ
most_start = 2147483647

-- the most lines behind the heap line
abbrev pub most_made_lines : ℕ
most_made_lines = 32768

-- the register that a draw names where one is written
abbrev pub drawn_target : ℕ → ℕ
drawn_target drawn = 1 + drawn % last_register

-- the register that a draw names where one is read
abbrev pub drawn_register : ℕ → ℕ
drawn_register drawn = drawn % register_count

-- the field or cell that a draw names
abbrev pub drawn_index : ℕ → ℕ
drawn_index drawn = drawn % 8

-- the commands that can be picked, with these draws for their operands from left to right
abbrev pub commands_of : ℕ → ℕ → ℕ → List Command
commands_of x y z =
    New (drawn_target x) (1 + y % 12)
    ∷ Array (drawn_target x) (1 + y % 32)
    ∷ Get (drawn_target x) (drawn_register y) (drawn_index z)
    ∷ Set (drawn_register x) (drawn_index y) (drawn_register z)
    ∷ Num (drawn_target x) y
    ∷ Nil (drawn_target x)
    ∷ Copy (drawn_target x) (drawn_register y)
    ∷ Same (drawn_register x) (drawn_register y)
    ∷ []

-- the command that the draws from a state make: the first picks it, the others are its operands
abbrev pub drawn_command : ℕ → Command
drawn_command state = slice_index_or (commands_of (draw 2 state) (draw 3 state) (draw 4 state)) (draw 1 state % 8) Poll

-- the command of line i: in every fourth round the seats poll, which draws nothing, and else it is drawn
abbrev pub made_command : ℕ → ℕ → ℕ → Command
made_command seats i state = if i / seats % 4 == 3 then Poll else drawn_command state

-- the draws of a command: one for its name and one for each operand, but none for a poll
abbrev pub draws_of : Command → ℕ
draws_of Poll = 0
draws_of command = length (command_words command)

-- the state before the line of this number, counted from 0
abbrev pub state_before : ℕ → ℕ → ℕ → ℕ
state_before start seats zero = start
state_before start seats (suc i) =
    let state = state_before start seats i in state_after_draws (draws_of (made_command seats i state)) state

-- the line of this number: the seats take turns
abbrev pub made_line : ℕ → ℕ → ℕ → Line
made_line start seats i = lines.Seat (i % seats) (made_command seats i (state_before start seats i))

-- the heap of a made script
abbrev pub made_heap : ℕ → Heap
made_heap seats = record { groups = 64; spine = 256; seats = seats; board = usual_board }

-- the script that is made from this start, for so many seats and of so many lines
abbrev pub made_script : ℕ → ℕ → ℕ → Script
made_script start seats count = record { version = 1; heap = made_heap seats; lines = map (made_line start seats) (range_with_len 0 count) }
