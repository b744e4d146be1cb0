-- The sizes and limits of heaps, commands and histories, each once and by name.
use Rattle.std.specs.Prelude.{ℕ, ◌-◌, ◌^◌}

-- the fragments of a group
abbrev pub group_fragments : ℕ
group_fragments = 16

-- the most groups of a heap
abbrev pub most_groups : ℕ
most_groups = 4096

-- the most spine words that a heap may grant
abbrev pub most_spine : ℕ
most_spine = 16384

-- the most seats of a heap
abbrev pub most_seats : ℕ
most_seats = 16

-- the registers of a seat
abbrev pub register_count : ℕ
register_count = 16

-- the last register
abbrev pub last_register : ℕ
last_register = 15

-- the most fields of a record
abbrev pub most_fields : ℕ
most_fields = 47

-- the most cells of an array
abbrev pub most_cells : ℕ
most_cells = 4096

-- the last index that a command may name
abbrev pub last_index : ℕ
last_index = 4096

-- the last seat that a heap may have
abbrev pub last_seat : ℕ
last_seat = 15

-- the most turns that one command asks for
abbrev pub most_turns : ℕ
most_turns = 1000000

-- the numbers in cells are below this
abbrev pub number_limit : ℕ
number_limit = 2 ^ 30

-- the most fragments that a seat keeps after a reply
abbrev pub most_reserve : ℕ
most_reserve = 15

-- a seat makes fewer objects than this
abbrev pub name_limit : ℕ
name_limit = 2 ^ 32

-- as many stamps as a seat has: after so many sets of it they come again
abbrev pub stamp_limit : ℕ
stamp_limit = 2 ^ 26

-- a seat does fewer sets than this, its cas that swapped counted too
abbrev pub set_limit : ℕ
set_limit = 2 ^ 63

-- what stands in the word of a seat that has left
abbrev pub left_word : ℕ
left_word = 2 ^ 64 - 1
