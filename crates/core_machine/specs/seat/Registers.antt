-- What a seat's registers hold, and how a register's value stands in a cell.
use Rattle.std.specs.Prelude.{ℕ, ◌<◌, ◌==◌, Bool, true, false, if◌then◌else◌, List, Option, Some, None, slice_index_or}
use Rattle.std.specs.List.{filter_map}
use Rattle.heap_words.specs.declared.cell.Cell.{Cell}
use Rattle.heap_words.specs.declared.kind.Kind.TheVariants as kinds
use Rattle.heap_words.specs.Cell.{cell_word}
use Rattle.heap_model.specs.declared.id.Id.{Id}
use Rattle.heap_model.specs.declared.id.Id.TheVariants.{Board, Made}
use Rattle.heap_model.specs.declared.id.Value.{Value}
use Rattle.heap_model.specs.declared.id.Value.TheVariants as values
use Rattle.heap_model.specs.Limits.{number_limit}
use Rattle.core_machine.specs.declared.seat.register.Register.{Register}
use Rattle.core_machine.specs.declared.seat.register.Register.TheVariants.{Nil, Number, Object}

-- the register of this number
abbrev pub register_in : List Register → ℕ → Register
register_in registers r = slice_index_or registers r Nil

-- the stamp under which the register of this number was seen
abbrev pub seen_in : List ℕ → ℕ → ℕ
seen_in seen r = slice_index_or seen r 0

-- the value that a register holds
abbrev pub value_of : Register → Value
value_of Nil = values.Nil
value_of (Number n) = values.Number n
value_of (Object head id) = values.Object id

-- the first fragment of the object that a register holds
abbrev pub register_head : Register → Option ℕ
register_head (Object head id) = Some head
register_head Nil = None
register_head (Number n) = None

-- the first fragments of the objects that the registers hold, register 0 first
abbrev pub heads_of : List Register → List ℕ
heads_of registers = filter_map register_head registers

-- the cell of a register's value under a stamp; a reference is the first fragment
abbrev pub cell_of_register : Register → ℕ → Cell
cell_of_register Nil stamp = record { kind = kinds.Nil; value = 0; stamp = stamp }
cell_of_register (Number n) stamp = record { kind = kinds.Number; value = n; stamp = stamp }
cell_of_register (Object head id) stamp = record { kind = kinds.Reference; value = head; stamp = stamp }

-- the word of that cell
abbrev pub register_word : Register → ℕ → ℕ
register_word register stamp = cell_word (cell_of_register register stamp)

-- whether two ids are the same
abbrev pub is_same_id : Id → Id → Bool
is_same_id Board Board = true
is_same_id (Made seat count) (Made other number) = if seat == other then count == number else false
is_same_id _ _ = false

-- whether two values are the same
abbrev pub is_same_value : Value → Value → Bool
is_same_value values.Nil values.Nil = true
is_same_value (values.Number n) (values.Number m) = n == m
is_same_value (values.Object id) (values.Object other) = is_same_id id other
is_same_value _ _ = false

-- the number that it holds, if it holds one, is within the limit
abbrev pub IsSmall : Register → Type 0
IsSmall Nil = Unit {0}
IsSmall (Number n) = n < number_limit
IsSmall (Object head id) = Unit {0}
