-- The state in which a heap opens.
use Rattle.std.specs.Prelude.{◌≡◌, ℕ, ◌+◌, ◌-◌, ◌*◌, ◌%◌, ◌^◌, ◌==◌, nat_lt, false, if◌then◌else◌, List, ◌∷◌, length, map, replicate}
use Rattle.std.specs.List.{range_with_len}
use Rattle.heap_words.specs.declared.name.Name.{Name}
use Rattle.heap_words.specs.declared.phase.TheConstants.{LEFT}
use Rattle.heap_words.specs.Group.{group_word}
use Rattle.heap_words.specs.Spot.{spot_word}
use Rattle.heap_model.specs.declared.heap.Heap.{Heap}
use Rattle.heap_model.specs.declared.id.Id.TheVariants as ids
use Rattle.heap_model.specs.Board.{board_fields, board_fragments}
use Rattle.heap_model.specs.Limits.{last_register, register_count}
use Rattle.core_machine.specs.declared.table.address.Address.{Address}
use Rattle.core_machine.specs.declared.table.address.Address.TheVariants.{Phase, Answer, Budget, Spot, Control, Word, Spine}
use Rattle.core_machine.specs.declared.seat.register.Register.TheVariants.{Nil, Object}
use Rattle.core_machine.specs.table.Layout.{at, InTable, table_length}
use Rattle.heap_words.specs.Newborn.{record_word_of}
use Rattle.core_machine.specs.seat.Seat.{Seat, absent_seat}
use Rattle.core_machine.specs.collector.Collector.{opening_collector}
use Rattle.core_machine.specs.machine.Machine.{State}

-- the board's name
abbrev pub board_name : Name
board_name = record { owner = 0; count = 0 }

-- the board's fragments: the first of the heap
abbrev pub board : Heap → List ℕ
board heap = range_with_len 0 (board_fragments heap)

-- a bit for each of the board's fragments
abbrev pub board_bits : Heap → ℕ
board_bits heap = 2 ^ board_fragments heap - 1

-- the control word of the group with the board: its fragments are taken and born
abbrev pub board_group : Heap → ℕ
board_group heap = group_word (record { taken = board_bits heap; born = board_bits heap; marked = 0; scanned = 0 })

-- the word of the board that stands at this part of this fragment
abbrev pub board_word : Heap → ℕ → ℕ → ℕ
board_word heap fragment part = record_word_of board_name (board_fields heap) (board heap) fragment part

-- the word at each address: there is the board, whose fields were never set, and each number without a seat has left
abbrev pub opening_word : Heap → Address → ℕ
opening_word heap Phase = 0
opening_word heap (Answer number) = if nat_lt number heap.seats then 0 else LEFT
opening_word heap Budget = 0
opening_word heap Spot = spot_word (record { half = 0; offset = 0 })
opening_word heap (Control group) = if group == 0 then board_group heap else 0
opening_word heap (Word fragment part) =
    if nat_lt fragment (board_fragments heap) then board_word heap fragment part else 0
opening_word heap (Spine half offset) = 0

-- the word at an address once every number from the seats up to this one has left
abbrev pub with_left : Heap → ℕ → Address → ℕ → ℕ
with_left heap upto (Answer number) word = if nat_lt number heap.seats then word else if nat_lt number upto then LEFT else word
with_left heap upto Phase word = word
with_left heap upto Budget word = word
with_left heap upto Spot word = word
with_left heap upto (Control group) word = word
with_left heap upto (Word fragment part) word = word
with_left heap upto (Spine half offset) word = word

-- the word at an address once so many of the board's words are written
abbrev pub with_board : Heap → ℕ → Address → ℕ → ℕ
with_board heap count (Word fragment part) word =
    if nat_lt (4 * fragment + part) count then board_word heap fragment part else word
with_board heap count Phase word = word
with_board heap count (Answer number) word = word
with_board heap count Budget word = word
with_board heap count Spot word = word
with_board heap count (Control group) word = word
with_board heap count (Spine half offset) word = word

-- a seat at the opening: register 0 holds the board, and the seats' cursors stand at different groups, as far as there are enough
abbrev pub opening_seat : Heap → ℕ → Seat
opening_seat heap number =
    record absent_seat { registers = Object 0 ids.Board ∷ replicate last_register Nil; seen = replicate register_count 0; cursor = number % heap.groups; left = false }

-- the state is the one in which the heap opens
pub record IsOpening (heap : Heap) (state : State) : Type 0 where
  pub table : length state.words ≡ table_length heap
  pub words_open : (address : Address) → InTable heap address → at heap state.words address ≡ opening_word heap address
  pub seats_open : state.seats ≡ map (opening_seat heap) (range_with_len 0 heap.seats)
  pub nothing_done : state.collector ≡ opening_collector
