-- The heap that a heap line asks for.
use Rattle.std.specs.Prelude.{ℕ, ◌==◌, ◌&&◌, List, [], ◌∷◌, Option, Some, None, bytes_eq, codes, nat_le, if◌then◌else◌}
use Rattle.heap_model.specs.declared.heap.Heap.{Heap}
use Rattle.heap_model.specs.Limits.{most_groups, most_spine, most_seats, most_fields}
use Rattle.script_text.specs.Numbers.{number_of}
use Rattle.script_text.specs.Preamble.{usual_board}

-- a heap of these sizes, if they are within the limits
abbrev pub heap_within : Option ℕ → Option ℕ → Option ℕ → Option ℕ → Option Heap
heap_within (Some groups) (Some spine) (Some seats) (Some board) =
    if nat_le 1 groups && nat_le groups most_groups && nat_le spine most_spine
    && nat_le 1 seats && nat_le seats most_seats && nat_le 1 board && nat_le board most_fields
    then Some (record { groups = groups; spine = spine; seats = seats; board = board }) else None
heap_within _ _ _ _ = None

-- the heap that the word and the numbers of a heap line ask for
abbrev pub heap_named : List ℕ → List ℕ → List ℕ → List ℕ → Option ℕ → Option Heap
heap_named word groups spine seats board =
    if bytes_eq word (codes "heap")
    then heap_within (number_of groups) (number_of spine) (number_of seats) board else None

-- the heap that a heap line of three numbers asks for
abbrev pub heap_of_three : List (List ℕ) → Option Heap
heap_of_three (word ∷ groups ∷ spine ∷ seats ∷ []) = heap_named word groups spine seats (Some usual_board)
heap_of_three _ = None

-- the heap that one of four numbers asks for
abbrev pub heap_of_four : List (List ℕ) → Option Heap
heap_of_four (word ∷ groups ∷ spine ∷ seats ∷ board ∷ []) = heap_named word groups spine seats (number_of board)
heap_of_four _ = None

-- the heap that the words of a heap line ask for: from version 2 on it has a number for the board
abbrev pub heap_of : ℕ → List (List ℕ) → Option Heap
heap_of version words = if version == 2 then heap_of_four words else heap_of_three words
