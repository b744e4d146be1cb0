-- The board, a record that is there from the start: the one place that says its size.
use Rattle.std.specs.Prelude.{ℕ}
use Rattle.heap_model.specs.declared.heap.Heap.{Heap}
use Rattle.heap_model.specs.Needs.{record_fragments}

-- the fields of the heap's board
abbrev pub board_fields : Heap → ℕ
board_fields heap = heap.board

-- the fragments of the heap's board
abbrev pub board_fragments : Heap → ℕ
board_fragments heap = record_fragments (board_fields heap)
