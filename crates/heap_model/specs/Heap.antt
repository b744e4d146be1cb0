use Rattle.std.specs.Prelude.{◌≤◌}
use Rattle.heap_model.specs.declared.heap.Heap.{Heap}
use Rattle.heap_model.specs.Limits.{most_groups, most_spine, most_seats, most_fields}

-- the sizes are within the limits
pub record IsHeap (heap : Heap) : Type 0 where
  pub some_group : 1 ≤ heap.groups
  pub groups_fit : heap.groups ≤ most_groups
  pub spine_fits : heap.spine ≤ most_spine
  pub some_seat : 1 ≤ heap.seats
  pub seats_fit : heap.seats ≤ most_seats
  pub some_board : 1 ≤ heap.board
  pub board_fits : heap.board ≤ most_fields
