-- What was made of the holders that a table was opened with is of its collector's table.
use Rattle.std.proofs.Common.{◌≡◌, sym, ap, ◌∙◌}
use Rattle.heap_model.specs.declared.heap.Heap.{Heap}
use Rattle.heap_table.specs.CollectorHeld.{CollectorHeld}
use Rattle.heap_table.specs.Opened.{IsOpened}
use Rattle.heap_table.specs.SeatHeld.{SeatHeld}
use Rattle.library_tests.specs.SameSeat.{IsOfTable, IsSameSeat}

-- the same holder holds the same seat
pub is_same_seat_of_equal : (old new : SeatHeld) → new ≡ old → IsSameSeat old new
is_same_seat_of_equal old new same = record { same_table = ap (λ (h : SeatHeld). h.table) same; same_heap = ap (λ (h : SeatHeld). h.heap) same; same_number = ap (λ (h : SeatHeld). h.number) same }

pub is_of_table_of_opened : (collector : CollectorHeld) (heap : Heap) (opened held : SeatHeld) → collector.heap ≡ heap → IsOpened collector.table heap opened → IsSameSeat opened held → IsOfTable collector held
is_of_table_of_opened collector heap opened held its is stays = record { same_table = stays.same_table ∙ is.table_is; same_heap = stays.same_heap ∙ is.heap_is ∙ sym its }
