-- What the views become where a seat is handed out, where one is folded in, and where closing reads a word.
use Rattle.std.specs.Prelude.{ℕ, suc, [], ◌∷◌, ◌++◌, slice_set, Some}
use Rattle.heap_model.specs.declared.heap.Heap.{Heap}
use Rattle.core_machine.specs.machine.Opening.{opening_seat}
use Rattle.core_machine.specs.seat.Seat.{Seat}
use Rattle.heap_table.specs.Known.{CollectorKnown}
use Rattle.heap_table.specs.Views.{seat_view, collector_view, seat_known_by, known_by}
use Rattle.heap_table.specs.declared.view.View.{View}

-- one more seat was handed out
abbrev pub with_handed : CollectorKnown → CollectorKnown
with_handed known = record known { handed = suc known.handed }

-- the view of the collector's holder then
abbrev pub handing_view : View → View
handing_view view = collector_view (with_handed (known_by view))

-- the view of that seat's holder
abbrev pub handed_view : Heap → View → View
handed_view heap view = seat_view (known_by view).handed (opening_seat heap (known_by view).handed)

-- the seat was folded in, in the phase that is now
abbrev pub with_folded : CollectorKnown → ℕ → Seat → CollectorKnown
with_folded known number seat = record known { seats = slice_set known.seats number (Some seat); folded = known.collector.phase }

-- the view of the collector's holder once it has folded in the seat of the other view
abbrev pub folding_view : View → View → View
folding_view view other = collector_view (with_folded (known_by view) (seat_known_by other).number (seat_known_by other).seat)

-- closing has read one more word
abbrev pub with_closed : CollectorKnown → ℕ → CollectorKnown
with_closed known word = record known { closed = known.closed ++ word ∷ [] }
