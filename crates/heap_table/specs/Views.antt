-- The views of the holders, in which the table keeps what they know.
use Rattle.std.specs.Prelude.{ℕ, []}
use Rattle.heap_model.specs.declared.heap.Heap.{Heap}
use Rattle.core_machine.specs.collector.Collector.{opening_collector}
use Rattle.core_machine.specs.seat.Seat.{Seat, absent_seat}
use Rattle.heap_table.specs.Known.{SeatKnown, CollectorKnown, opening_known}
use Rattle.heap_table.specs.declared.view.View.{View}
use Rattle.heap_table.specs.declared.view.View.TheVariants.{OfSeat, OfCollector, Spent}

-- the view of the holder of this seat
abbrev pub seat_view : ℕ → Seat → View
seat_view number seat = OfSeat (record { known = record { number = number; seat = seat } })

-- the view of the collector's holder
abbrev pub collector_view : CollectorKnown → View
collector_view known = OfCollector (record { known = known })

-- the view of the collector's holder when the heap opens
abbrev pub opening_view : Heap → View
opening_view heap = collector_view (opening_known heap)

-- what a seat's holder knows by its view; of any other view, of no seat
abbrev pub seat_known_by : View → SeatKnown
seat_known_by (OfSeat view) = view.known
seat_known_by (OfCollector view) = record { number = 0; seat = absent_seat }
seat_known_by Spent = record { number = 0; seat = absent_seat }

-- what the collector's holder knows by its view; of any other view, nothing
abbrev pub known_by : View → CollectorKnown
known_by (OfCollector view) = view.known
known_by (OfSeat view) = record { collector = opening_collector; handed = 0; seats = []; folded = 0; closed = [] }
known_by Spent = record { collector = opening_collector; handed = 0; seats = []; folded = 0; closed = [] }
