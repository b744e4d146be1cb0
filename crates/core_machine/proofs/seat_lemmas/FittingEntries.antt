-- A seat's own data fit together whatever its entries are.
use Rattle.std.proofs.Common.{List}
use Rattle.core_machine.proofs.Terms.{Heap, Entry, Seat, with_entries, Fits}

-- the entries don't matter
pub fits_with_entries : (heap : Heap) (seat : Seat) (more : List Entry) → Fits heap seat → Fits heap (with_entries seat more)
fits_with_entries heap seat more fits = record {
  own = fits.own;
  hand = fits.hand;
  way = fits.way;
  asked_small = fits.asked_small;
  at_point = fits.at_point;
  way_at_point = fits.way_at_point;
  answer_at_point = fits.answer_at_point;
  gone = λ left. record { idle = (fits.gone left).idle; no_reserve = (fits.gone left).no_reserve };
}
