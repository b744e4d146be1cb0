-- The berths of a table's seats, and a turn that helps where it waits.
use Rattle.std.specs.Prelude.{◌≡◌, ℕ, suc, ◌≤◌, List, [], ◌∷◌, length, Option, Some, None, slice_get, slice_set}
use Rattle.heap_model.specs.declared.calls.collector_calls.Turn.{Turn}
use Rattle.heap_model.specs.declared.calls.collector_calls.Turn.TheVariants.{Stepped, Waits, Ended}
use Rattle.core_machine.specs.collector.Collector.{next_turn}
use Rattle.heap_table.specs.CollectorHeld.{CollectorHeld, IsTurned}
use Rattle.seat_berth.specs.Helped.{Helps}
use Rattle.seat_berth.specs.Parties.{HelperSeen}
use Rattle.seat_berth.specs.declared.helper.Helped.{Helped}

-- the berths are those of seats with these numbers, one after another
abbrev pub AreInPlace : ℕ → List HelperSeen → Type 0
AreInPlace number [] = Unit {0}
AreInPlace number (berth ∷ berths) = (berth.home.number ≡ number) × AreInPlace (suc number) berths

-- help at one berth has come to this, and the others stay as they are
pub record HelpsOne (old new : List HelperSeen) (number : ℕ) (helped : Helped) : Type 0 where
  pub before : HelperSeen
  pub after : HelperSeen
  pub there : slice_get old number ≡ Some before
  pub of : before.home.number ≡ number
  pub helps : Helps before after helped
  pub others : new ≡ slice_set old number after

-- so it is at the berth of this seat, where there is one
abbrev pub HelpsAt : List HelperSeen → List HelperSeen → ℕ → Option Helped → Type 0
HelpsAt old new number (Some helped) = HelpsOne old new number helped
HelpsAt old new number None = (length old ≤ number) × (new ≡ old)

-- where the turn waits for a seat, it helps at that seat's berth
abbrev pub HelpsWhereWaits : List HelperSeen → List HelperSeen → Turn → Option Helped → Type 0
HelpsWhereWaits old new (Waits seat answered phase) helped = HelpsAt old new seat helped
HelpsWhereWaits old new Stepped helped = (helped ≡ None) × (new ≡ old)
HelpsWhereWaits old new (Ended cycle kept) helped = (helped ≡ None) × (new ≡ old)

-- the collector has made its due turn, which answers this
pub record MakesTurn (old new : CollectorHeld) (turn : Turn) : Type 0 where
  pub found : ℕ
  pub turned : IsTurned old new found
  pub answer : turn ≡ (next_turn old.heap old.known.collector).answer found
