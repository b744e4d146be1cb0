-- What the history says of what a seat has found out by the inner calls of its collects.
use Rattle.std.specs.Prelude.{◌≡◌, ◌≢◌, ℕ, ◌+◌, ◌<◌, ◌≤◌, false, List, IfSome}
use Rattle.heap_model.specs.declared.entry.Entry.{Entry}
use Rattle.heap_model.specs.declared.heap.Heap.{Heap}
use Rattle.heap_model.specs.account.PhaseCounts.{phase, last_answer, has_left}
use Rattle.heap_model.specs.account.Phases.{WasBehind}
use Rattle.heap_model.specs.account.Windows.{up_to_reply}
use Rattle.core_machine.specs.declared.point.Access.TheVariants.{Naming}
use Rattle.core_machine.specs.declared.point.Collecting.{Collecting}
use Rattle.core_machine.specs.declared.point.Collecting.TheVariants.{Looking, Asking, Comparing, Noting}
use Rattle.core_machine.specs.declared.point.Point.{Point}
use Rattle.core_machine.specs.declared.point.Point.TheVariants as points
use Rattle.core_machine.specs.machine.Machine.{State, seat_at}
use Rattle.core_machine.specs.declared.seat.looks.Looks.{Looks}
use Rattle.heap_model.specs.declared.behind.Behind.{Behind}

-- the phase was this one at some time since the seat's last reply
pub record WasSeen (history : List Entry) (number p : ℕ) : Type 0 where
  pub since : phase (up_to_reply number history) ≤ p
  pub begun : p ≤ phase history

-- the seat that was found to be behind is another one of the heap, and was behind by one phase at some time since the last reply
pub record WasFound (heap : Heap) (history : List Entry) (number : ℕ) (found : Behind) : Type 0 where
  pub below : found.seat < heap.seats
  pub other : found.seat ≢ number
  pub next : found.phase ≡ found.answered + 1
  pub behind : WasBehind number found.seat found.answered found.phase history

-- what the seat has found out was so at some time since its last reply
pub record FoundSince (heap : Heap) (history : List Entry) (number : ℕ) (looks : Looks) : Type 0 where
  pub first : IfSome looks.first (WasSeen history number)
  pub behind : IfSome looks.behind (WasFound heap history number)

-- the number is that of another seat of the heap
pub record IsOther (heap : Heap) (number other : ℕ) : Type 0 where
  pub below : other < heap.seats
  pub apart : other ≢ number

-- the other seat has answered this phase since, or has left, or is behind by one phase as it was then
pub record HasCompared (heap : Heap) (history : List Entry) (number other p : ℕ) : Type 0 where
  pub asked : IsOther heap number other
  pub begun : p ≤ phase history
  pub behind : has_left other history ≡ false → last_answer other history < p
      → (p ≡ last_answer other history + 1) × WasBehind number other (last_answer other history) p history

-- what is known of the other seat at each point of an inner call
abbrev pub CollectingStands : Heap → List Entry → ℕ → Collecting → Type 0
CollectingStands heap history number Looking = Unit {0}
CollectingStands heap history number (Asking other) = IsOther heap number other
CollectingStands heap history number (Comparing other p) = HasCompared heap history number other p
CollectingStands heap history number (Noting reply) = Unit {0}

-- what holds at the points of an inner call
abbrev pub WhileCollecting : (Collecting → Type 0) → Point → Type 0
WhileCollecting P (points.Collecting point) = P point
WhileCollecting P _ = Unit {0}

-- what a seat has found out by its inner calls was so, and it knows what it is to know of the seat that it asks
pub record LooksStand (heap : Heap) (history : List Entry) (number : ℕ) (point : Point) (looks : Looks) : Type 0 where
  -- the phase that it loaded last has begun
  pub seen : looks.seen ≤ phase history
  -- while a get's name is awaited its reply stands in the history already, and it has yet to forget what it found before
  pub found : point ≢ points.Access Naming → FoundSince heap history number looks
  pub asks : WhileCollecting (CollectingStands heap history number) point
  -- another seat's word is compared with the phase that it loaded last
  pub compares : (other p : ℕ) → point ≡ points.Collecting (Comparing other p) → p ≡ looks.seen

-- what each seat has found out by its inner calls was so
abbrev pub AllLooksStand : Heap → State → List Entry → Type 0
AllLooksStand heap state history = (number : ℕ) → number < heap.seats → LooksStand heap history number (seat_at state number).point (seat_at state number).looks
