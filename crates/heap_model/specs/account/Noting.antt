-- What the account keeps once an entry is counted.
use Rattle.std.specs.Prelude.{◌≡◌, ℕ, ◌+◌, ◌<◌, Bool, false, if◌then◌else◌, nat_lt, List, [], slice_index_or, Option, Some, None, is_none, is_some, IfSome}
use Rattle.heap_model.specs.declared.entry.Entry.{Entry}
use Rattle.heap_model.specs.declared.entry.Entry.TheVariants as entries
use Rattle.heap_model.specs.declared.heap.Heap.{Heap}
use Rattle.heap_model.specs.declared.account.effect.Effect.{Effect}
use Rattle.heap_model.specs.declared.account.seat.SeatAccount.{SeatAccount}
use Rattle.heap_model.specs.account.Effects.{effect_of, is_of}
use Rattle.heap_model.specs.account.Sums.{plus}
use Rattle.heap_model.specs.account.Windows.{is_reply_to, begins_phase}
use Rattle.heap_model.specs.account.PhaseCounts.{is_leave_of}
use Rattle.heap_model.specs.account.Books.{Books}
use Rattle.heap_model.specs.account.SeatBooks.{account_at, last_phase}

-- the seat of the entry, where it has one
abbrev pub seat_of : Entry → Option ℕ
seat_of (entries.Said number command reply) = Some number
seat_of (entries.Takes number count) = Some number
seat_of (entries.GivesBack number count) = Some number
seat_of (entries.Answers number phase) = Some number
seat_of _ = None

-- the entry is no seat's, but the collector's
abbrev pub is_collectors : Entry → Bool
is_collectors entry = is_none (seat_of entry)

-- the seat of the entry, where it has one, is one of these
abbrev pub IsSeatBelow : ℕ → Entry → Type 0
IsSeatBelow seats entry = IfSome (seat_of entry) (λ number. number < seats)

-- the seat has not left, and has yet to answer the phase
abbrev pub is_behind_now : Effect → List SeatAccount → ℕ → Bool
is_behind_now all seats number = if is_some (account_at seats number).left then false else nat_lt (account_at seats number).own.answers all.phases

-- what is kept of a seat once the entry is counted
pub record IsNotedSeat (heap : Heap) (all : Effect) (seats : List SeatAccount) (number : ℕ) (entry : Entry) (old new : SeatAccount) : Type 0 where
  -- what its own entries come to
  pub own : new.own ≡ (if is_of number entry then plus old.own (effect_of entry) else old.own)
  -- what they came to at its last reply
  pub own_then : new.own_then ≡ (if is_reply_to number entry then new.own else old.own_then)
  -- what all entries came to then
  pub all_then : new.all_then ≡ (if is_reply_to number entry then plus all (effect_of entry) else old.all_then)
  -- which seats were behind then
  pub behind_then : (other : ℕ) → other < heap.seats
      → slice_index_or new.behind_then other false ≡ (if is_reply_to number entry then is_behind_now all seats other else slice_index_or old.behind_then other false)
  -- the phase in which it left
  pub left : new.left ≡ (if is_leave_of number entry then Some (last_phase old all.phases) else old.left)

-- the cycle that the entry ends
abbrev pub ended_by : Entry → Option ℕ
ended_by (entries.Ends cycle kept) = Some cycle
ended_by _ = None

-- what the account keeps once the entry is counted, but for what swung, the cycle and the objects made
pub record IsCounted (old : Books) (entry : Entry) (new : Books) : Type 0 where
  pub heap : new.heap ≡ old.heap
  pub entries : new.entries ≡ old.entries + 1
  pub all : new.all ≡ plus old.all (effect_of entry)
  pub seats : (number : ℕ) → number < old.heap.seats → IsNotedSeat old.heap old.all old.seats number entry (account_at old.seats number) (account_at new.seats number)
  pub ended : new.ended ≡ ended_by entry

-- what the account keeps once an entry that was prepared for is counted
pub record IsNoted (old : Books) (entry : Entry) (new : Books) : Type 0 where
  pub counted : IsCounted old entry new
  pub swung : new.swung ≡ (if begins_phase entry then [] else old.swung)
  pub cycle : new.cycle ≡ old.cycle
  pub made : new.made ≡ old.made
