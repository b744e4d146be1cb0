-- What the account keeps of a seat, and what that has to do with the history.
use Rattle.std.specs.Prelude.{◌≡◌, ℕ, ◌+◌, ◌%◌, ◌<◌, ◌≤◌, ◌↔◌, ◌≢◌, false, if◌then◌else◌, List, [], slice_index_or, Contains, None, is_some, unwrap_or}
use Rattle.heap_model.specs.PhasePlan.{cycle_phases, rest}
use Rattle.heap_model.specs.declared.heap.Heap.{Heap}
use Rattle.heap_model.specs.declared.entry.Entry.{Entry}
use Rattle.heap_model.specs.declared.entry.Entry.TheVariants as entries
use Rattle.heap_model.specs.declared.account.effect.Effect.{Effect}
use Rattle.heap_model.specs.declared.account.seat.SeatAccount.{SeatAccount}
use Rattle.heap_model.specs.account.Space.{total, total_of, total_but}
use Rattle.heap_model.specs.account.Effects.{no_effect}
use Rattle.heap_model.specs.account.Sums.{IsMeasured}
use Rattle.heap_model.specs.account.Windows.{up_to_reply, since_reply}
use Rattle.heap_model.specs.account.Phases.{WasBehind}
use Rattle.heap_model.specs.account.PhaseCounts.{has_left}

-- what stands for a seat that isn't there
abbrev pub no_seat : SeatAccount
no_seat = record { own = no_effect; own_then = no_effect; all_then = no_effect; behind_then = []; left = None }

-- what is kept of the seat of this number
abbrev pub account_at : List SeatAccount → ℕ → SeatAccount
account_at seats number = slice_index_or seats number no_seat

-- the first phase since the seat's last reply in which the other was behind: the phase then, if it was behind, or else the next
abbrev pub first_behind : SeatAccount → ℕ → ℕ
first_behind seat other = seat.all_then.phases + (if slice_index_or seat.behind_then other false then 0 else 1)

-- the phase in which the seat left; the phase now where it has not
abbrev pub last_phase : SeatAccount → ℕ → ℕ
last_phase seat now = unwrap_or seat.left now

-- the phase is one of those from the first to the last
abbrev pub IsFrom : ℕ → ℕ → ℕ → Type 0
IsFrom first last p = (first ≤ p) × (p ≤ last)

-- what all or others did since the seat's last reply is the difference of what is kept now and what was then
pub record TellsSince (all : Effect) (number : ℕ) (seat : SeatAccount) (history : List Entry) : Type 0 where
  pub freed : total (λ e. e.freed) (since_reply number history) + seat.all_then.freed ≡ all.freed
  pub returned : total (λ e. e.returned) (since_reply number history) + seat.all_then.returned ≡ all.returned
  pub given : total_but number (λ e. e.given) (since_reply number history) + seat.own.given + seat.all_then.given ≡ all.given + seat.own_then.given
  pub taken : total_but number (λ e. e.taken) (since_reply number history) + seat.own.taken + seat.all_then.taken ≡ all.taken + seat.own_then.taken
  pub words : total_but number (λ e. e.words) (since_reply number history) + seat.own.words + seat.all_then.words ≡ all.words + seat.own_then.words

-- what is kept of the seat is what the history says of it
pub record TellsSeat (heap : Heap) (all : Effect) (seats : List SeatAccount) (number : ℕ) (seat : SeatAccount) (history : List Entry) : Type 0 where
  pub own : IsMeasured seat.own (λ summand. total_of number summand history)
  pub own_then : IsMeasured seat.own_then (λ summand. total_of number summand (up_to_reply number history))
  pub all_then : IsMeasured seat.all_then (λ summand. total summand (up_to_reply number history))
  pub since : TellsSince all number seat history
  pub left : is_some seat.left ≡ has_left number history
  pub solvent : seat.own_then.given + seat.own_then.born ≤ seat.own_then.taken
  pub richer : seat.own_then.taken ≤ seat.own.taken
  pub earlier : seat.all_then.phases ≤ all.phases
  -- a seat that has not left is behind by one phase at most
  pub kept_up : is_some seat.left ≡ false → all.phases ≤ seat.own.answers + 1
  pub gone : last_phase seat all.phases ≤ all.phases
  -- the phases that began since its last reply, but for those that the end of a cycle began
  pub began : (p : ℕ) → Contains (since_reply number history) (entries.Advance p) ↔ (seat.all_then.phases < p) × (p ≤ all.phases) × (p % cycle_phases ≢ rest)
  pub behind : (other answer : ℕ) → other < heap.seats → other ≢ number
      → WasBehind number other answer (answer + 1) history ↔ IsFrom (first_behind seat other) (last_phase (account_at seats other) all.phases) (answer + 1)
