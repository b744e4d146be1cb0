-- What the account keeps of a history, and what that has to do with it.
use Rattle.std.specs.Prelude.{◌≡◌, ℕ, ◌/◌, ◌<◌, ◌≤◌, ◌^◌, ◌↔◌, false, List, length, Contains, Option, Some, is_some}
use Rattle.heap_model.specs.PhasePlan.{cycle_phases}
use Rattle.heap_model.specs.declared.heap.Heap.{Heap}
use Rattle.heap_model.specs.declared.id.Id.{Id}
use Rattle.heap_model.specs.declared.entry.Entry.{Entry}
use Rattle.heap_model.specs.declared.account.effect.Effect.{Effect}
use Rattle.heap_model.specs.declared.account.seat.SeatAccount.{SeatAccount}
use Rattle.heap_model.specs.declared.account.cycle.Cycle.{Cycle}
use Rattle.heap_model.specs.Heap.{IsHeap}
use Rattle.heap_model.specs.graph.Objects.{made_counts}
use Rattle.heap_model.specs.graph.Reach.{AreReached}
use Rattle.heap_model.specs.graph.Sizes.{fragments_of_all, spine_words_of_all}
use Rattle.heap_model.specs.account.Space.{words_granted, total}
use Rattle.heap_model.specs.account.Sums.{IsFew, IsMeasured}
use Rattle.heap_model.specs.account.Windows.{up_to_cycle}
use Rattle.heap_model.specs.account.PhaseCounts.{HasEnded, JustEnded}
use Rattle.heap_model.specs.account.Cycles.{graph_of, all_bring}
use Rattle.heap_model.specs.account.Sweep.{HasSwung}
use Rattle.heap_model.specs.account.SeatBooks.{account_at, TellsSeat}

-- what an account keeps
pub record Books : Type 0 where
  pub heap : Heap
  -- how many entries it has counted
  pub entries : ℕ
  -- what they come to
  pub all : Effect
  -- what is kept of each seat
  pub seats : List SeatAccount
  -- what is kept of the last cycle that began
  pub cycle : Cycle
  -- the arrays that have swung in this phase
  pub swung : List Id
  -- the cycle that the last entry ended
  pub ended : Option ℕ
  -- how many objects each seat made
  pub made : List ℕ

-- the seat has left or answered the phase
abbrev pub IsUpToDate : Books → ℕ → Type 0
IsUpToDate books number = is_some (account_at books.seats number).left ≡ false → (account_at books.seats number).own.answers ≡ books.all.phases

-- each sum that is kept of a cycle is below 2^100
pub record CycleFits (cycle : Cycle) : Type 0 where
  pub frags : cycle.frags < 2 ^ 100
  pub words : cycle.words < 2 ^ 100
  pub brought : cycle.brought < 2 ^ 100

-- the heap is within its limits, and so few entries were counted that the sums fit
pub record AreBooks (heap : Heap) (entries : ℕ) (all : Effect) (seats : List SeatAccount) (cycle : Cycle) : Type 0 where
  pub heap_fits : IsHeap heap
  pub entries_fit : entries ≤ 2 ^ 32
  pub all_fits : IsFew entries all
  pub seats_fit : (number : ℕ) → IsFew entries (account_at seats number).own
  pub cycle_fits : CycleFits cycle

-- what is kept of the last cycle is what the history says of it
pub record TellsCycle (heap : Heap) (cycle : Cycle) (history : List Entry) : Type 0 where
  pub reached : AreReached (graph_of heap (up_to_cycle history)) cycle.reached.items
  pub frags : cycle.frags ≡ fragments_of_all (graph_of heap (up_to_cycle history)) cycle.reached.items
  pub words : cycle.words ≡ spine_words_of_all (graph_of heap (up_to_cycle history)) cycle.reached.items
  pub brought : cycle.brought ≡ all_bring heap (up_to_cycle history)
  pub taken : cycle.taken_then ≡ total (λ e. e.taken) (up_to_cycle history)
  pub granted : cycle.words_then ≡ words_granted (up_to_cycle history)

-- what the account keeps is what the history says
pub record Tells (books : Books) (history : List Entry) : Type 0 where
  pub entries : books.entries ≡ length history
  pub all : IsMeasured books.all (λ summand. total summand history)
  pub seats : (number : ℕ) → number < books.heap.seats → TellsSeat books.heap books.all books.seats number (account_at books.seats number) history
  pub ended : (cycle : ℕ) → HasEnded cycle history ↔ (cycle < books.all.phases / cycle_phases)
  pub just_ended : (cycle : ℕ) → JustEnded cycle history ↔ (books.ended ≡ Some cycle)
  pub swung : (id : Id) → HasSwung id history ↔ Contains books.swung id
  pub cycle : 1 ≤ books.all.phases → TellsCycle books.heap books.cycle history
  pub made : books.made ≡ made_counts (graph_of books.heap history)
