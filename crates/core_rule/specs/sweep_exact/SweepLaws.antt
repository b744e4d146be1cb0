-- The laws of what a cycle leaves.
use Rattle.std.specs.Prelude.{◌≡◌, ℕ, ◌/◌, ◌<◌, ◌≤◌, Bool, true, List, [], ◌∷◌, ◌++◌, length, All}
use Rattle.heap_model.specs.declared.entry.Entry.{Entry}
use Rattle.heap_model.specs.declared.entry.Entry.TheVariants.{Ends}
use Rattle.heap_model.specs.declared.heap.Heap.{Heap}
use Rattle.heap_model.specs.declared.id.Id.{Id}
use Rattle.heap_model.specs.Heap.{IsHeap}
use Rattle.heap_model.specs.Limits.{group_fragments, most_reserve}
use Rattle.heap_model.specs.graph.Reach.{IsReach}
use Rattle.heap_model.specs.account.Account.{IsLegal}
use Rattle.heap_model.specs.account.Cycles.{graph_of, IsReachOfBoth, EndsCycle}
use Rattle.heap_model.specs.account.PhaseCounts.{has_left}
use Rattle.heap_model.specs.account.Space.{fragments_gained, fragments_lost, fragments_unborn, fragments_used, words_granted, words_returned, words_used}
use Rattle.heap_model.specs.account.Windows.{up_to_cycle, up_to_reply}
use Rattle.core_machine.specs.machine.Machine.{State, seat_at, Event, Run, history}
use Rattle.core_machine.specs.machine.Opening.{IsOpening}
use Rattle.core_rule.specs.Book.{Book}
use Rattle.core_rule.specs.Rule.{Rule}

-- wherever a run's history ends a cycle, all have answered its last phase, and it leaves no more and keeps no less than it may
abbrev pub EachEndLeavesLittle : Type 0
EachEndLeavesLittle = (heap : Heap) (state : State) (events : List Event) (before rest : List Entry) (cycle kept : ℕ) → IsHeap heap → IsOpening heap state → Run heap state events
    → history heap state events ≡ before ++ Ends cycle kept ∷ rest → EndsCycle heap before (Ends cycle kept)

-- a cycle that began after every seat had left leaves no fragment and no spine word in use
abbrev pub EachLastCycleEmpties : Type 0
EachLastCycleEmpties = (heap : Heap) (play : Bool) (before : List Entry) (cycle kept : ℕ) → IsLegal heap play (before ++ Ends cycle kept ∷ [])
    → ((number : ℕ) → number < heap.seats → has_left number (up_to_cycle before) ≡ true)
    → (fragments_used heap (before ++ Ends cycle kept ∷ []) ≡ 0) × (words_used (before ++ Ends cycle kept ∷ []) ≡ 0)

-- there are the lists by which a cycle is judged: what was reached when it began, and what is reached both then and now
pub record HasReachLists (heap : Heap) (history : List Entry) : Type 0 where
  pub begun : List Id
  pub begun_is : IsReach (graph_of heap (up_to_cycle history)) begun
  pub both : List Id
  pub both_is : IsReachOfBoth (graph_of heap (up_to_cycle history)) (graph_of heap history) both

-- every history has them, so what is said of all such lists is said of some
abbrev pub EachReachIsListed : Type 0
EachReachIsListed = (heap : Heap) (history : List Entry) → HasReachLists heap history

-- by the rule a cycle that began after every seat had left has freed all that was ever gained, and returned all spine words that were granted
abbrev pub EachLastCycleBalances : Type 0
EachLastCycleBalances = (heap : Heap) (state : State) (book : Book) (before : List Entry) (cycle kept : ℕ) → Rule heap state book → book.history ≡ before ++ Ends cycle kept ∷ []
    → ((number : ℕ) → number < heap.seats → has_left number (up_to_cycle before) ≡ true)
    → (fragments_gained heap book.history ≡ fragments_lost book.history) × (words_granted book.history ≡ words_returned book.history)

-- a seat's reserve is small, and of one group, and a seat that has left has none
pub record HasSmallReserve (heap : Heap) (state : State) (book : Book) (number : ℕ) : Type 0 where
  pub small : length (seat_at state number).reserve ≤ most_reserve
  pub of_cursor : All (λ fragment. fragment / group_fragments ≡ (seat_at state number).cursor) (seat_at state number).reserve
  pub gone : has_left number book.history ≡ true → (seat_at state number).reserve ≡ []

-- by the rule that is so of each seat
abbrev pub EachReserveIsSmall : Type 0
EachReserveIsSmall = (heap : Heap) (state : State) (book : Book) (number : ℕ) → Rule heap state book → number < heap.seats → HasSmallReserve heap state book number

-- what a seat had at its last reply and had made into no object is at most a reserve, and nothing where it has left
pub record BringsLittle (history : List Entry) (number : ℕ) : Type 0 where
  pub small : fragments_unborn number (up_to_reply number history) ≤ most_reserve
  pub gone : has_left number history ≡ true → fragments_unborn number (up_to_reply number history) ≡ 0

-- in each legal history that is so of each seat
abbrev pub EachSeatBringsLittle : Type 0
EachSeatBringsLittle = (heap : Heap) (play : Bool) (history : List Entry) (number : ℕ) → IsLegal heap play history → BringsLittle history number
