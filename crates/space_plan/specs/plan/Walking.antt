-- What is kept of the entries that were gone over.
use Rattle.std.specs.Prelude.{◌≡◌, ℕ, ◌+◌, ◌*◌, ◌≤◌, ◌^◌, List}
use Rattle.std.specs.List.{AllZip}
use Rattle.heap_model.specs.declared.entry.Entry.{Entry}
use Rattle.heap_model.specs.declared.heap.Heap.{Heap}
use Rattle.heap_model.specs.account.Books.{Tells}
use Rattle.heap_model.specs.account.Cycles.{graph_of}
use Rattle.heap_model.specs.account.Space.{fragments_gained, fragments_lost}
use Rattle.heap_model.specs.account.Windows.{up_to_cycle}
use Rattle.space_plan.specs.declared.planning.ledger.Ledger.{Ledger}
use Rattle.space_plan.specs.declared.planning.begun.BegunCycle.{BegunCycle}
use Rattle.space_plan.specs.declared.planning.ended.EndedCycles.{EndedCycles}
use Rattle.space_plan.specs.declared.planning.walk.Walk.{Walk}
use Rattle.heap_model.specs.graph.Sizes.{HasReach}
use Rattle.space_plan.specs.plan.Cycles.{IsCyclePlan, cycle_takes}
use Rattle.space_plan.specs.plan.Moments.{Moment, ends_of}
use Rattle.space_plan.specs.plan.Seats.{SeatsFit, SeatsTell, unborn_at_replies}
use Rattle.space_plan.specs.plan.Takes.{IsTakenAtAny, taken_since_end}
use Rattle.space_plan.specs.plan.Totals.{IsGreatest, IsReached}

-- the counts are what the history says
pub record LedgerTells (heap : Heap) (ledger : Ledger) (history : List Entry) : Type 0 where
  pub gained : ledger.gained ≡ fragments_gained heap history
  pub lost : ledger.lost ≡ fragments_lost history
  pub section : ledger.section ≡ taken_since_end history
  pub seats : SeatsTell heap ledger.seats history

-- the counts are small enough for so many entries
pub record LedgerFits (entries : ℕ) (ledger : Ledger) : Type 0 where
  pub gained : ledger.gained ≤ 2 ^ 32 * (entries + 1)
  pub lost : ledger.lost ≤ 2 ^ 33 * entries
  pub section : ledger.section ≤ 2 ^ 32 * entries
  pub seats : SeatsFit entries ledger.seats

-- what is kept of the cycle that began last is what the history says; before the first one the opening stands for a begin
pub record BegunTells (heap : Heap) (begun : BegunCycle) (history : List Entry) : Type 0 where
  pub reach : HasReach (graph_of heap (up_to_cycle history)) begun.reach
  pub reserves : begun.reserves ≡ unborn_at_replies heap (up_to_cycle history)
  pub since : begun.since ≡ cycle_takes heap history
  pub most_reach : IsGreatest (IsReached heap history) begun.most_reach

-- its numbers are small enough for so many entries
pub record BegunFits (entries : ℕ) (begun : BegunCycle) : Type 0 where
  pub reach : begun.reach ≤ 2 ^ 32 * (entries + 1)
  pub reserves : begun.reserves ≤ 2 ^ 36 * entries
  pub since : begun.since ≤ 2 ^ 36 * entries
  pub most_reach : begun.most_reach ≤ 2 ^ 32 * (entries + 1)

-- what is kept of the cycles that ended at these moments is what the history says
pub record EndedTells (heap : Heap) (ended : EndedCycles) (ends : List Moment) : Type 0 where
  pub most_taken : IsGreatest (IsTakenAtAny heap ends) ended.most_taken
  pub cycles : AllZip (IsCyclePlan heap) ends ended.cycles.items

-- the walk has gone over this history
pub record Passed (walk : Walk) (history : List Entry) : Type 0 where
  pub graph : walk.graph ≡ graph_of walk.ledger.heap history
  pub account : Tells walk.account history
  pub ledger : LedgerTells walk.ledger.heap walk.ledger history
  pub begun : BegunTells walk.ledger.heap walk.begun history
  pub ended : EndedTells walk.ledger.heap walk.ended (ends_of history)

-- its account and its ledger are of one heap, and its numbers small enough for so many entries
pub record WalkFits (entries : ℕ) (walk : Walk) : Type 0 where
  pub of_heap : walk.account.heap ≡ walk.ledger.heap
  pub counted : walk.account.entries ≤ entries
  pub ledger : LedgerFits entries walk.ledger
  pub begun : BegunFits entries walk.begun
  pub most_taken : walk.ended.most_taken ≤ 2 ^ 36 * entries
