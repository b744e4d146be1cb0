-- What a crew is given, and what it has come to once its table is closed.
use Rattle.std.specs.Prelude.{◌≡◌, ℕ, List, All}
use Rattle.std.specs.List.{range_with_len}
use Rattle.atomic_table.specs.Seated.{TableId}
use Rattle.heap_model.specs.declared.heap.Heap.{Heap}
use Rattle.log_merge.specs.FewSets.{HaveFewSets}
use Rattle.heap_table.specs.SeatHeld.{SeatHeld}
use Rattle.collector_turns.specs.Collector.{CollectorValue}
use Rattle.heap_runs.specs.CollectCall.{IsPresent}
use Rattle.heap_runs.specs.Finishing.{HasLogs, EndsUnused}
use Rattle.heap_runs.specs.SeatWork.{IsOfTable, objects_of, sets_of}
use Rattle.script_crew.specs.declared.crew.CrewRan.{CrewRan}
use Rattle.script_crew.specs.declared.job.Job.{Job}
use Rattle.script_crew.specs.Runs.{seat_numbers, AreWhole}
use Rattle.script_crew.specs.Portions.{ArePortionsOf, HaveMadeScriptsAndLeft}

-- the seat is one of the table, hasn't left, and has made no object and done no set
pub record IsFreshSeat (table : TableId) (heap : Heap) (seat : SeatHeld) : Type 0 where
  pub of_table : IsOfTable table heap seat
  pub present : IsPresent seat
  pub no_objects : objects_of seat ≡ 0
  pub no_sets : sets_of seat ≡ 0

-- these are all seats of the collector's table, in the order of their numbers, and each is fresh
pub record IsCrew (seats : List SeatHeld) (collector : CollectorValue) : Type 0 where
  pub numbered : seat_numbers seats ≡ range_with_len 0 collector.holder.heap.seats
  pub fresh : All (IsFreshSeat collector.holder.table collector.holder.heap) seats

-- the runs of the jobs are whole on the seats; since these were handed in each has made the scripts of its portion of the jobs' positions, joined, then a leave, and no other command; all portions together are the
-- positions, each once; the logs of the closed table are those of the seats, in the order of their numbers, and that of the collector, which has gone on, and each has few sets; one legal history has exactly
-- these logs, the words stand for it, and at its end nothing is in use
pub record IsCrewRan (jobs : List Job) (olds : List SeatHeld) (collector : CollectorValue) (ran : CrewRan) : Type 0 where
  pub of_heap : ran.closed.heap ≡ collector.holder.heap
  pub seats : List SeatHeld
  pub numbered : seat_numbers seats ≡ range_with_len 0 collector.holder.heap.seats
  pub whole : AreWhole jobs seats ran.runs.items
  pub portions : List (List ℕ)
  pub made : HaveMadeScriptsAndLeft jobs olds portions seats
  pub each_once : ArePortionsOf jobs portions
  pub logs : HasLogs seats collector.holder.known.collector.log ran.closed
  pub few : HaveFewSets ran.closed.logs
  pub unused : EndsUnused ran.closed
