-- What a worker of a crew is given, and what it has done once the queue was empty.
use Rattle.std.specs.Prelude.{◌≡◌, ℕ, ◌+◌, ◌≤◌, List, [], ◌++◌, length, map, slice_get, slice_index, All, Option, Some, Result, IfOk}
use Rattle.std.specs.List.{concat, range_with_len, AllPairs}
use Rattle.atomic_table.specs.Seated.{TableId}
use Rattle.heap_model.specs.declared.fault.Memory.{Memory}
use Rattle.heap_model.specs.declared.heap.Heap.{Heap}
use Rattle.crossbeam_queue.specs.declared.array_queue.Doing.{Doing}
use Rattle.crossbeam_queue.specs.declared.array_queue.Slotted.{Slotted}
use Rattle.crossbeam_queue.specs.Passes.{view, IsPassOf}
use Rattle.heap_table.specs.SeatHeld.{SeatHeld}
use Rattle.heap_runs.specs.CollectCall.{IsPresent}
use Rattle.heap_runs.specs.SeatWork.{GoesOn, IsOfTable}
use Rattle.script_crew.specs.declared.job.Job.{Job}
use Rattle.script_crew.specs.declared.job.JobRun.{JobRun}
use Rattle.script_crew.specs.declared.position_rule.Tally.{Tally}
use Rattle.script_crew.specs.declared.gathering.Crew.{Crew}
use Rattle.script_crew.specs.declared.worker.Worker.{Worker}
use Rattle.script_crew.specs.declared.worker.Worked.{Worked}
use Rattle.script_crew.specs.Jobs.{positions_of, scripts_at, HasFewSets, HasUsed}
use Rattle.script_crew.specs.Positions.{tally}
use Rattle.script_crew.specs.Runs.{job_numbers, run_numbers, seat_numbers, EndsBefore, IsRunOn, IsRunAmong, AreWhole}
use Rattle.script_crew.specs.Portions.{ArePortionsOf, HaveMadeScripts}

-- the numbers of the jobs at these positions
abbrev pub numbers_at : List Job → List ℕ → List ℕ
numbers_at jobs positions = map (λ position. slice_index (job_numbers jobs) position) positions

-- the seat is one of the table, hasn't left, and has used no more numbers than runs of the jobs at these positions may
pub record IsAtWork (jobs : List Job) (table : TableId) (heap : Heap) (positions : List ℕ) (seat : SeatHeld) : Type 0 where
  pub of_table : IsOfTable table heap seat
  pub present : IsPresent seat
  pub used : HasUsed jobs positions seat

-- the pass has popped some positions, and the seat has run the jobs at these positions, one after the other in their order, and made no other command
pub record HasRun (jobs : List Job) (old new : Tally) (before after : SeatHeld) (runs : List JobRun) : Type 0 where
  pub positions : List ℕ
  pub popped : new ≡ tally old.shares old.pushed (old.popped ++ positions) old.known
  pub numbers : run_numbers runs ≡ numbers_at jobs positions
  pub goes_on : GoesOn 1 before after (scripts_at jobs positions)
  pub on_seat : All (IsRunOn jobs after) runs
  pub begin : All (λ run. length before.seat.mine ≤ run.from) runs
  pub in_turn : AllPairs EndsBefore runs

-- the pass was joined with those of the workers who took these seats, and the seats have run the jobs whose positions it has popped, each its portion of them, and made no other command
pub record HaveRun (jobs : List Job) (table : TableId) (heap : Heap) (olds : List SeatHeld) (old new : Tally) (crew : Crew) : Type 0 where
  pub portions : List (List ℕ)
  pub popped : new ≡ tally (old.shares + length olds) old.pushed (concat portions) old.known
  pub made : HaveMadeScripts jobs olds portions crew.seats.items
  pub numbers : run_numbers crew.runs.items ≡ numbers_at jobs (concat portions)
  pub count : length crew.seats.items ≡ length olds
  pub numbered : seat_numbers crew.seats.items ≡ range_with_len 0 (length olds)
  pub at_work : All (IsAtWork jobs table heap (concat portions)) crew.seats.items
  pub each : All (IsRunAmong jobs crew.seats.items) crew.runs.items
  pub in_turn : AllPairs EndsBefore crew.runs.items

-- each job has one run, whole; each seat has made the scripts of its portion of the jobs' positions and no other command, and each position is in one portion; and each seat, as they stand in the order of
-- their numbers, is one of the table, hasn't left, and has done fewer sets than it has stamps
pub record HasRunAll (jobs : List Job) (table : TableId) (heap : Heap) (olds : List SeatHeld) (crew : Crew) : Type 0 where
  pub whole : AreWhole jobs crew.seats.items crew.runs.items
  pub portions : List (List ℕ)
  pub made : HaveMadeScripts jobs olds portions crew.seats.items
  pub each_once : ArePortionsOf jobs portions
  pub numbered : seat_numbers crew.seats.items ≡ range_with_len 0 (length olds)
  pub of_table : All (IsOfTable table heap) crew.seats.items
  pub present : All IsPresent crew.seats.items
  pub few : All HasFewSets crew.seats.items

module _ {Q A : Type 0} where
  -- the worker's pass is one of the queue, has one share, and has popped nothing
  pub record HasFreshPass (queue : Slotted (Option ℕ) (Doing ℕ Tally) Q A) (known : List ℕ) (worker : Worker) : Type 0 where
    pub of_queue : IsPassOf queue worker.pass
    pub untouched : view worker.pass ≡ tally 1 [] [] known

  -- so it is, and the worker's seat is one of the table, and fresh
  pub record IsFresh (queue : Slotted (Option ℕ) (Doing ℕ Tally) Q A) (jobs : List Job) (table : TableId) (heap : Heap) (worker : Worker) : Type 0 where
    pub pass : HasFreshPass queue (positions_of jobs) worker
    pub at_work : IsAtWork jobs table heap [] worker.seat

  -- the seat, which was fresh, has run the jobs whose positions the worker's pass has popped
  pub record HasWorked (queue : Slotted (Option ℕ) (Doing ℕ Tally) Q A) (jobs : List Job) (table : TableId) (heap : Heap) (old : SeatHeld) (worked : Worked) : Type 0 where
    pub of_queue : IsPassOf queue worked.worker.pass
    pub at_work : IsAtWork jobs table heap [] old
    pub ran : HasRun jobs (tally 1 [] [] (positions_of jobs)) (view worked.worker.pass) old worked.worker.seat worked.runs.items

  -- each worker that came to its end has worked on its seat, and they stand in the same order
  abbrev pub HaveWorked : Slotted (Option ℕ) (Doing ℕ Tally) Q A → List Job → TableId → Heap → List SeatHeld → List (Result Worked Memory) → Type 0
  HaveWorked queue jobs table heap olds ends =
      (position : ℕ) (old : SeatHeld) (end : Result Worked Memory) → slice_get olds position ≡ Some old → slice_get ends position ≡ Some end → IfOk end (HasWorked queue jobs table heap old)

  -- there is a worker for each of the seats, which stand in the order of their numbers, and each that came to its end has worked
  pub record HaveEnded (queue : Slotted (Option ℕ) (Doing ℕ Tally) Q A) (jobs : List Job) (table : TableId) (heap : Heap) (olds : List SeatHeld) (ends : List (Result Worked Memory)) : Type 0 where
    pub numbered : seat_numbers olds ≡ range_with_len 0 (length olds)
    pub each_once : length ends ≡ length olds
    pub worked : HaveWorked queue jobs table heap olds ends

  -- they are workers of some seats
  abbrev pub HaveEndedOnSome : Slotted (Option ℕ) (Doing ℕ Tally) Q A → List Job → TableId → Heap → List (Result Worked Memory) → Type 0
  HaveEndedOnSome queue jobs table heap ends = (olds : List SeatHeld) × HaveEnded queue jobs table heap olds ends
