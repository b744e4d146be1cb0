-- Which jobs a crew is given, and how many calls they come to.
use Rattle.std.specs.Prelude.{◌≢◌, ℕ, ◌<◌, ◌≤◌, List, [], ◌++◌, length, map, slice_index_or, sum_by, All}
use Rattle.std.specs.List.{flat_map, range_with_len}
use Rattle.std.specs.List.Sorted.{IsStrictlyIncreasing}
use Rattle.heap_model.specs.Limits.{stamp_limit}
use Rattle.heap_model.specs.declared.command.Command.{Command}
use Rattle.heap_model.specs.declared.command.Command.TheVariants.{Collect}
use Rattle.heap_runs.specs.SeatWork.{IsOfScript, objects_of, sets_of}
use Rattle.heap_table.specs.SeatHeld.{SeatHeld}
use Rattle.script_crew.specs.declared.job.Job.{Job}
use Rattle.script_crew.specs.Runs.{clears, job_numbers, with_polls}

-- the command is one of a job: its numbers are in their ranges, and it is no collect and no leave
abbrev pub IsOfJob : Command → Type 0
IsOfJob command = IsOfScript command × (command ≢ Collect)

-- each command of the job is one of a job
abbrev pub IsJob : Job → Type 0
IsJob job = All IsOfJob job.commands.items

-- how many commands the jobs have in all
abbrev pub command_count : List Job → ℕ
command_count jobs = sum_by (λ job. length job.commands.items) jobs

-- there are not more jobs and commands than a crew takes, each command is one of a job, and the numbers rise
pub record AreJobs (jobs : List Job) : Type 0 where
  pub count : length jobs ≤ 4096
  pub commands : command_count jobs ≤ 1048576
  pub each : All IsJob jobs
  pub rising : IsStrictlyIncreasing (job_numbers jobs)

-- what a seat is called for where it runs the job
abbrev pub script_of_run : Job → List Command
script_of_run job = clears ++ with_polls job.commands.items

-- the positions of the jobs
abbrev pub positions_of : List Job → List ℕ
positions_of jobs = range_with_len 0 (length jobs)

-- what a seat is called for where it runs the job at this position
abbrev pub script_at : List Job → ℕ → List Command
script_at jobs position = slice_index_or (map script_of_run jobs) position []

-- what a seat is called for where it runs the jobs at these positions, one behind the other
abbrev pub scripts_at : List Job → List ℕ → List Command
scripts_at jobs positions = flat_map (script_at jobs) positions

-- how many calls a run of the job at this position makes
abbrev pub calls_at : List Job → ℕ → ℕ
calls_at jobs position = length (script_at jobs position)

-- the seat has done fewer sets than it has stamps
abbrev pub HasFewSets : SeatHeld → Type 0
HasFewSets seat = sets_of seat < stamp_limit

-- the seat has made at most as many objects, and done at most as many sets, as runs of the jobs at these positions make calls
pub record HasUsed (jobs : List Job) (positions : List ℕ) (seat : SeatHeld) : Type 0 where
  pub objects : objects_of seat ≤ sum_by (calls_at jobs) positions
  pub sets : sets_of seat ≤ sum_by (calls_at jobs) positions
