-- Where a run of a job stands in the log of its seat, and when the runs of a crew are whole.
use Rattle.std.specs.Prelude.{◌≡◌, ◌≢◌, ℕ, ◌+◌, ◌≤◌, ◌⊎◌, List, ◌∷◌, [], ◌++◌, length, map, All, Contains}
use Rattle.std.specs.List.{flat_map, range_with_len}
use Rattle.heap_model.specs.declared.command.Command.{Command}
use Rattle.heap_model.specs.declared.command.Command.TheVariants.{Nil, Poll}
use Rattle.heap_model.specs.declared.entry.Entry.{Entry}
use Rattle.heap_model.specs.runs.Told.{commands_told}
use Rattle.heap_table.specs.SeatHeld.{SeatHeld}
use Rattle.script_crew.specs.declared.job.Job.{Job}
use Rattle.script_crew.specs.declared.job.JobRun.{JobRun}

-- the numbers of the jobs
abbrev pub job_numbers : List Job → List ℕ
job_numbers jobs = map (λ job. job.number) jobs

-- the numbers of the jobs that were run
abbrev pub run_numbers : List JobRun → List ℕ
run_numbers runs = map (λ run. run.job) runs

-- the numbers of the seats
abbrev pub seat_numbers : List SeatHeld → List ℕ
seat_numbers seats = map (λ seat. seat.number) seats

-- each register but the board's is set to nil
abbrev pub clears : List Command
clears = map Nil (range_with_len 1 15)

-- each of these commands, with a poll behind it
abbrev pub with_polls : List Command → List Command
with_polls commands = flat_map (λ command. command ∷ Poll ∷ []) commands

-- from one position up to another the log has the seat's answers to these commands, each followed by one to a poll, and right before them those to the commands that cleared its registers
pub record TellsFromTo (number : ℕ) (log : List Entry) (commands : List Command) (from to : ℕ) : Type 0 where
  pub earlier : List Entry
  pub clearing : List Entry
  pub told : List Entry
  pub later : List Entry
  pub log_is : log ≡ (earlier ++ clearing) ++ (told ++ later)
  pub from_is : length (earlier ++ clearing) ≡ from
  pub to_is : from + length told ≡ to
  pub cleared : commands_told number clearing ≡ clears
  pub answered : commands_told number told ≡ with_polls commands

-- the run is one of the job on the seat
pub record IsRunOf (job : Job) (seat : SeatHeld) (run : JobRun) : Type 0 where
  pub job_is : run.job ≡ job.number
  pub seat_is : run.seat ≡ seat.number
  pub told : TellsFromTo seat.number seat.seat.mine job.commands.items run.from run.to

-- the run is one of some job of these on the seat
pub record IsRunOn (jobs : List Job) (seat : SeatHeld) (run : JobRun) : Type 0 where
  pub job : Job
  pub of_jobs : Contains jobs job
  pub of_job : IsRunOf job seat run

-- the run is one of some job of these on some seat of these
pub record IsRunAmong (jobs : List Job) (seats : List SeatHeld) (run : JobRun) : Type 0 where
  pub seat : SeatHeld
  pub of_seats : Contains seats seat
  pub on_seat : IsRunOn jobs seat run

-- where both are on one seat, the first has ended before the other begins
abbrev pub EndsBefore : JobRun → JobRun → Type 0
EndsBefore first other = first.seat ≡ other.seat → first.to ≤ other.from

-- no two of them overlap: where both are on one seat, one of them has ended before the other begins
abbrev pub AreApart : List JobRun → Type 0
AreApart runs = (one other : JobRun) → Contains runs one → Contains runs other → one.job ≢ other.job → EndsBefore one other ⊎ EndsBefore other one

-- each job has one run, these stand in the order of the jobs, and no two of them overlap
pub record AreWhole (jobs : List Job) (seats : List SeatHeld) (runs : List JobRun) : Type 0 where
  pub once : run_numbers runs ≡ job_numbers jobs
  pub each : All (IsRunAmong jobs seats) runs
  pub apart : AreApart runs
