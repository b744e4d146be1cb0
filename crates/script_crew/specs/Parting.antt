-- The jobs that the lines of a crew's text tell.
use Rattle.std.specs.Prelude.{◌≡◌, ℕ, ◌<◌, ◌==◌, Bool, List, [], ◌∷◌, ◌++◌, filter, length, map, nat_lt, slice_index_or, slice_set}
use Rattle.std.specs.List.{range_with_len}
use Rattle.heap_model.specs.declared.command.Command.{Command}
use Rattle.script_crew.specs.declared.job.Job.{Job}
use Rattle.script_crew.specs.declared.job_line.JobLine.{JobLine}
use Rattle.script_crew.specs.CrewText.{job_limit}

-- the line is of a job whose number is below the limit
abbrev pub HasJobNumber : JobLine → Type 0
HasJobNumber line = line.job < job_limit

-- the commands of the lines of the job with this number, in their order
abbrev pub commands_of : ℕ → List JobLine → List Command
commands_of job lines = map (λ line. line.command) (filter (λ line. line.job == job) lines)

-- a job, by its number and its commands
abbrev pub told_by : Job → ℕ × List Command
told_by job = (job.number, job.commands.items)

-- there is a command in it
abbrev pub has_commands : ℕ × List Command → Bool
has_commands job = nat_lt 0 (length job.1)

-- the jobs of the numbers below this one, by their numbers and commands: each number that a line has, from the lowest on, with the commands of its lines
unfoldable pub jobs_below : ℕ → List JobLine → List (ℕ × List Command)
jobs_below limit lines = filter has_commands (map (λ job. (job, commands_of job lines)) (range_with_len 0 limit))

-- the jobs that lines tell
abbrev pub jobs_told : List JobLine → List (ℕ × List Command)
jobs_told lines = jobs_below job_limit lines

-- for each number below the limit there is a list, which has the commands of the lines with that number
pub record AreSlots (lines : List JobLine) (slots : List (List Command)) : Type 0 where
  pub count : length slots ≡ job_limit
  pub each : (job : ℕ) → job < job_limit → slice_index_or slots job [] ≡ commands_of job lines

-- the lists, with the line's command behind those of its job
abbrev pub with_line : List (List Command) → JobLine → List (List Command)
with_line slots line = slice_set slots line.job (slice_index_or slots line.job [] ++ line.command ∷ [])
