-- What the lines of a crew's text tell are jobs for a crew.
use Rattle.std.proofs.Common.{◌≡◌, ℕ, List, [], ◌∷◌, true, length, map, All, refl, sym, ap, subst, ◌∙◌, arith}
use Rattle.std.specs.List.{AllByRecursion, sum_by}
use Rattle.std.specs.List.Sorted.{IsStrictlyIncreasing}
use Rattle.std.proofs.lemmas.List.{length-map}
use Rattle.std.proofs.lemmas.List.Elements.{All-cons, All-from_recursion, All-head, All-nil, All-tail, All-weaker}
use Rattle.std.proofs.lemmas.List.Sums.{sum_by-cons}
use Rattle.heap_model.specs.declared.command.Command.{Command}
use Rattle.script_text.specs.declared.preamble.Preamble.{Preamble}
use Rattle.script_text.specs.Grammar.{IsScripted}
use Rattle.script_text.proofs.WordBytes.{scripted_command_is_in_range}
use Rattle.script_crew.specs.declared.crew_script.CrewScript.{CrewScript}
use Rattle.script_crew.specs.declared.job.Job.{Job}
use Rattle.script_crew.specs.declared.job_line.JobLine.{JobLine}
use Rattle.script_crew.specs.CrewText.{IsJobLine, IsOfCrew, crew_preamble, job_commands, job_limit}
use Rattle.script_crew.specs.Jobs.{AreJobs, IsJob, IsOfJob, command_count}
use Rattle.script_crew.specs.Parting.{HasJobNumber, jobs_told, told_by}
use Rattle.script_crew.specs.Runs.{job_numbers}
use Rattle.script_crew.proofs.ToldJobs.{each_command, few_commands, few_jobs, numbers_rise}

no_collect : job_commands.collect ≡ true → ⊥
no_collect h = absurd (cc)

-- the command of a line is one of a job
scripted_is_of_job : (command : Command) → IsScripted job_commands command → IsOfJob command
scripted_is_of_job command h =
    ((scripted_command_is_in_range job_commands command h, λ e. subst (IsScripted job_commands) e h), λ e. no_collect (subst (IsScripted job_commands) e h))

lines_are_of_jobs : (front : Preamble) (lines : List JobLine) → AllByRecursion (IsJobLine front) lines → All (IsJobLine front) lines
lines_are_of_jobs front lines are = All-from_recursion (IsJobLine front) lines are

pub lines_have_job_numbers : (crew : CrewScript) → IsOfCrew crew → All HasJobNumber crew.lines
lines_have_job_numbers crew is =
    All-weaker (IsJobLine (crew_preamble crew.heap)) HasJobNumber (λ line h. h.0) crew.lines (lines_are_of_jobs (crew_preamble crew.heap) crew.lines is.lines)

-- commands and numbers of jobs, counted as they are told
counted_commands : (jobs : List Job) → sum_by (λ (told : ℕ × List Command). length told.1) (map told_by jobs) ≡ command_count jobs
counted_commands [] = refl
counted_commands (job ∷ jobs) =
    omega (arith, counted_commands jobs, sum_by-cons (λ (told : ℕ × List Command). length told.1) (told_by job) (map told_by jobs), sum_by-cons (λ (one : Job). length one.commands.items) job jobs)

told_numbers : (jobs : List Job) → map (λ (told : ℕ × List Command). told.0) (map told_by jobs) ≡ job_numbers jobs
told_numbers [] = refl
told_numbers (job ∷ jobs) = ap (λ numbers. job.number ∷ numbers) (told_numbers jobs)

each_job : (jobs : List Job) → All (λ (told : ℕ × List Command). All IsOfJob told.1) (map told_by jobs) → All IsJob jobs
each_job [] all = All-nil IsJob
each_job (job ∷ jobs) all =
    let P : ℕ × List Command → Type 0 = λ told. All IsOfJob told.1 in
    All-cons IsJob job jobs (All-head P (told_by job) (map told_by jobs) all) (each_job jobs (All-tail P (told_by job) (map told_by jobs) all))

-- the jobs that the lines tell may be run by a crew
pub told_jobs_are_jobs : (crew : CrewScript) (jobs : List Job) → IsOfCrew crew → map told_by jobs ≡ jobs_told crew.lines → AreJobs jobs
told_jobs_are_jobs crew jobs is told =
    let lines = crew.lines in
    let commands : All (λ (line : JobLine). IsOfJob line.command) lines =
    All-weaker (IsJobLine (crew_preamble crew.heap)) (λ (line : JobLine). IsOfJob line.command) (λ line h. scripted_is_of_job line.command h.1) lines (lines_are_of_jobs (crew_preamble crew.heap) lines is.lines) in
    record {
      count = omega (arith, few_jobs job_limit lines, ap (λ (all : List (ℕ × List Command)). length all) told, length-map jobs told_by);
      commands = omega (arith, few_commands job_limit lines, is.short, counted_commands jobs, ap (λ (all : List (ℕ × List Command)). sum_by (λ (one : ℕ × List Command). length one.1) all) told);
      each = each_job jobs (subst (All (λ (one : ℕ × List Command). All IsOfJob one.1)) (sym told) (each_command IsOfJob job_limit lines commands));
      rising = subst IsStrictlyIncreasing (ap (λ (all : List (ℕ × List Command)). map (λ (one : ℕ × List Command). one.0) all) (sym told) ∙ told_numbers jobs) (numbers_rise job_limit lines);
    }
