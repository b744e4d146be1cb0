-- The text that tells what a crew came to.
use Rattle.std.specs.Prelude.{ℕ, ◌-◌, List, [], ◌∷◌, ◌++◌, codes, count_by, decimal, drop, length, map, slice_index_or, take}
use Rattle.std.specs.List.{zip}
use Rattle.heap_model.specs.declared.entry.Entry.{Entry}
use Rattle.heap_model.specs.declared.heap.Heap.{Heap}
use Rattle.script_text.specs.Text.{sentence}
use Rattle.script_text.specs.Words.{heap_line}
use Rattle.reply_text.specs.write.Counts.{is_refused}
use Rattle.script_crew.specs.declared.job.Job.{Job}
use Rattle.script_crew.specs.declared.job.JobRun.{JobRun}
use Rattle.script_crew.specs.CrewText.{crew_preamble}

-- the entries of the run, which are a part of its seat's log
abbrev pub told_in : List (List Entry) → JobRun → List Entry
told_in logs run = take (run.to - run.from) (drop run.from (slice_index_or logs run.seat []))

-- the words of the line of a job's run: the job, the seat, how many commands the job has, and how many of the run's entries are refusals
abbrev pub run_words : Job → JobRun → List Entry → List (List ℕ)
run_words job run told =
    decimal run.job ∷ codes "seat" ∷ decimal run.seat ∷ codes "said" ∷ decimal (length job.commands.items) ∷ codes "refused" ∷ decimal (count_by is_refused told) ∷ []

-- that line
abbrev pub run_line : Job → JobRun → List Entry → List ℕ
run_line job run told = sentence (codes "job" ∷ run_words job run told)

-- the lines of the runs of the jobs, each run beside its job
abbrev pub run_lines : List (List Entry) → List Job → List JobRun → List (List ℕ)
run_lines logs jobs runs = map (λ pair. run_line pair.0 pair.1 (told_in logs pair.1)) (zip jobs runs)

-- the lines of the text, between whose first two and last these stand
abbrev pub crew_lines : Heap → List (List ℕ) → List (List ℕ)
crew_lines heap runs = codes "crew 1" ∷ heap_line (crew_preamble heap) ∷ runs ++ codes "end used 0" ∷ []
