-- What a run of a crew comes to.
use Rattle.std.specs.Prelude.{◌≡◌, ℕ, Bool, true, false, List, [], ◌∷◌, map, Option, Some, None, All, IsSomeAnd}
use Rattle.heap_model.specs.declared.entry.Entry.{Entry}
use Rattle.heap_model.specs.declared.heap.Heap.{Heap}
use Rattle.script_text.specs.declared.cause.Cause.{Cause}
use Rattle.script_text.specs.declared.script.Script.{Script}
use Rattle.script_text.specs.Text.{text_of}
use Rattle.reply_text.specs.declared.history.History.{History}
use Rattle.reply_text.specs.History.{history_lines}
use Rattle.log_merge.specs.Legal.{IsLegalHistory}
use Rattle.heap_table.specs.Closed.{ClosedTable}
use Rattle.heap_table.specs.SeatHeld.{SeatHeld}
use Rattle.collector_turns.specs.Collector.{CollectorValue}
use Rattle.script_crew.specs.declared.crew.CrewRan.{CrewRan}
use Rattle.script_crew.specs.declared.crew_script.CrewScript.{CrewScript}
use Rattle.script_crew.specs.declared.job.Job.{Job}
use Rattle.script_crew.specs.CrewText.{IsCrewText, crew_preamble, first_crew_fault}
use Rattle.script_crew.specs.Crews.{IsCrewRan}
use Rattle.script_crew.specs.Parting.{jobs_told, told_by}
use Rattle.script_crew.specs.Telling.{crew_lines, run_lines}
use Rattle.schism_program.specs.Running.{IsOfTable, TellsTable, merged_history}

-- the input is a crew's text
abbrev pub IsCrewInput : List ℕ → Type 0
IsCrewInput input = (crew : CrewScript) × IsCrewText input crew

-- the first fault of the input as a crew's text is this line's cause
abbrev pub FailsAsCrew : List ℕ → ℕ → Cause → Type 0
FailsAsCrew input line cause = first_crew_fault input ≡ Some (record { line = line; cause = cause })

-- the text tells the logs of the closed table as one history of a run, in version 2, which is legal
pub record TellsLogs (heap : Heap) (text : List ℕ) (closed : ClosedTable) : Type 0 where
  pub entries : List Entry
  pub legal : IsLegalHistory (merged_history (crew_preamble heap) entries)
  pub tabled : IsOfTable (merged_history (crew_preamble heap) entries) closed
  pub rendered : text ≡ text_of (history_lines (merged_history (crew_preamble heap) entries))

-- the crew ran the jobs on the seats of a table of this heap, which opened for it: none of them had told anything, so what the crew made is all that their logs tell
pub record HasRun (heap : Heap) (jobs : List Job) (ran : CrewRan) : Type 0 where
  pub collector : CollectorValue
  pub of_heap : collector.holder.heap ≡ heap
  pub opened : collector.holder.known.collector.log ≡ []
  pub seats : List SeatHeld
  pub silent : All (λ seat. seat.seat.mine ≡ []) seats
  pub whole : IsCrewRan jobs seats collector ran

-- the text tells what the crew came to: the history, or a line for the run of each job
abbrev pub TellsCrew : Bool → Heap → List Job → CrewRan → List ℕ → Type 0
TellsCrew true heap jobs ran text = TellsLogs heap text ran.closed
TellsCrew false heap jobs ran text = text ≡ text_of (crew_lines heap (run_lines ran.closed.logs jobs ran.runs.items))

-- the jobs were run by a crew, whose table this is, and the text tells what it came to
pub record RunsJobs (history : Bool) (heap : Heap) (jobs : List Job) (text : List ℕ) (closed : ClosedTable) : Type 0 where
  pub ran : CrewRan
  pub has_run : HasRun heap jobs ran
  pub its_table : closed ≡ ran.closed
  pub tells : TellsCrew history heap jobs ran text

-- the script of this heap in version 2 that has no lines
abbrev pub lineless_script : Heap → Script
lineless_script heap = record { version = 2; heap = heap; lines = [] }

-- the text tells a run of that script, on the table that was closed
pub record TellsLinelessRun (heap : Heap) (text : List ℕ) (closed : ClosedTable) : Type 0 where
  pub history : History
  pub tells : TellsTable (lineless_script heap) history closed
  pub rendered : text ≡ text_of (history_lines history)

-- where there is no job, nothing is run; or, where the history is asked for, the script without lines
abbrev pub RunsNone : Bool → Heap → List ℕ → Option ClosedTable → Type 0
RunsNone true heap text closed = IsSomeAnd closed (TellsLinelessRun heap text)
RunsNone false heap text closed = (text ≡ text_of (crew_lines heap [])) × (closed ≡ None)

-- some jobs are run by a crew
abbrev pub RunsAll : Bool → Heap → List Job → List ℕ → Option ClosedTable → Type 0
RunsAll history heap [] text closed = RunsNone history heap text closed
RunsAll history heap (job ∷ jobs) text closed = IsSomeAnd closed (RunsJobs history heap (job ∷ jobs) text)

-- the text tells a run of the jobs of the input's lines, and the table that is left is the one on which they ran
pub record RunsCrew (history : Bool) (input text : List ℕ) (closed : Option ClosedTable) : Type 0 where
  pub crew : CrewScript
  pub spelled : IsCrewText input crew
  pub jobs : List Job
  pub told : map told_by jobs ≡ jobs_told crew.lines
  pub runs : RunsAll history crew.heap jobs text closed

-- it does so for some table, or for none
abbrev pub TellsCrewRun : Bool → List ℕ → List ℕ → Type 0
TellsCrewRun history input text = (closed : Option ClosedTable) × RunsCrew history input text closed
