-- What the program does with an input, by the work that its words ask for.
use Rattle.std.specs.Prelude.{◌≡◌, ℕ, false, List, Option, Some, None, is_some, IsSomeAnd}
use Rattle.form_words.specs.declared.work.Work.{Work}
use Rattle.form_words.specs.declared.work.Work.TheVariants.{Play, Run, Check, Plan, Make, Migrate, Crew, Queue}
use Rattle.script_text.specs.declared.cause.Cause.{Cause}
use Rattle.script_text.specs.declared.script.Form.TheVariants as forms
use Rattle.reply_text.specs.read.Faults.{first_history_fault}
use Rattle.heap_table.specs.Closed.{ClosedTable}
use Rattle.schism_program.specs.Crewing.{FailsAsCrew, IsCrewInput, RunsCrew, TellsCrewRun}
use Rattle.schism_program.specs.Migrating.{FailsAsText, IsTextOf, Migrates}
use Rattle.schism_program.specs.Planning.{FailsAsPlay, FindsIllegalPlay, IsPlayText, PlansSpace}
use Rattle.schism_program.specs.Queuing.{FailsAsQueue, IsQueueInput, RunsQueue, TellsQueueRun}
use Rattle.schism_program.specs.Running.{Runs, RunsOnTable}
use Rattle.schism_program.specs.Serving.{FailsAsScript, IsScriptText, Plays, IsMadeText}
use Rattle.schism_program.specs.Verdict.{FindsIllegal, FindsLegal, IsLegalText}

-- the work can be done with the input: it is a script, or a legal history, of a play where space is planned; what is migrated need not be legal, and a script is made of none
abbrev pub Suits : Work → List ℕ → Type 0
Suits (Play pace brief press) input = IsScriptText forms.Play input
Suits (Run pace locked patience) input = IsScriptText forms.Run input
Suits Check input = IsLegalText input
Suits Plan input = IsPlayText input
Suits (Make start seats lines) input = Unit {0}
Suits (Migrate kind) input = IsTextOf kind input
Suits (Crew history) input = IsCrewInput input
Suits Queue input = IsQueueInput input

-- the work makes this text of the input
abbrev pub MakesText : Work → List ℕ → List ℕ → Type 0
MakesText (Play pace brief press) input text = Plays press (is_some pace) brief input text
MakesText (Run pace locked patience) input text = Runs locked input text
MakesText Check input text = FindsLegal input text
MakesText Plan input text = PlansSpace input text
MakesText (Make start seats lines) input text = IsMadeText start seats lines text
MakesText (Migrate kind) input text = Migrates kind input text
MakesText (Crew history) input text = TellsCrewRun history input text
MakesText Queue input text = TellsQueueRun input text

-- the input is refused at this line for this cause: its first fault as a script or a history; for a plan also that it is of a run
abbrev pub FailsAt : Work → List ℕ → ℕ → Cause → Type 0
FailsAt (Play pace brief press) input line cause = FailsAsScript forms.Play input line cause
FailsAt (Run pace locked patience) input line cause = FailsAsScript forms.Run input line cause
FailsAt Check input line cause = first_history_fault input ≡ Some (record { line = line; cause = cause })
FailsAt Plan input line cause = FailsAsPlay input line cause
FailsAt (Make start seats lines) input line cause = ⊥
FailsAt (Migrate kind) input line cause = FailsAsText kind input line cause
FailsAt (Crew history) input line cause = FailsAsCrew input line cause
FailsAt Queue input line cause = FailsAsQueue input line cause

-- the work finds this line of the input not legal; only a check and a plan judge their input
abbrev pub IsIllegalAt : Work → List ℕ → ℕ → Type 0
IsIllegalAt Check input line = FindsIllegal input line
IsIllegalAt Plan input line = FindsIllegalPlay input line
IsIllegalAt work input line = ⊥

-- a run without the lock leaves the closed table on which it ran, and a crew and a queue leave their own; no other work leaves one
abbrev pub LeavesTable : Work → List ℕ → List ℕ → Option ClosedTable → Type 0
LeavesTable (Run pace false patience) input text closed = IsSomeAnd closed (RunsOnTable input text)
LeavesTable (Crew history) input text closed = RunsCrew history input text closed
LeavesTable Queue input text closed = RunsQueue input text closed
LeavesTable work input text closed = closed ≡ None
