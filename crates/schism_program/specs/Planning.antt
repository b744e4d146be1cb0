-- What a plan of space is made of, and how it is told.
use Rattle.std.specs.Prelude.{◌≡◌, ℕ, ◌⊎◌, List, Some}
use Rattle.script_text.specs.declared.cause.Cause.{Cause}
use Rattle.script_text.specs.declared.cause.Cause.TheVariants.{NotPlay}
use Rattle.script_text.specs.declared.script.Form.TheVariants.{Play, Run}
use Rattle.script_text.specs.Text.{text_of}
use Rattle.reply_text.specs.declared.history.History.{History}
use Rattle.reply_text.specs.read.Faults.{first_history_fault}
use Rattle.reply_text.specs.History.{IsHistory, history_preamble}
use Rattle.log_merge.specs.Legal.{IsLegalHistory}
use Rattle.space_plan.specs.declared.report.PlanReport.{PlanReport}
use Rattle.space_plan.specs.plan.Report.{IsPlan}
use Rattle.space_plan.specs.Text.{plan_lines}
use Rattle.schism_program.specs.Verdict.{FindsIllegal}

-- the input is a legal history of a play
pub record IsPlayText (input : List ℕ) : Type 0 where
  pub history : History
  pub spelled : IsHistory input history
  pub play : history.form ≡ Play
  pub legal : IsLegalHistory history

-- the input is a legal history of a play, and the text tells its plan
pub record PlansSpace (input text : List ℕ) : Type 0 where
  pub is : IsPlayText input
  pub report : PlanReport
  pub planned : IsPlan is.history report
  pub told : text ≡ text_of (plan_lines (history_preamble is.history) report)

-- the input is a history of a run
pub record IsRunText (input : List ℕ) : Type 0 where
  pub history : History
  pub spelled : IsHistory input history
  pub run : history.form ≡ Run

-- the first fault of the input as a history is this line's cause; or it is a history of a run, which is told of its first line
abbrev pub FailsAsPlay : List ℕ → ℕ → Cause → Type 0
FailsAsPlay input line cause = (first_history_fault input ≡ Some (record { line = line; cause = cause })) ⊎ (IsRunText input × (line ≡ 1) × (cause ≡ NotPlay))

-- the input is a history of a play, of which this line is the first that isn't legal
pub record FindsIllegalPlay (input : List ℕ) (line : ℕ) : Type 0 where
  pub finds : FindsIllegal input line
  pub play : finds.history.form ≡ Play
