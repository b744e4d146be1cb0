use Rattle.std.proofs.Common.{ap, ◌∙◌, rules}
use Rattle.script_text.specs.declared.preamble.Preamble.{Preamble}
use Rattle.script_text.specs.Text.{text_of}
use Rattle.log_merge.specs.Legal.{IsLegalHistory}
use Rattle.log_merge.specs.Lines.{IsFirstIllegal}
use Rattle.space_plan.specs.Text.{plan_lines}
use Rattle.schism_program.proofs.planning.plan_text.Goals as goal

pub returns-in_err-report-clause-not_legal : goal.returns-in_err-report-clause-not_legal
returns-in_err-report-clause-not_legal c = λ line is.
    let history = c.in_ok-history.history in
    let first : IsFirstIllegal history line = search rules in
    let illegal : ¬ IsLegalHistory history = search rules in
    record {
      finds = record { history = history; spelled = c.in_ok-history.ensures.ok; first = first; illegal = illegal };
      play = c.in_ok-history.ensures.play;
    }

pub returns-clause-ok : goal.returns-clause-ok
returns-clause-ok c =
    let plans = c.in_ok-report.ensures in
    record {
      is = record { history = c.in_ok-history.history; spelled = c.in_ok-history.ensures.ok; play = c.in_ok-history.ensures.play; legal = plans.legal };
      report = c.in_ok-report.report;
      planned = plans.plan;
      told = c.in_ok-text.ensures ∙ ap (λ (front : Preamble). text_of (plan_lines front c.in_ok-report.report)) c.preamble.ensures;
    }
