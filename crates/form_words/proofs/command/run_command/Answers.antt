use Rattle.std.proofs.Common.{ap₂, ◌∙◌}
use Rattle.std.proofs.lemmas.Result.{IfOk-from_err, IfOk-weaker}
use Rattle.clap.specs.Words.{with_rule}
use Rattle.form_words.proofs.command.run_command.Goals as goal

pub returns-in_err-arg : goal.returns-in_err-arg
returns-in_err-arg c = IfOk-from_err c.from_residual.result _ c.from_residual.ensures.0

pub returns-in_err-arg-2 : goal.returns-in_err-arg-2
returns-in_err-arg-2 c = IfOk-from_err c.from_residual-in_err-arg-2.result _ c.from_residual-in_err-arg-2.ensures.0

pub returns : goal.returns
returns c =
    let one = c.in_ok-arg.ensures.shape c.valued_option.ensures.own ∙ ap₂ with_rule c.bare_command.ensures c.valued_option.ensures.rule in
    let two = c.in_ok-arg-2.ensures.shape c.plain_option.ensures.own ∙ ap₂ with_rule one c.plain_option.ensures.rule in
    IfOk-weaker c.arg-3.result _ _ (λ command adds. adds.shape c.valued_option-2.ensures.own ∙ ap₂ with_rule two c.valued_option-2.ensures.rule) c.arg-3.ensures
