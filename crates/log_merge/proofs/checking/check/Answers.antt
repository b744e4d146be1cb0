use Rattle.std.proofs.Common.{rules}
use Rattle.log_merge.specs.Lines.{IsFirstIllegal}
use Rattle.log_merge.proofs.LegalLemmas.{wrong_line_is_not_legal}
use Rattle.log_merge.proofs.checking.check.Goals as goal

pub returns-in_err-pass_history-clause-not_legal : goal.returns-in_err-pass_history-clause-not_legal
returns-in_err-pass_history-clause-not_legal c = λ line e.
    let first : IsFirstIllegal c.args.history.now line = search rules in
    wrong_line_is_not_legal c.args.history.now line first
