use Rattle.std.proofs.lemmas.Result.{on_ok_weaker}
use Rattle.log_merge.proofs.checker.Checker.apply.Goals as goal

pub returns-clause-ready : goal.returns-clause-ready
returns-clause-ready c =
    on_ok_weaker c.apply.result (λ _. c.in_ok-judge.ensures.ready c.args.self.now.heap c.args.self.now.line c.requires.ready) c.apply.ensures.accepted
