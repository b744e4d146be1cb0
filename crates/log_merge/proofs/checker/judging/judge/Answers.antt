use Rattle.std.proofs.Common.{◌∷◌, ◌++◌, [], OnOk, Some, subst}
use Rattle.std.proofs.lemmas.Result.{on_ok_weaker}
use Rattle.heap_model.specs.declared.heap.Heap.{Heap}
use Rattle.script_text.specs.declared.script.Form.{Form}
use Rattle.log_merge.specs.Lines.{KeepsRules}
use Rattle.log_merge.specs.Checking.{Accounts}
use Rattle.log_merge.proofs.AccountLemmas.{follows_by_account}
use Rattle.log_merge.proofs.checker.judging.judge.Goals as goal

pub returns-in-Some-clause-keeps : goal.returns-in-Some-clause-keeps
returns-in-Some-clause-keeps c = λ form heap before accounts is.
    follows_by_account (λ (f : Form) (h : Heap). OnOk c.apply.result (KeepsRules f h before c.args.entry.now)) form heap c.in-Some.account c.args.graph.now before (subst (λ a. Accounts form heap a before) c.in-Some.is accounts) is
    (λ tells same. on_ok_weaker c.apply.result (λ keeps. keeps before tells same) c.apply.ensures.keeps)

pub returns-in-Some-clause-tells : goal.returns-in-Some-clause-tells
returns-in-Some-clause-tells c = λ form heap before accounts is.
    follows_by_account (λ (f : Form) (h : Heap). OnOk c.apply.result (Accounts f h (Some c.apply.new.self) (before ++ c.args.entry.now ∷ []))) form heap c.in-Some.account c.args.graph.now before (subst (λ a. Accounts form heap a before) c.in-Some.is accounts) is
    (λ tells same. on_ok_weaker c.apply.result (λ told. (c.apply.ensures.heap, told before tells same)) c.apply.ensures.tells)

pub returns-in-Some-clause-not_legal : goal.returns-in-Some-clause-not_legal
returns-in-Some-clause-not_legal c = λ form heap before accounts is refused.
    follows_by_account (λ (f : Form) (h : Heap). ¬ KeepsRules f h before c.args.entry.now) form heap c.in-Some.account c.args.graph.now before (subst (λ a. Accounts form heap a before) c.in-Some.is accounts) is
    (λ tells same. c.apply.ensures.not_legal refused before tells same)
