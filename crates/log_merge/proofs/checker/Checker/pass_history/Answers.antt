use Rattle.std.proofs.Common.{◌≡◌, ◌∷◌, ◌++◌, [], refl, sym, ◌∙◌, subst, ap, rules}
use Rattle.std.proofs.lemmas.List.{append-nil}
use Rattle.std.proofs.lemmas.Result.{on_ok_weaker, IfErr-at_err}
use Rattle.reply_text.specs.declared.history_line.HistoryLine.TheVariants as lines
use Rattle.reply_text.specs.History.{body, lines_with_mark}
use Rattle.log_merge.specs.declared.fault.CheckFault.TheVariants as faults
use Rattle.log_merge.specs.Legal.{ShowsUse}
use Rattle.log_merge.specs.Lines.{KeepLines}
use Rattle.log_merge.specs.Checking.{StopsIn}
use Rattle.log_merge.proofs.LegalLemmas.{entries_of-marked, IsLegalHistory-from_lines}
use Rattle.log_merge.proofs.PassingLemmas.{IsFirstIllegal-from_stop, StopsIn-append}
use Rattle.log_merge.proofs.checker.Checker.pass_history.Goals as goal

pub returns-in_err-pass_marked-clause-first : goal.returns-in_err-pass_marked-clause-first
returns-in_err-pass_marked-clause-first c = λ line e.
    let history = c.args.history.now in
    let entries = c.as_slice-entries.result.now in
    let last = lines.End history.end_used ∷ [] in
    let is : c.in_err-pass_marked.field-0.0 ≡ faults.NotLegal line = search rules in
    let parted : body history ≡ lines_with_mark history.mark entries ++ last = ap (λ es. lines_with_mark history.mark es ++ last) (sym c.as_slice-entries.ensures) in
    IsFirstIllegal-from_stop history c.args.self.now (lines_with_mark history.mark entries) last _ line c.requires.heap c.requires.first parted is (c.in_err-pass_marked.ensures.stops history.form)

pub returns-clause-legal : goal.returns-clause-legal
returns-clause-legal c =
    let history = c.args.history.now in
    let passed = c.in_ok-pass_marked.ensures.passes history.form c.requires.first in
    let kept : KeepLines history.form history.heap [] (lines_with_mark history.mark history.entries) =
    rw (sym c.requires.heap, sym c.pass_marked.ensures.heap, sym c.as_slice-entries.ensures) passed.kept in
    on_ok_weaker c.pass_end.result
    (λ (shows : ShowsUse c.pass_marked.new.self.heap c.as_slice-entries.result.now history.end_used). IsLegalHistory-from_lines history kept
    (subst (λ es. ShowsUse history.heap es history.end_used) c.as_slice-entries.ensures
    (subst (λ h. ShowsUse h c.as_slice-entries.result.now history.end_used) (c.pass_marked.ensures.heap ∙ c.requires.heap) shows)))
    c.pass_end.ensures.shows

pub returns-clause-first : goal.returns-clause-first
returns-clause-first c = λ line e.
    let history = c.args.history.now in
    let entries = c.as_slice-entries.result.now in
    let first = lines_with_mark history.mark entries in
    let last = lines.End history.end_used ∷ [] in
    let parted : body history ≡ (first ++ last) ++ [] = ap (λ es. lines_with_mark history.mark es ++ last) (sym c.as_slice-entries.ensures) ∙ sym (append-nil (first ++ last)) in
    let stops = IfErr-at_err (StopsIn history.form c.pass_marked.new.self first last) e (c.pass_end.ensures.stops history.form first (entries_of-marked history.mark entries)) in
    IsFirstIllegal-from_stop history c.args.self.now (first ++ last) [] (faults.NotLegal line) line c.requires.heap c.requires.first parted refl
    (StopsIn-append history.form c.args.self.now c.pass_marked.new.self [] first last (faults.NotLegal line) c.pass_marked.ensures.heap (c.in_ok-pass_marked.ensures.passes history.form) stops)
