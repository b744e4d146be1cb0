-- A checker that goes over more lines, or stops in them.
use Rattle.std.proofs.Common.{◌≡◌, ℕ, ◌+◌, List, [], ◌∷◌, ◌++◌, append_assoc, length-append, refl, sym, ap, ◌∙◌, subst, arith}
use Rattle.std.proofs.lemmas.List.{append-nil}
use Rattle.script_text.specs.declared.script.Form.{Form}
use Rattle.reply_text.specs.declared.history.History.{History}
use Rattle.reply_text.specs.declared.history.SpaceMark.{SpaceMark}
use Rattle.reply_text.specs.declared.history_line.HistoryLine.{HistoryLine}
use Rattle.reply_text.specs.History.{body, space_line}
use Rattle.log_merge.specs.declared.checker.Checker.{Checker}
use Rattle.log_merge.specs.Legal.{ShowsCounts}
use Rattle.log_merge.specs.Lines.{entry_of, entries_of, IsFirstIllegal, KeepsLine, KeepLines}
use Rattle.log_merge.specs.declared.fault.CheckFault.{CheckFault}
use Rattle.log_merge.specs.declared.fault.CheckFault.TheVariants as faults
use Rattle.log_merge.specs.Checking.{GoesOver, Judged, Passed, StopsIn}
use Rattle.log_merge.proofs.LegalLemmas.{space_line_is_right}
use Rattle.log_merge.proofs.LineLemmas.{entries_of-more, KeepLines-append, BreaksAt-more}

-- one right line more
pub Passed-more : (form : Form) (old new : Checker) (passed : List HistoryLine) (line : HistoryLine) → Passed form old passed → new.heap ≡ old.heap → new.line ≡ old.line + 1
    → Judged form new (entries_of passed ++ entry_of line) → KeepsLine form old.heap (entries_of passed) line → Passed form new (passed ++ line ∷ [])
Passed-more form old new passed line before same next judged keeps = record {
  counted = omega (arith, length-append passed (line ∷ []), before.counted);
  judged = subst (λ es. Judged form new es) (sym (entries_of-more passed line)) judged;
  kept = subst (λ heap. KeepLines form heap [] (passed ++ line ∷ [])) (sym same) (KeepLines-append form old.heap [] passed (line ∷ []) before.kept (keeps, tt));
}

-- some lines, and then more
pub GoesOver-append : (form : Form) (old mid new : Checker) (passed first more : List HistoryLine)
    → GoesOver form old mid passed first → GoesOver form mid new (passed ++ first) more → GoesOver form old new passed (first ++ more)
GoesOver-append form old mid new passed first more goes goes_on = λ before.
    subst (λ ls. Passed form new ls) (append_assoc passed first more) (goes_on (goes before))

-- it stops in these lines, whatever follows
pub StopsIn-more : (form : Form) (checker : Checker) (passed lines more all : List HistoryLine) (fault : CheckFault)
    → all ≡ lines ++ more → StopsIn form checker passed lines fault → StopsIn form checker passed all fault
StopsIn-more form checker passed lines more all (faults.NotLegal number) e stops = λ before.
    BreaksAt-more form checker.heap (passed ++ lines) more (passed ++ all) number (ap (λ ls. passed ++ ls) e ∙ sym (append_assoc passed lines more)) (stops before)
StopsIn-more form checker passed lines more all faults.Memory e stops = tt

-- it goes over some lines, and stops in the next
pub StopsIn-append : (form : Form) (old mid : Checker) (passed first more : List HistoryLine) (fault : CheckFault) → mid.heap ≡ old.heap
    → GoesOver form old mid passed first → StopsIn form mid (passed ++ first) more fault → StopsIn form old passed (first ++ more) fault
StopsIn-append form old mid passed first more (faults.NotLegal number) same goes stops = λ before.
    rw (sym same, sym (append_assoc passed first more)) (stops (goes before))
StopsIn-append form old mid passed first more faults.Memory same goes stops = tt

-- a space line that shows the counts
pub Passed-space : (form : Form) (old : Checker) (passed : List HistoryLine) (mark : SpaceMark) → Passed form old passed → ShowsCounts old.heap (entries_of passed) mark
    → Passed form (record old { line = old.line + 1 }) (passed ++ space_line mark ∷ [])
Passed-space form old passed mark before shows =
    let new = record old { line = old.line + 1 } in
    let judged : Judged form new (entries_of passed) = record { graph = before.judged.graph; account = before.judged.account } in
    Passed-more form old new passed (space_line mark) before refl refl (subst (λ es. Judged form new es) (sym (append-nil (entries_of passed))) judged)
    (space_line_is_right form old.heap (entries_of passed) mark shows)

-- where it stops, from the first line on, is the first line of the history that isn't legal
pub IsFirstIllegal-from_stop : (history : History) (checker : Checker) (lines more : List HistoryLine) (fault : CheckFault) (line : ℕ) → checker.heap ≡ history.heap → Passed history.form checker []
    → body history ≡ lines ++ more → fault ≡ faults.NotLegal line → StopsIn history.form checker [] lines fault → IsFirstIllegal history line
IsFirstIllegal-from_stop history checker lines more (faults.NotLegal number) line same none parted is stops =
    let here : number ≡ line = cc in
    rw (sym here, sym same) (BreaksAt-more history.form checker.heap lines more (body history) number parted (stops none))
IsFirstIllegal-from_stop history checker lines more faults.Memory line same none parted is stops = absurd cc
