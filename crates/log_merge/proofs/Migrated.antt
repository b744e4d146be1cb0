-- A history has one first line that isn't legal, and migrating leaves it where it is.
use Rattle.std.proofs.Common.{◌≡◌, ℕ, suc, ◌+◌, List, [], ◌∷◌, ◌++◌, length, refl, sym, ap, ◌∙◌, subst, append_assoc}
use Rattle.std.proofs.lemmas.List.{append-nil}
use Rattle.heap_model.specs.declared.heap.Heap.{Heap}
use Rattle.heap_model.specs.declared.entry.Entry.{Entry}
use Rattle.script_text.specs.declared.script.Form.{Form}
use Rattle.reply_text.specs.declared.history_line.HistoryLine.{HistoryLine}
use Rattle.log_merge.specs.Lines.{entries_of, entry_of, IsFirstWrongLine, KeepLines, KeepsLine}
use Rattle.log_merge.specs.Migration.{MigratingKeepsVerdicts}

-- the line after these right ones isn't right
abbrev Breaks : Form → Heap → List Entry → List HistoryLine → HistoryLine → Type 0
Breaks form heap before kept line = ¬ KeepsLine form heap (before ++ entries_of kept) line

-- two first parts of some lines, each followed by a line that isn't right, are as long
as_long : (form : Form) (heap : Heap) (before : List Entry) (front front' : List HistoryLine) (line line' : HistoryLine) (rest rest' : List HistoryLine)
    → front ++ line ∷ rest ≡ front' ++ line' ∷ rest' → KeepLines form heap before front → KeepLines form heap before front'
    → Breaks form heap before front line → Breaks form heap before front' line' → length front ≡ length front'
as_long form heap before [] [] line line' rest rest' same kept kept' breaks breaks' = refl
as_long form heap before [] (x ∷ front') line line' rest rest' same kept kept' breaks breaks' =
    let first : line ≡ x = cc in
    absurd (breaks (subst (λ es. KeepsLine form heap es line) (sym (append-nil before)) (subst (λ l. KeepsLine form heap before l) (sym first) kept'.0)))
as_long form heap before (x ∷ front) [] line line' rest rest' same kept kept' breaks breaks' =
    let first : x ≡ line' = cc in
    absurd (breaks' (subst (λ es. KeepsLine form heap es line') (sym (append-nil before)) (subst (λ l. KeepsLine form heap before l) first kept.0)))
as_long form heap before (x ∷ front) (y ∷ front') line line' rest rest' same kept kept' breaks breaks' =
    let first : x ≡ y = cc in
    let others : front ++ line ∷ rest ≡ front' ++ line' ∷ rest' = cc in
    let after : List Entry = before ++ entry_of x in
    let kept_too : KeepLines form heap after front' = subst (λ l. KeepLines form heap (before ++ entry_of l) front') (sym first) kept'.1 in
    let breaks_too : Breaks form heap before (x ∷ front') line' = subst (λ l. Breaks form heap before (l ∷ front') line') (sym first) breaks' in
    ap (λ n. suc n) (as_long form heap after front front' line line' rest rest' others kept.1 kept_too
    (subst (λ es. ¬ KeepsLine form heap es line) (sym (append_assoc before (entry_of x) (entries_of front))) breaks)
    (subst (λ es. ¬ KeepsLine form heap es line') (sym (append_assoc before (entry_of x) (entries_of front'))) breaks_too))

-- so the first wrong one of some lines is one
pub first_wrong_line_is_one : (form : Form) (heap : Heap) (lines : List HistoryLine) (number again : ℕ)
    → IsFirstWrongLine form heap lines number → IsFirstWrongLine form heap lines again → number ≡ again
first_wrong_line_is_one form heap lines number again one other =
    let long = as_long form heap [] one.before other.before one.line other.line one.rest other.rest (sym one.parted ∙ other.parted) one.kept other.kept one.broken other.broken in
    one.counted ∙ ap (λ n. 3 + n) long ∙ sym other.counted

-- what a check asks of a history stays when that is migrated
pub migrated_is_judged_alike : MigratingKeepsVerdicts
migrated_is_judged_alike history = record {
  legal = (λ legal. record { entries = legal.entries; mark = legal.mark; end_used = legal.end_used }, λ legal. record { entries = legal.entries; mark = legal.mark; end_used = legal.end_used });
  count = refl;
  first = λ line. (λ first. first, λ first. first);
  line_is_one = λ line again one other. first_wrong_line_is_one history.form history.heap _ line again one other;
}
