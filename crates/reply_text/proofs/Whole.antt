-- A text that is a history has no fault, is no other history, and is what is written of it.
use Rattle.std.proofs.Common.{◌≡◌, ℕ, ◌+◌, ◌<◌, ◌≤◌, ◌^◌, List, ◌∷◌, Option, Some, None, Result, Ok, Err, IfOk, inl, inr, [], codes, length, map, refl, sym, ap, ◌∙◌, subst, arith}
use Rattle.std.specs.List.{AllByRecursion}
use Rattle.std.proofs.lemmas.List.{length-map}
use Rattle.heap_model.specs.declared.entry.Entry.{Entry}
use Rattle.heap_model.specs.declared.entry.Entry.TheVariants as entries
use Rattle.script_text.specs.declared.cause.ScriptFault.{ScriptFault}
use Rattle.script_text.specs.declared.preamble.Preamble.{Preamble}
use Rattle.script_text.specs.declared.script.Form.{Form}
use Rattle.script_text.specs.declared.script.Form.TheVariants.{Play, Run}
use Rattle.script_text.specs.Preamble.{IsVersion}
use Rattle.script_text.specs.Text.{text_of}
use Rattle.script_text.specs.Words.{heap_line, heap_words}
use Rattle.script_text.proofs.TextLemmas.{lines_of-text_of}
use Rattle.script_text.proofs.Tokens.{IsAbove, IsAbove-from_test, IsAbove-sentence}
use Rattle.script_text.proofs.Texts.{equal_texts_same_preamble, heap_of-heap_line}
use Rattle.script_text.proofs.WordBytes.{heap_words-above}
use Rattle.reply_text.specs.declared.history.History.{History}
use Rattle.reply_text.specs.declared.history_line.HistoryLine.{HistoryLine}
use Rattle.reply_text.specs.read.Faults.{first_history_fault, form_of}
use Rattle.reply_text.specs.read.Stages.{first_stage}
use Rattle.reply_text.specs.History.{IsHistory, IsSpellable, body, form_line, history_lines, history_preamble, too_many}
use Rattle.reply_text.specs.write.Lines.{IsHistoryLine, history_line}
use Rattle.reply_text.specs.read.LineWords.{line_of}
use Rattle.reply_text.specs.Written.{HasText, IsWritten}
use Rattle.reply_text.proofs.read_lemmas.LinesReread.{body_is_history_lines, follow-body, history_lines-above, lines_fault-none}
use Rattle.reply_text.proofs.read_lemmas.Told.{end_in, end_in-body, entries_in, entries_in-body, lines-from_texts, mark_in, mark_in-body, values_in}

form_of-form_line : (version : ℕ) (form : Form) → IsVersion version → form_of (form_line version form) ≡ Some (version, form)
form_of-form_line version Play (inl first) = rw first refl
form_of-form_line version Run (inl first) = rw first refl
form_of-form_line version Play (inr second) = rw second refl
form_of-form_line version Run (inr second) = rw second refl

form_line-above : (version : ℕ) (form : Form) → IsVersion version → IsAbove 31 (form_line version form)
form_line-above version Play (inl first) = rw first (IsAbove-from_test 31 (codes "history 1 play") refl)
form_line-above version Run (inl first) = rw first (IsAbove-from_test 31 (codes "history 1 run") refl)
form_line-above version Play (inr second) = rw second (IsAbove-from_test 31 (codes "history 2 play") refl)
form_line-above version Run (inr second) = rw second (IsAbove-from_test 31 (codes "history 2 run") refl)

-- its seats are few
few_seats : (history : History) → IsSpellable history → history.heap.seats < 2 ^ 8
few_seats history h = let heap = h.preamble.heap in omega arith

-- each line after the heap line is one that the history may have
lines_of-body : (history : History) → IsSpellable history → AllByRecursion (IsHistoryLine history.form (history_preamble history)) (body history)
lines_of-body history h =
    body_is_history_lines history.form (history_preamble history) (length history.entries) history.mark history.entries history.end_used h.entries h.mark h.end_used

-- its entries may stand in a text of its version
written_entry_has_text : (form : Form) (preamble : Preamble) (entry : Entry) → IsWritten form preamble entry → HasText preamble.version entry
written_entry_has_text form preamble (entries.Said seat command reply) is = is.3
written_entry_has_text form preamble _ is = tt

written_entries_have_text : (form : Form) (preamble : Preamble) (told : List Entry) → AllByRecursion (IsWritten form preamble) told → AllByRecursion (HasText preamble.version) told
written_entries_have_text form preamble [] all = tt
written_entries_have_text form preamble (entry ∷ told) all = (written_entry_has_text form preamble entry all.0, written_entries_have_text form preamble told all.1)

pub read_entries_have_text : (text : List ℕ) (result : Result History ScriptFault) → IfOk result (IsHistory text) → IfOk result (λ history. AllByRecursion (HasText history.version) history.entries)
read_entries_have_text text (Ok history) is = written_entries_have_text history.form (history_preamble history) history.entries is.value.entries
read_entries_have_text text (Err fault) is = tt

-- a history has no fault
pub first_history_fault-none : (text : List ℕ) (history : History) → IsHistory text history → first_history_fault text ≡ None
unfolding first_history_fault
first_history_fault-none text history h =
    let value = h.value in
    let preamble = history_preamble history in
    let short : 3 + length (body history) ≤ too_many = omega (arith, value.short, length-map (body history) history_line) in
    rw (h.spelled, form_of-form_line history.version history.form value.preamble.version, heap_of-heap_line preamble value.preamble)
    (lines_fault-none history.form preamble (first_stage history.form) 3 (body history) (few_seats history value) (lines_of-body history value)
    (follow-body history.form (length history.entries) history.mark history.entries history.end_used value.mark) short)

same_parts : (one other : History) → history_preamble one ≡ history_preamble other → one.form ≡ other.form → one.entries ≡ other.entries → one.mark ≡ other.mark → one.end_used ≡ other.end_used → one ≡ other
same_parts one other e f g h k = λ i. record { version = (e i).version; form = f i; heap = (e i).heap; entries = g i; mark = h i; end_used = k i }

-- what the lines after the heap line tell of a history
decoded : (history : History) → IsSpellable history → values_in (map (line_of history.form (history_preamble history)) (map history_line (body history))) ≡ body history
decoded history h = lines-from_texts history.form (history_preamble history) (body history) (few_seats history h) (lines_of-body history h)

-- two histories of one text are one
pub equal_texts_same_history : (text : List ℕ) (one other : History) → IsHistory text one → IsHistory text other → one ≡ other
equal_texts_same_history text one other f g =
    let spelled : history_lines one ≡ history_lines other = sym f.spelled ∙ g.spelled in
    let form_lines : form_line one.version one.form ≡ form_line other.version other.form = cc in
    let heap_lines : heap_line (history_preamble one) ≡ heap_line (history_preamble other) = cc in
    let texts : map history_line (body one) ≡ map history_line (body other) = cc in
    let told : ◌≡◌ {A = Option (ℕ × Form)} (Some (one.version, one.form)) (Some (other.version, other.form)) =
    sym (form_of-form_line one.version one.form f.value.preamble.version) ∙ ap form_of form_lines ∙ form_of-form_line other.version other.form g.value.preamble.version in
    let both : ◌≡◌ {A = ℕ × Form} (one.version, one.form) (other.version, other.form) = cc in
    let form : one.form ≡ other.form = ap (λ (p : ℕ × Form). p.1) both in
    let preamble : history_preamble one ≡ history_preamble other =
    equal_texts_same_preamble (history_preamble one) (history_preamble other) f.value.preamble g.value.preamble (ap (λ (p : ℕ × Form). p.0) both) heap_lines in
    let read : Form → Preamble → List (List ℕ) → List HistoryLine = λ x y ls. values_in (map (line_of x y) ls) in
    let bodies : body one ≡ body other =
    sym (decoded one f.value)
    ∙ ap (λ x. read x (history_preamble one) (map history_line (body one))) form
    ∙ ap (λ y. read other.form y (map history_line (body one))) preamble
    ∙ ap (read other.form (history_preamble other)) texts
    ∙ decoded other g.value in
    same_parts one other preamble form
    (sym (entries_in-body one.mark one.entries one.end_used) ∙ ap entries_in bodies ∙ entries_in-body other.mark other.entries other.end_used)
    (sym (mark_in-body one.form one.mark one.entries one.end_used f.value.mark) ∙ ap (mark_in 0) bodies ∙ mark_in-body other.form other.mark other.entries other.end_used g.value.mark)
    (sym (end_in-body one.mark one.entries one.end_used) ∙ ap end_in bodies ∙ end_in-body other.mark other.entries other.end_used)

-- the text of a history is that history
IsHistory-text_of : (history : History) → IsSpellable history → IsHistory (text_of (history_lines history)) history
IsHistory-text_of history h =
    let preamble = history_preamble history in
    let heap : IsAbove 31 (heap_line preamble) = IsAbove-sentence (codes "heap" ∷ heap_words preamble) (heap_words-above preamble h.preamble) in
    let above : AllByRecursion (IsAbove 31) (map history_line (body history)) = history_lines-above history.form preamble (body history) (few_seats history h) (lines_of-body history h) in
    record { spelled = lines_of-text_of (history_lines history) (form_line-above history.version history.form h.preamble.version, (heap, above)); value = h }

-- so what was written is the history again
pub IsHistory-written : (history : History) (text : List ℕ) → text ≡ text_of (history_lines history) → IsSpellable history → IsHistory text history
IsHistory-written history text e h =
    let P : List ℕ → Type 0 = λ t. IsHistory t history in
    subst P (sym e) (IsHistory-text_of history h)
