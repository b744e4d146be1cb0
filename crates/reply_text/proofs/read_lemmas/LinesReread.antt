-- The lines that were spelled have no fault, and tell the history.
use Rattle.std.proofs.Common.{◌≡◌, ◌==◌, ℕ, ◌+◌, ◌<◌, ◌≤◌, ◌^◌, List, [], ◌∷◌, ◌++◌, false, Option, Some, None, append_assoc, drop, length, map, take, refl, sym, subst, arith}
use Rattle.std.specs.List.{AllByRecursion}
use Rattle.std.proofs.lemmas.Grind.{common_steps}
use Rattle.std.proofs.lemmas.List.{take-append-drop}
use Rattle.heap_model.specs.declared.entry.Entry.{Entry}
use Rattle.script_text.specs.declared.cause.LineFault.{LineFault}
use Rattle.script_text.specs.declared.preamble.Preamble.{Preamble}
use Rattle.script_text.specs.declared.script.Form.{Form}
use Rattle.script_text.specs.declared.script.Form.TheVariants.{Play, Run}
use Rattle.script_text.specs.Text.{sentence}
use Rattle.script_text.proofs.Tokens.{IsAbove, IsAbove-sentence, words_of-sentence}
use Rattle.reply_text.specs.declared.history.SpaceMark.{SpaceMark}
use Rattle.reply_text.specs.declared.history_line.HistoryLine.{HistoryLine}
use Rattle.reply_text.specs.declared.history_line.HistoryLine.TheVariants as lines
use Rattle.reply_text.specs.declared.read.stage.Stage.{Stage}
use Rattle.reply_text.specs.declared.read.stage.Stage.TheVariants.{Unmarked, Marked, Ended}
use Rattle.reply_text.specs.read.Stages.{after_line, first_stage}
use Rattle.reply_text.specs.read.Faults.{end_fault, history_line_fault, history_lines_fault}
use Rattle.reply_text.specs.History.{MarkFits, lines_with_mark, space_line, too_many}
use Rattle.reply_text.specs.write.Lines.{history_line, history_words, IsHistoryLine}
use Rattle.reply_text.specs.read.LineWords.{line_at, line_of}
use Rattle.reply_text.specs.read.Tokens.{◌>>=◌}
use Rattle.reply_text.specs.Written.{IsWritten}
use Rattle.reply_text.proofs.read_lemmas.LineReread.{line_at-words}
use Rattle.reply_text.proofs.write_lemmas.WordsAbove.{AreWords, line_words_are_above}

line_of-sentence : (form : Form) (preamble : Preamble) (words : List (List ℕ)) (line : HistoryLine) → AreWords words → line_at form preamble words ≡ Some (line, []) → line_of form preamble (sentence words) ≡ Some line
unfolding line_of
line_of-sentence form preamble [] line f e = cc
line_of-sentence form preamble (word ∷ words) line f e = rw (words_of-sentence word words f, e) refl

-- a line that was spelled is that line
pub line_of-history_line : (form : Form) (preamble : Preamble) (line : HistoryLine) → preamble.heap.seats < 2 ^ 8 → IsHistoryLine form preamble line → line_of form preamble (history_line line) ≡ Some line
line_of-history_line form preamble line few h = line_of-sentence form preamble (history_words line) line (line_words_are_above form preamble line few h) (line_at-words form preamble line few h)

-- where the lines lead
abbrev pub follow : Stage → List HistoryLine → Option Stage
follow stage [] = Some stage
follow stage (line ∷ lines) = after_line stage line >>= λ next. follow next lines

step-none : (number : ℕ) (led : Option Stage) (lines : List HistoryLine) (rest : Stage → Option LineFault) → number < too_many →
    (led >>= λ next. follow next lines) ≡ Some Ended → ((next : Stage) → follow next lines ≡ Some Ended → rest next ≡ None) → history_line_fault number led rest ≡ None
step-none number None lines rest early e none = cc
step-none number (Some next) lines rest early e none =
    let is : (number == too_many) ≡ false = grind (arith, common_steps) in
    rw is (none next e)

end_fault-none : (stage : Stage) (number : ℕ) → ◌≡◌ {A = Option Stage} (Some stage) (Some Ended) → end_fault stage number ≡ None
end_fault-none Unmarked number e = cc
end_fault-none Marked number e = cc
end_fault-none Ended number e = refl

-- lines that lead to the end have no fault
pub lines_fault-none : (form : Form) (preamble : Preamble) (stage : Stage) (number : ℕ) (lines : List HistoryLine) → preamble.heap.seats < 2 ^ 8 → AllByRecursion (IsHistoryLine form preamble) lines →
    follow stage lines ≡ Some Ended → number + length lines ≤ too_many → history_lines_fault form preamble stage number (map history_line lines) ≡ None
lines_fault-none form preamble stage number [] few h e short = end_fault-none stage number e
lines_fault-none form preamble stage number (line ∷ lines) few h e short =
    rw (line_of-history_line form preamble line few h.0)
    (step-none number (after_line stage line) lines (λ next. history_lines_fault form preamble next (number + 1) (map history_line lines)) (omega arith) e
    (λ next led. lines_fault-none form preamble next (number + 1) lines few h.1 led (omega arith)))

follow-entries : (stage : Stage) (entries : List Entry) (more : List HistoryLine) → ((entry : Entry) → after_line stage (lines.Entry entry) ≡ Some stage) →
    follow stage (map lines.Entry entries ++ more) ≡ follow stage more
follow-entries stage [] more stays = refl
follow-entries stage (entry ∷ entries) more stays = rw (stays entry) (follow-entries stage entries more stays)

-- the lines of a history lead to the end
pub follow-body : (form : Form) (count : ℕ) (mark : Option SpaceMark) (entries : List Entry) (used : ℕ) → MarkFits form count mark →
    follow (first_stage form) (lines_with_mark mark entries ++ lines.End used ∷ []) ≡ Some Ended
follow-body Play count None entries used h = absurd h
follow-body Play count (Some mark) entries used h =
    rw (
      append_assoc (map lines.Entry (take mark.before entries)) (space_line mark ∷ map lines.Entry (drop mark.before entries)) (lines.End used ∷ []),
      follow-entries Unmarked (take mark.before entries) (space_line mark ∷ map lines.Entry (drop mark.before entries) ++ lines.End used ∷ []) (λ entry. refl),
      follow-entries Marked (drop mark.before entries) (lines.End used ∷ []) (λ entry. refl),
    ) refl
follow-body Run count None entries used h = rw (follow-entries Marked entries (lines.End used ∷ []) (λ entry. refl)) refl
follow-body Run count (Some mark) entries used h = absurd h

-- what holds of each element of two lists, and of their entries as lines
all_joined : {A : Type 0} (P : A → Type 0) (xs ys : List A) → AllByRecursion P xs → AllByRecursion P ys → AllByRecursion P (xs ++ ys)
all_joined P [] ys f g = g
all_joined P (x ∷ xs) ys f g = (f.0, all_joined P xs ys f.1 g)

all_parted : {A : Type 0} (P : A → Type 0) (xs ys : List A) → AllByRecursion P (xs ++ ys) → AllByRecursion P xs × AllByRecursion P ys
all_parted P [] ys f = (tt, f)
all_parted P (x ∷ xs) ys f = let parts = all_parted P xs ys f.1 in ((f.0, parts.0), parts.1)

entry_lines : (form : Form) (preamble : Preamble) (entries : List Entry) → AllByRecursion (IsWritten form preamble) entries → AllByRecursion (IsHistoryLine form preamble) (map lines.Entry entries)
entry_lines form preamble [] f = tt
entry_lines form preamble (entry ∷ entries) f = (f.0, entry_lines form preamble entries f.1)

marked_lines : (form : Form) (preamble : Preamble) (count : ℕ) (mark : Option SpaceMark) (entries : List Entry) → AllByRecursion (IsWritten form preamble) entries → MarkFits form count mark →
    AllByRecursion (IsHistoryLine form preamble) (lines_with_mark mark entries)
marked_lines Play preamble count None entries f h = absurd h
marked_lines Play preamble count (Some mark) entries f h =
    let P : List Entry → Type 0 = λ es. AllByRecursion (IsWritten Play preamble) es in
    let parts = all_parted (IsWritten Play preamble) (take mark.before entries) (drop mark.before entries) (subst P (sym (take-append-drop mark.before entries)) f) in
    all_joined (IsHistoryLine Play preamble) (map lines.Entry (take mark.before entries)) (space_line mark ∷ map lines.Entry (drop mark.before entries))
    (entry_lines Play preamble (take mark.before entries) parts.0) (h.1, entry_lines Play preamble (drop mark.before entries) parts.1)
marked_lines Run preamble count None entries f h = entry_lines Run preamble entries f
marked_lines Run preamble count (Some mark) entries f h = absurd h

-- the lines of a history are lines that it may have
pub body_is_history_lines : (form : Form) (preamble : Preamble) (count : ℕ) (mark : Option SpaceMark) (entries : List Entry) (used : ℕ) → AllByRecursion (IsWritten form preamble) entries → MarkFits form count mark → used < 2 ^ 64 →
    AllByRecursion (IsHistoryLine form preamble) (lines_with_mark mark entries ++ lines.End used ∷ [])
body_is_history_lines form preamble count mark entries used f h small =
    all_joined (IsHistoryLine form preamble) (lines_with_mark mark entries) (lines.End used ∷ []) (marked_lines form preamble count mark entries f h) (small, tt)

-- and none has a line feed
pub history_lines-above : (form : Form) (preamble : Preamble) (lines : List HistoryLine) → preamble.heap.seats < 2 ^ 8 → AllByRecursion (IsHistoryLine form preamble) lines → AllByRecursion (IsAbove 31) (map history_line lines)
history_lines-above form preamble [] few h = tt
history_lines-above form preamble (line ∷ lines) few h =
    (IsAbove-sentence (history_words line) (line_words_are_above form preamble line few h.0), history_lines-above form preamble lines few h.1)
