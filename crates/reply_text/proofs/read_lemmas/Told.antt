-- The lines of a history tell its entries, its mark and its end.
use Rattle.std.proofs.Common.{◌≡◌, ℕ, ◌+◌, ◌<◌, ◌^◌, List, [], ◌∷◌, ◌++◌, Option, Some, None, append_assoc, drop, length, map, take, refl, ap, ◌∙◌, arith}
use Rattle.std.specs.List.{AllByRecursion}
use Rattle.std.proofs.lemmas.List.{append-nil, take-append-drop, length-take-le}
use Rattle.heap_model.specs.declared.entry.Entry.{Entry}
use Rattle.script_text.specs.declared.preamble.Preamble.{Preamble}
use Rattle.script_text.specs.declared.script.Form.{Form}
use Rattle.script_text.specs.declared.script.Form.TheVariants.{Play, Run}
use Rattle.reply_text.specs.declared.history.SpaceMark.{SpaceMark}
use Rattle.reply_text.specs.declared.history_line.HistoryLine.{HistoryLine}
use Rattle.reply_text.specs.declared.history_line.HistoryLine.TheVariants as lines
use Rattle.reply_text.specs.History.{MarkFits, lines_with_mark, space_line}
use Rattle.reply_text.specs.write.Lines.{history_line, IsHistoryLine}
use Rattle.reply_text.specs.read.LineWords.{line_of}
use Rattle.reply_text.proofs.read_lemmas.LinesReread.{line_of-history_line}

-- the entries among the lines
abbrev pub entries_in : List HistoryLine → List Entry
entries_in [] = []
entries_in (lines.Entry entry ∷ more) = entry ∷ entries_in more
entries_in (lines.Space used total spine budget ∷ more) = entries_in more
entries_in (lines.End used ∷ more) = entries_in more

entries_in-entries : (entries : List Entry) (more : List HistoryLine) → entries_in (map lines.Entry entries ++ more) ≡ entries ++ entries_in more
entries_in-entries [] more = refl
entries_in-entries (entry ∷ entries) more = ap (λ es. entry ∷ es) (entries_in-entries entries more)

pub entries_in-body : (mark : Option SpaceMark) (entries : List Entry) (used : ℕ) → entries_in (lines_with_mark mark entries ++ lines.End used ∷ []) ≡ entries
entries_in-body None entries used = entries_in-entries entries (lines.End used ∷ []) ∙ append-nil entries
entries_in-body (Some mark) entries used =
    rw (
      append_assoc (map lines.Entry (take mark.before entries)) (space_line mark ∷ map lines.Entry (drop mark.before entries)) (lines.End used ∷ []),
      entries_in-entries (take mark.before entries) (space_line mark ∷ map lines.Entry (drop mark.before entries) ++ lines.End used ∷ []),
      entries_in-entries (drop mark.before entries) (lines.End used ∷ []),
      append-nil (drop mark.before entries),
    ) (take-append-drop mark.before entries)

-- the mark among the lines, of which so many entries stand before them
abbrev pub mark_in : ℕ → List HistoryLine → Option SpaceMark
mark_in before [] = None
mark_in before (lines.Entry entry ∷ more) = mark_in (before + 1) more
mark_in before (lines.Space used total spine budget ∷ more) = Some (record { before = before; used = used; total = total; spine = spine; budget = budget })
mark_in before (lines.End used ∷ more) = None

mark_in-entries : (before : ℕ) (entries : List Entry) (more : List HistoryLine) → mark_in before (map lines.Entry entries ++ more) ≡ mark_in (before + length entries) more
mark_in-entries before [] more = ap (λ n. mark_in n more) (omega arith)
mark_in-entries before (entry ∷ entries) more = mark_in-entries (before + 1) entries more ∙ ap (λ n. mark_in n more) (omega arith)

pub mark_in-body : (form : Form) (mark : Option SpaceMark) (entries : List Entry) (used : ℕ) → MarkFits form (length entries) mark → mark_in 0 (lines_with_mark mark entries ++ lines.End used ∷ []) ≡ mark
mark_in-body form None entries used h = mark_in-entries 0 entries (lines.End used ∷ [])
mark_in-body Run (Some mark) entries used h = absurd h
mark_in-body Play (Some mark) entries used h =
    let position : 0 + length (take mark.before entries) ≡ mark.before = omega (arith, length-take-le mark.before entries h.0) in
    rw (
      append_assoc (map lines.Entry (take mark.before entries)) (space_line mark ∷ map lines.Entry (drop mark.before entries)) (lines.End used ∷ []),
      mark_in-entries 0 (take mark.before entries) (space_line mark ∷ map lines.Entry (drop mark.before entries) ++ lines.End used ∷ []),
      position,
    ) refl

-- the end among the lines
abbrev pub end_in : List HistoryLine → ℕ
end_in [] = 0
end_in (lines.Entry entry ∷ more) = end_in more
end_in (lines.Space used total spine budget ∷ more) = end_in more
end_in (lines.End used ∷ more) = used

end_in-entries : (entries : List Entry) (more : List HistoryLine) → end_in (map lines.Entry entries ++ more) ≡ end_in more
end_in-entries [] more = refl
end_in-entries (entry ∷ entries) more = end_in-entries entries more

pub end_in-body : (mark : Option SpaceMark) (entries : List Entry) (used : ℕ) → end_in (lines_with_mark mark entries ++ lines.End used ∷ []) ≡ used
end_in-body None entries used = end_in-entries entries (lines.End used ∷ [])
end_in-body (Some mark) entries used =
    rw (
      append_assoc (map lines.Entry (take mark.before entries)) (space_line mark ∷ map lines.Entry (drop mark.before entries)) (lines.End used ∷ []),
      end_in-entries (take mark.before entries) (space_line mark ∷ map lines.Entry (drop mark.before entries) ++ lines.End used ∷ []),
      end_in-entries (drop mark.before entries) (lines.End used ∷ []),
    ) refl

-- the values that are there
abbrev pub values_in : List (Option HistoryLine) → List HistoryLine
values_in [] = []
values_in (None ∷ more) = values_in more
values_in (Some line ∷ more) = line ∷ values_in more

-- the texts of lines tell the lines
pub lines-from_texts : (form : Form) (preamble : Preamble) (lines : List HistoryLine) → preamble.heap.seats < 2 ^ 8 → AllByRecursion (IsHistoryLine form preamble) lines →
    values_in (map (line_of form preamble) (map history_line lines)) ≡ lines
lines-from_texts form preamble [] few h = refl
lines-from_texts form preamble (line ∷ lines) few h =
    rw (line_of-history_line form preamble line few h.0) (ap (λ ls. line ∷ ls) (lines-from_texts form preamble lines few h.1))
