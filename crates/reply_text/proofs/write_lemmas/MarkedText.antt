-- The text of entries with a space line among them.
use Rattle.std.proofs.Common.{◌≡◌, ℕ, List, [], ◌∷◌, ◌++◌, append_assoc, drop, length, map, min, take, Some, refl, sym, ◌∙◌, ap}
use Rattle.std.proofs.lemmas.List.{drop_min, map-append, take_min}
use Rattle.std.proofs.lemmas.List.Concat.{flat_map-append}
use Rattle.heap_model.specs.declared.entry.Entry.{Entry}
use Rattle.script_text.specs.Text.{text_of}
use Rattle.reply_text.specs.declared.history.SpaceMark.{SpaceMark}
use Rattle.reply_text.specs.declared.history_line.HistoryLine.TheVariants as lines
use Rattle.reply_text.specs.History.{lines_with_mark, space_line}
use Rattle.reply_text.specs.write.Lines.{history_line}

-- the text of entries
abbrev pub entries_text : List Entry → List ℕ
entries_text entries = text_of (map history_line (map lines.Entry entries))

-- it is that of those before, of the space line, and of those after
marked_parts : (mark : SpaceMark) (entries : List Entry) →
    text_of (map history_line (lines_with_mark (Some mark) entries)) ≡ entries_text (take mark.before entries) ++ ((history_line (space_line mark) ++ 10 ∷ []) ++ entries_text (drop mark.before entries))
marked_parts mark entries =
    rw (
      map-append history_line (map lines.Entry (take mark.before entries)) (space_line mark ∷ map lines.Entry (drop mark.before entries)),
      flat_map-append (λ line. line ++ 10 ∷ []) (map history_line (map lines.Entry (take mark.before entries))) (map history_line (space_line mark ∷ map lines.Entry (drop mark.before entries))),
    ) refl

-- so three parts that are written one after the other are it
pub written_marks_are_whole : (mark : SpaceMark) (entries front back : List Entry) (text first second third : List ℕ) →
    front ≡ take (min mark.before (length entries)) entries → back ≡ drop (min mark.before (length entries)) entries →
    first ≡ text ++ entries_text front → second ≡ first ++ (history_line (space_line mark) ++ 10 ∷ []) → third ≡ second ++ entries_text back →
    third ≡ text ++ text_of (map history_line (lines_with_mark (Some mark) entries))
written_marks_are_whole mark entries front back text first second third e f g h i =
    let before : front ≡ take mark.before entries = e ∙ take_min mark.before entries in
    let after : back ≡ drop mark.before entries = f ∙ drop_min mark.before entries in
    i ∙ ap (λ t. t ++ entries_text back) h ∙ ap (λ t. (t ++ (history_line (space_line mark) ++ 10 ∷ [])) ++ entries_text back) g
    ∙ append_assoc (text ++ entries_text front) (history_line (space_line mark) ++ 10 ∷ []) (entries_text back)
    ∙ append_assoc text (entries_text front) ((history_line (space_line mark) ++ 10 ∷ []) ++ entries_text back)
    ∙ ap (λ (es : List Entry). text ++ (entries_text es ++ ((history_line (space_line mark) ++ 10 ∷ []) ++ entries_text back))) before
    ∙ ap (λ (es : List Entry). text ++ (entries_text (take mark.before entries) ++ ((history_line (space_line mark) ++ 10 ∷ []) ++ entries_text es))) after
    ∙ ap (λ (t : List ℕ). text ++ t) (sym (marked_parts mark entries))
