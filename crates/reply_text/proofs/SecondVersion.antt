-- What is written of a history in version 2.
use Rattle.std.proofs.Common.{◌≡◌, ◌∙◌, ℕ, ◌+◌, ◌≤◌, inl, inr, List, [], ◌∷◌, length, map, refl, sym, subst, ap}
use Rattle.std.specs.List.{AllByRecursion}
use Rattle.heap_model.specs.declared.command.Command.{Command}
use Rattle.heap_model.specs.declared.command.Command.TheVariants.{Cas}
use Rattle.heap_model.specs.declared.entry.Entry.{Entry}
use Rattle.heap_model.specs.declared.entry.Entry.TheVariants as entries
use Rattle.script_text.specs.declared.preamble.Preamble.{Preamble}
use Rattle.script_text.specs.declared.script.Form.{Form}
use Rattle.script_text.specs.declared.script.Form.TheVariants.{Play, Run}
use Rattle.script_text.specs.Migration.{IsEnded, lines_in_second}
use Rattle.script_text.specs.Preamble.{IsVersion}
use Rattle.script_text.specs.Text.{lines_of, text_of}
use Rattle.script_text.specs.Words.{heap_line}
use Rattle.script_text.proofs.EndedTexts.{second_is_short, text_of_lines_is_ended}
use Rattle.script_text.proofs.SecondVersion.{heap_line-in_second, in_second, preamble_in_second}
use Rattle.reply_text.specs.declared.history.History.{History}
use Rattle.reply_text.specs.History.{IsHistory, IsSpellable, body, form_line, history_lines, history_preamble}
use Rattle.reply_text.specs.Migration.{MigratesHistory, migrated_history, migrated_history_text}
use Rattle.reply_text.specs.write.Lines.{history_line}
use Rattle.reply_text.specs.Written.{HasText, IsSpelled, IsWritten}
use Rattle.reply_text.proofs.Whole.{IsHistory-written, equal_texts_same_history}

spelled_in_second : (version : ℕ) (command : Command) → IsSpelled version command → IsSpelled 2 command
spelled_in_second version (Cas r i a v) is = refl
spelled_in_second version _ is = tt

entry_in_second : (form : Form) (preamble : Preamble) (entry : Entry) → IsWritten form preamble entry → IsWritten form (in_second preamble) entry
entry_in_second form preamble (entries.Said seat command reply) is = (is.0, is.1, is.2, spelled_in_second preamble.version command is.3)
entry_in_second form preamble (entries.Takes seat count) is = is
entry_in_second form preamble (entries.GivesBack seat count) is = is
entry_in_second form preamble (entries.Answers seat phase) is = is
entry_in_second form preamble (entries.Advance phase) is = is
entry_in_second form preamble (entries.Frees count) is = is
entry_in_second form preamble (entries.Returns count) is = is
entry_in_second form preamble (entries.Swings id) is = is
entry_in_second form preamble (entries.Ends cycle kept) is = is
entry_in_second Play preamble (entries.Turned command reply) is = is
entry_in_second Run preamble (entries.Turned command reply) is = absurd is

-- each entry that has a text has one in version 2
has_text_in_second : (version : ℕ) (entry : Entry) → HasText version entry → HasText 2 entry
has_text_in_second version (entries.Said seat command reply) is = spelled_in_second version command is
has_text_in_second version _ is = tt

pub all_have_text_in_second : (version : ℕ) (all : List Entry) → AllByRecursion (HasText version) all → AllByRecursion (HasText 2) all
all_have_text_in_second version [] are = tt
all_have_text_in_second version (entry ∷ all) are = (has_text_in_second version entry are.0, all_have_text_in_second version all are.1)

entries_stay : (form : Form) (preamble : Preamble) (all : List Entry) → AllByRecursion (IsWritten form preamble) all → AllByRecursion (IsWritten form (in_second preamble)) all
entries_stay form preamble [] are = tt
entries_stay form preamble (entry ∷ all) are = (entry_in_second form preamble entry are.0, entries_stay form preamble all are.1)

-- a history has a text in version 2 too
IsSpellable-migrated : (history : History) → IsSpellable history → IsSpellable (migrated_history history)
IsSpellable-migrated history is = record {
  preamble = preamble_in_second (history_preamble history) is.preamble;
  entries = entries_stay history.form (history_preamble history) history.entries is.entries;
  mark = is.mark;
  end_used = is.end_used;
  short = is.short;
}

history_lines-migrated : (history : History) → IsSpellable history → history_lines (migrated_history history) ≡ lines_in_second (form_line 2 history.form) history.version (history_lines history)
history_lines-migrated history is =
    ap (λ (heap : List ℕ). form_line 2 history.form ∷ heap ∷ map history_line (body history)) (heap_line-in_second (history_preamble history) is.preamble)

form_line_is_as_long : (version : ℕ) (form : Form) → IsVersion version → length (form_line 2 form) ≡ length (form_line version form)
form_line_is_as_long version Play (inl first) = rw first refl
form_line_is_as_long version Run (inl first) = rw first refl
form_line_is_as_long version Play (inr second) = rw second refl
form_line_is_as_long version Run (inr second) = rw second refl

second_stays : (history : History) → history.version ≡ 2 → history_lines (migrated_history history) ≡ history_lines history
second_stays history second = ap (λ (version : ℕ). history_lines (record history { version = version })) (sym second)

-- migrating a text that spells a history
pub text_of_history_is_migrated : (text : List ℕ) (history : History) → IsHistory text history → MigratesHistory text history
text_of_history_is_migrated text history h =
    let is = h.value.preamble in
    let lines = history_lines-migrated history h.value in
    let written : migrated_history_text history ≡ text_of (lines_in_second (form_line 2 history.form) history.version (lines_of text)) =
    ap text_of lines ∙ ap (λ ls. text_of (lines_in_second (form_line 2 history.form) history.version ls)) (sym h.spelled) in
    let reads : IsHistory (migrated_history_text history) (migrated_history history) =
    IsHistory-written (migrated_history history) (migrated_history_text history) refl (IsSpellable-migrated history h.value) in
    let short = second_is_short (form_line 2 history.form) (form_line history.version history.form) (heap_line (history_preamble history)) (map history_line (body history))
    history.version text h.spelled (form_line_is_as_long history.version history.form is.version) in
    record {
      written = written;
      reads = reads;
      again = λ other same. ap migrated_history_text (equal_texts_same_history (migrated_history_text history) other (migrated_history history) same reads);
      stays = λ second. subst (λ (ls : List (List ℕ)). IsEnded text (text_of ls)) (h.spelled ∙ sym (second_stays history second)) (text_of_lines_is_ended text);
      room = subst (λ (ls : List (List ℕ)). length (text_of ls) ≤ length text + 4) (sym lines) short;
    }
