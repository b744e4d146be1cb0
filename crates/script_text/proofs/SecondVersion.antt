-- What is written in version 2.
use Rattle.std.proofs.Common.{◌≡◌, ◌==◌, ℕ, ◌+◌, ◌≤◌, inl, inr, List, [], ◌∷◌, ◌++◌, length, codes, decimal, map, refl, sym, subst, append_assoc, ap, ◌∙◌, if◌then◌else◌}
use Rattle.std.specs.Fmt.{digits}
use Rattle.std.specs.List.{AllByRecursion}
use Rattle.heap_model.specs.declared.command.Command.{Command}
use Rattle.heap_model.specs.declared.command.Command.TheVariants.{Cas, Collect, Leave}
use Rattle.script_text.specs.declared.preamble.Preamble.{Preamble}
use Rattle.script_text.specs.declared.script.Form.{Form}
use Rattle.script_text.specs.declared.script.Form.TheVariants.{Play, Run}
use Rattle.script_text.specs.declared.script.Line.{Line}
use Rattle.script_text.specs.declared.script.Line.TheVariants as lines
use Rattle.script_text.specs.declared.script.Script.{Script}
use Rattle.script_text.specs.Commands.{version_commands}
use Rattle.script_text.specs.Grammar.{IsLine, IsScript, IsScripted}
use Rattle.script_text.specs.Migration.{IsEnded, MigratesScript, lines_in_second, migrated_script, migrated_script_text}
use Rattle.script_text.specs.Preamble.{IsPreamble, IsVersion}
use Rattle.script_text.specs.Text.{lines_of, sentence, text_of}
use Rattle.script_text.specs.Words.{heap_line, line_words, preamble_of, script_header, script_lines}
use Rattle.script_text.specs.Writing.{IsOfForm}
use Rattle.script_text.proofs.EndedTexts.{second_is_short, text_of_lines_is_ended}
use Rattle.script_text.proofs.Whole.{IsScript-written, same_script}

-- what the first two lines tell, in version 2
abbrev pub in_second : Preamble → Preamble
in_second preamble = record preamble { version = 2 }

decimal_32 : decimal 32 ≡ codes "32"
unfolding digits
decimal_32 = refl

-- a word more behind a sentence
sentence-snoc : (word : List ℕ) (words : List (List ℕ)) (last : List ℕ) → sentence (word ∷ words ++ last ∷ []) ≡ sentence (word ∷ words) ++ 32 ∷ last
sentence-snoc word [] last = refl
sentence-snoc word (next ∷ words) last =
    ap (λ (rest : List ℕ). word ++ 32 ∷ rest) (sentence-snoc next words last) ∙ sym (append_assoc word (32 ∷ sentence (next ∷ words)) (32 ∷ last))

-- the heap line in version 2
pub heap_line-in_second : (preamble : Preamble) → IsPreamble preamble →
    heap_line (in_second preamble) ≡ (if preamble.version == 2 then heap_line preamble else heap_line preamble ++ codes " 32")
heap_line-in_second preamble is = by is.version where
  by : IsVersion preamble.version → heap_line (in_second preamble) ≡ (if preamble.version == 2 then heap_line preamble else heap_line preamble ++ codes " 32")
  by (inl first) = rw (first, is.board first, decimal_32) (sentence-snoc (codes "heap") (decimal preamble.heap.groups ∷ decimal preamble.heap.spine ∷ decimal preamble.heap.seats ∷ []) (codes "32"))
  by (inr second) = rw second refl

-- it is one that a text of version 2 may have
pub preamble_in_second : (preamble : Preamble) → IsPreamble preamble → IsPreamble (in_second preamble)
preamble_in_second preamble is = record { version = inr refl; heap = is.heap; board = λ first. absurd (cc) }

scripted_in_second : (version : ℕ) (command : Command) → IsScripted (version_commands version) command → IsScripted (version_commands 2) command
scripted_in_second version (Cas r i a v) is = (refl, is.1)
scripted_in_second version Collect is = refl
scripted_in_second version Leave is = absurd is
scripted_in_second version _ is = is

line_in_second : (form : Form) (preamble : Preamble) (line : Line) → IsLine form preamble line → IsLine form (in_second preamble) line
line_in_second form preamble (lines.Seat seat command) is = (is.0, scripted_in_second preamble.version command is.1)
line_in_second Play preamble (lines.Turns command) is = is
line_in_second Run preamble (lines.Turns command) is = absurd is

lines_stay : (form : Form) (preamble : Preamble) (all : List Line) → AllByRecursion (IsLine form preamble) all → AllByRecursion (IsLine form (in_second preamble)) all
lines_stay form preamble [] are = tt
lines_stay form preamble (line ∷ all) are = (line_in_second form preamble line are.0, lines_stay form preamble all are.1)

-- a script is of its form in version 2 too
pub IsOfForm-migrated : (form : Form) (script : Script) → IsOfForm form script → IsOfForm form (migrated_script script)
IsOfForm-migrated form script is = record {
  preamble = preamble_in_second (preamble_of script) is.preamble;
  taken = refl;
  lines = lines_stay form (preamble_of script) script.lines is.lines;
  short = is.short;
}

script_lines-migrated : (script : Script) → IsPreamble (preamble_of script) → script_lines (migrated_script script) ≡ lines_in_second (codes "schism 2") script.version (script_lines script)
script_lines-migrated script is =
    ap (λ (heap : List ℕ). codes "schism 2" ∷ heap ∷ map (λ line. sentence (line_words line)) script.lines) (heap_line-in_second (preamble_of script) is)

header_is_as_long : (version : ℕ) → IsVersion version → length (codes "schism 2") ≡ length (script_header version)
header_is_as_long version (inl first) = rw first refl
header_is_as_long version (inr second) = rw second refl

second_stays : (script : Script) → script.version ≡ 2 → script_lines (migrated_script script) ≡ script_lines script
second_stays script second = ap (λ (version : ℕ). script_lines (record script { version = version })) (sym second)

-- migrating a text that spells a script
pub text_of_script_is_migrated : (form : Form) (text : List ℕ) (script : Script) → IsScript form text script → MigratesScript form text script
text_of_script_is_migrated form text script h =
    let is = h.told.preamble in
    let written : migrated_script_text script ≡ text_of (lines_in_second (codes "schism 2") script.version (lines_of text)) =
    ap text_of (script_lines-migrated script is) ∙ ap (λ ls. text_of (lines_in_second (codes "schism 2") script.version ls)) (sym h.spelled) in
    let reads : IsScript form (migrated_script_text script) (migrated_script script) =
    IsScript-written form (migrated_script script) (migrated_script_text script) refl (IsOfForm-migrated form script h.told) in
    let short = second_is_short (codes "schism 2") (script_header script.version) (heap_line (preamble_of script)) (map (λ line. sentence (line_words line)) script.lines)
    script.version text h.spelled (header_is_as_long script.version is.version) in
    record {
      written = written;
      reads = reads;
      again = λ other same. ap migrated_script_text (same_script form (migrated_script_text script) other (migrated_script script) same reads);
      stays = λ second. subst (λ (ls : List (List ℕ)). IsEnded text (text_of ls)) (h.spelled ∙ sym (second_stays script second)) (text_of_lines_is_ended text);
      room = subst (λ (ls : List (List ℕ)). length (text_of ls) ≤ length text + 4) (sym (script_lines-migrated script is)) short;
    }
