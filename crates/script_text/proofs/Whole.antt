-- A text that is a script has no fault, and is no other script.
use Rattle.std.proofs.Common.{◌≡◌, ℕ, inl, inr, List, Some, None, codes, decimal, refl}
use Rattle.script_text.specs.declared.preamble.Preamble.{Preamble}
use Rattle.script_text.specs.declared.script.Form.{Form}
use Rattle.script_text.specs.declared.script.Line.{Line}
use Rattle.script_text.specs.declared.script.Line.TheVariants as lines
use Rattle.script_text.specs.declared.script.Script.{Script}
use Rattle.script_text.specs.Faults.{first_fault}
use Rattle.script_text.specs.Grammar.{IsLine, IsScript}
use Rattle.script_text.specs.LineFaults.{script_judge, script_version}
use Rattle.script_text.specs.Preamble.{IsPreamble, IsVersion}
use Rattle.script_text.specs.Text.{sentence, text_of, words_of}
use Rattle.script_text.specs.Words.{command_words, line_words, preamble_of, script_header, script_lines, turn_words}
use Rattle.script_text.specs.Writing.{IsOfForm}
use Rattle.script_text.proofs.Decoded.{line_of, line_of-words}
use Rattle.script_text.proofs.NoFault.{words_fault-none}
use Rattle.script_text.proofs.Texts.{IsReadable, IsText-written, equal_texts_tell_one_list, equal_texts_tell_one_preamble, text_fault-none}
use Rattle.script_text.proofs.Tokens.{IsAbove, IsAbove-from_test, words_of-sentence}
use Rattle.script_text.proofs.WordBytes.{line_words-above}

-- the words of a line that was spelled
words_of-line : (form : Form) (preamble : Preamble) (line : Line) → IsPreamble preamble → IsLine form preamble line → words_of (sentence (line_words line)) ≡ line_words line
words_of-line form preamble (lines.Seat seat command) is h =
    words_of-sentence (decimal seat) (command_words command) (line_words-above form preamble (lines.Seat seat command) is h)
words_of-line form preamble (lines.Turns command) is h =
    words_of-sentence (codes "c") (turn_words command) (line_words-above form preamble (lines.Turns command) is h)

script_header-above : (version : ℕ) → IsVersion version → IsAbove 31 (script_header version)
script_header-above version (inl first) = rw first (IsAbove-from_test 31 (codes "schism 1") refl)
script_header-above version (inr second) = rw second (IsAbove-from_test 31 (codes "schism 2") refl)

script_version-header : (version : ℕ) → IsVersion version → script_version (script_header version) ≡ Some version
script_version-header version (inl first) = rw first refl
script_version-header version (inr second) = rw second refl

script_is_readable : (form : Form) → IsReadable (script_judge form) script_header line_words (IsLine form) IsVersion
script_is_readable form = record {
  header_above = script_header-above;
  header_told = script_version-header;
  above = line_words-above form;
  again = words_of-line form;
  faultless = words_fault-none form;
  tell = line_of;
  told = line_of-words form;
}

-- a script has no fault
pub first_fault-none : (form : Form) (text : List ℕ) (script : Script) → IsScript form text script → first_fault form text ≡ None
first_fault-none form text script h = text_fault-none Line (script_judge form) script_header line_words (IsLine form) IsVersion (script_is_readable form) text (preamble_of script) script.lines h.told.preamble.version h

same_parts : (one other : Script) → preamble_of one ≡ preamble_of other → one.lines ≡ other.lines → one ≡ other
same_parts one other e f = λ i. record { version = (e i).version; heap = (e i).heap; lines = f i }

-- two scripts of one text are one
pub same_script : (form : Form) (text : List ℕ) (one other : Script) → IsScript form text one → IsScript form text other → one ≡ other
same_script form text one other f g =
    same_parts one other
    (equal_texts_tell_one_preamble Line (script_judge form) script_header line_words (IsLine form) IsVersion (script_is_readable form) text (preamble_of one) (preamble_of other) one.lines other.lines f.told.preamble.version g.told.preamble.version f g)
    (equal_texts_tell_one_list Line (script_judge form) script_header line_words (IsLine form) IsVersion (script_is_readable form) text (preamble_of one) (preamble_of other) one.lines other.lines f g)

-- what was written of a script is the script again
pub IsScript-written : (form : Form) (script : Script) (text : List ℕ) → text ≡ text_of (script_lines script) → IsOfForm form script → IsScript form text script
IsScript-written form script text e h = IsText-written Line (script_judge form) script_header line_words (IsLine form) IsVersion (script_is_readable form) text (preamble_of script) script.lines h.preamble.version e h
