use Rattle.std.proofs.Common.{◌≡◌, take}
use Rattle.script_text.specs.Text.{text_of}
use Rattle.script_text.specs.Words.{line_words, preamble_of, script_header, text_lines}
use Rattle.script_text.proofs.text.write.Given as goal

abbrev pub invariant-loop-line : goal.invariant-loop-line
invariant-loop-line l = l.text.items ≡ text_of (text_lines (script_header l.script.version) line_words (preamble_of l.script) (take l.line-index l.line-items))
