use Rattle.std.proofs.Common.{◌≡◌, ◌+◌, ◌≤◌, ◌++◌, map, length}
use Rattle.reply_text.specs.read.Body.{IsBody, lines_read}
use Rattle.reply_text.specs.read.Stages.{first_stage}
use Rattle.reply_text.specs.read.Faults.{history_lines_fault}
use Rattle.reply_text.specs.History.{too_many}
use Rattle.reply_text.specs.write.Lines.{history_line}
use Rattle.reply_text.proofs.read.reading.read_body.Given as goal

abbrev pub invariant-loop-line : goal.invariant-loop-line
invariant-loop-line l = record {
  counted : l.number ≡ length (lines_read l.body) + 3;
  few : l.number ≤ too_many;
  range : IsBody l.form l.preamble l.body;
  found : l.fn.lines ≡ map history_line (lines_read l.body) ++ l.line-iterator;
  rest : history_lines_fault l.form l.preamble (first_stage l.form) 3 l.fn.lines ≡ history_lines_fault l.form l.preamble l.body.stage l.number l.line-iterator;
}
