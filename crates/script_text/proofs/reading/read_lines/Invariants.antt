use Rattle.std.proofs.Common.{◌≡◌, ◌+◌, ◌≤◌, ◌++◌, map, length}
use Rattle.std.specs.List.{AllByRecursion}
use Rattle.script_text.specs.Faults.{lines_fault}
use Rattle.script_text.specs.Grammar.{most_lines}
use Rattle.script_text.specs.Text.{sentence}
use Rattle.script_text.proofs.reading.read_lines.Given as goal

abbrev pub invariant-loop-line : goal.invariant-loop-line
invariant-loop-line g l = record {
  counted : l.number ≡ length l.read + 2;
  few : l.number ≤ most_lines;
  range : AllByRecursion (g.G.Grammar.may_follow l.grammar l.preamble) l.read;
  found : l.fn.lines ≡ map (λ line. sentence (g.G.Grammar.line_words l.grammar line)) l.read ++ l.line-iterator;
  rest : lines_fault (g.G.Grammar.judge l.grammar) l.preamble 3 l.fn.lines ≡ lines_fault (g.G.Grammar.judge l.grammar) l.preamble (l.number + 1) l.line-iterator;
}
