use Rattle.std.proofs.Common.{◌≡◌, map}
use Rattle.std.specs.List.{AllByRecursion, range_with_len}
use Rattle.script_text.specs.declared.script.Form.{Form}
use Rattle.script_text.specs.Grammar.{IsLine}
use Rattle.script_text.specs.Made.{made_line, state_before}
use Rattle.script_text.proofs.MadeLines.{made_preamble}
use Rattle.script_text.proofs.making.make_script.Given as goal

abbrev pub invariant-loop-number : goal.invariant-loop-number
invariant-loop-number l = record {
  made : l.made ≡ map (made_line l.start l.seats) (range_with_len 0 l.number);
  state : l.generator ≡ state_before l.start l.seats l.number;
  range : (form : Form) → AllByRecursion (IsLine form (made_preamble l.seats)) l.made;
}
