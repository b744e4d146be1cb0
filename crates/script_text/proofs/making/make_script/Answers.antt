use Rattle.std.proofs.Common.{arith}
use Rattle.script_text.specs.declared.script.Form.{Form}
use Rattle.script_text.specs.declared.script.Form.TheVariants.{Play, Run}
use Rattle.script_text.specs.Made.{made_heap}
use Rattle.script_text.specs.Writing.{IsOfForm}
use Rattle.script_text.proofs.MadeLines.{lines_before_next, state_before_next, made_lines_stay_in_grammar, IsOfForm-made}
use Rattle.script_text.proofs.making.make_script.Goals as goal

pub loop-number-preserved : goal.loop-number-preserved
loop-number-preserved c =
    let before = c.loop-number.invariant in
    record {
      made = lines_before_next c.args.start c.args.seats c.loop-number.number _ _ _ _ before.made before.state c.line.ensures.made c.in_ok-push.ensures.ok;
      state = state_before_next c.args.start c.args.seats c.loop-number.number _ _ before.state c.line.ensures.state;
      range = λ form. made_lines_stay_in_grammar form c.args.seats c.loop-number.number _ _ _ _ c.requires.seats.0 c.line.ensures.range c.line.ensures.made c.in_ok-push.ensures.ok (before.range form);
    }

of_form : (c : goal.After-loop-number) (form : Form) → IsOfForm form (record { version = 1; heap = made_heap c.args.seats; lines = c.loop-number.made })
of_form c form = IsOfForm-made form c.args.start c.args.seats c.loop-number.number _ c.requires.seats (omega arith) c.loop-number.invariant.made (c.loop-number.invariant.range form)

pub returns-clause-play : goal.returns-clause-play
returns-clause-play c = of_form c Play

pub returns-clause-run : goal.returns-clause-run
returns-clause-run c = of_form c Run
