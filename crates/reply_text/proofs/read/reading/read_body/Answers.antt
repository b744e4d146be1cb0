use Rattle.std.proofs.Common.{refl, arith, rules}
use Rattle.reply_text.proofs.read.reading.read_body.Goals as goal

pub loop-line-init : goal.loop-line-init
loop-line-init c = record {
  counted = rw c.new-body.ensures.empty refl;
  few = omega arith;
  range = c.new-body.ensures.range c.args.preamble.now;
  found = rw c.new-body.ensures.empty (search rules);
  rest = rw c.new-body.ensures.stage (search rules);
}

pub returns-in_err-add_line-clause-fault : goal.returns-in_err-add_line-clause-fault
returns-in_err-add_line-clause-fault c =
    let fault = c.in_err-add_line.ensures.fault c.next.new.self in
    search rules
