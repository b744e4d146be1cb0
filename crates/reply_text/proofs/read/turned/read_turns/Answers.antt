use Rattle.std.proofs.Common.{arith}
use Rattle.reply_text.proofs.read.turned.read_turns.Goals as goal

pub returns-clause-range : goal.returns-clause-range
returns-clause-range c = λ preamble. (omega (arith, c.in_ok-n.ensures.range), c.in_ok-reply.ensures.range c.in_ok-n.field-0)
