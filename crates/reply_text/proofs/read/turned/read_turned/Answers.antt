use Rattle.reply_text.proofs.read.turned.read_turned.Goals as goal

pub returns-in-turns-clause-range : goal.returns-in-turns-clause-range
returns-in-turns-clause-range c = λ preamble. rw c.in-Play.is (c.read_turns.ensures.range preamble)

pub returns-in-cycle-clause-range : goal.returns-in-cycle-clause-range
returns-in-cycle-clause-range c = λ preamble. rw c.in-Play.is (c.read_cycle.ensures.range preamble)
