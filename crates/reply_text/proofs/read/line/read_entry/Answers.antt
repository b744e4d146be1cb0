use Rattle.reply_text.proofs.read.line.read_entry.Goals as goal

pub returns-then-eq-clause-range : goal.returns-then-eq-clause-range
returns-then-eq-clause-range c = c.read_collector.ensures.range c.args.preamble.now
