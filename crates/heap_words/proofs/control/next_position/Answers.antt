use Rattle.std.proofs.Common.{sym, rules}
use Rattle.heap_words.proofs.Positions.{no_bit_no_next_position, lowest_bit_is_next_position}
use Rattle.heap_words.proofs.control.next_position.Goals as goal

pub returns-then-rest-eq0 : goal.returns-then-rest-eq0
returns-then-rest-eq0 c = sym (no_bit_no_next_position c.args.bits c.args.from c.ranges.bits.fits (search rules) (search rules))

pub returns : goal.returns
returns c = sym (lowest_bit_is_next_position c.args.bits c.args.from c.ranges.bits.fits (search rules) (search rules))
