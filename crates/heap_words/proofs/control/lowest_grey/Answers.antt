use Rattle.std.proofs.Common.{sym, rules}
use Rattle.heap_words.proofs.Grey.{no_bit_no_grey, lowest_bit_is_lowest_grey}
use Rattle.heap_words.proofs.control.lowest_grey.Goals as goal

pub returns-then-grey-eq0 : goal.returns-then-grey-eq0
returns-then-grey-eq0 c = sym (no_bit_no_grey c.args.word c.ranges.word.fits (search rules))

pub returns : goal.returns
returns c = rw c.read-group.ensures (sym (lowest_bit_is_lowest_grey c.args.word c.ranges.word.fits (search rules)))
