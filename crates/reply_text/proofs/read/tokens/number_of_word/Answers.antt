use Rattle.std.proofs.Common.{◌^◌, ◌+◌, sym, arith}
use Rattle.script_text.proofs.Numbers.{number_below-Some}
use Rattle.reply_text.proofs.read_lemmas.Limits.{number_below-lower_None, number_below-lower_Some, number_below-past}
use Rattle.reply_text.proofs.read.tokens.number_of_word.Goals as goal

pub returns-in_default-clause-gives : goal.returns-in_default-clause-gives
returns-in_default-clause-gives c = number_below-lower_None (c.args.most + 1) (2 ^ 64) c.args.word.now (omega arith) (omega arith) (sym c.in_default.ensures)

pub returns-then-number-most-clause-found : goal.returns-then-number-most-clause-found
returns-then-number-most-clause-found c = (number_below-Some (2 ^ 64) c.in-Some.number c.args.word.now (sym c.in-Some.ensures)).0

pub returns-then-number-most-clause-gives : goal.returns-then-number-most-clause-gives
returns-then-number-most-clause-gives c =
    number_below-lower_Some (c.args.most + 1) (2 ^ 64) c.in-Some.number c.args.word.now (omega arith) (sym c.in-Some.ensures) (omega arith)

pub returns-else-number-most-clause-gives : goal.returns-else-number-most-clause-gives
returns-else-number-most-clause-gives c =
    number_below-past (c.args.most + 1) (2 ^ 64) c.in-Some.number c.args.word.now (omega arith) (sym c.in-Some.ensures) (omega arith)
