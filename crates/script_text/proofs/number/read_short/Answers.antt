use Rattle.std.proofs.Common.{◌≡◌, ◌^◌, Some, sym, arith}
use Rattle.script_text.specs.Numbers.{number_below}
use Rattle.script_text.proofs.Numbers.{number_below-decimal, number_below-Some, number_below-None}
use Rattle.script_text.proofs.number.read_short.Goals as goal

pub returns-in_default-clause-value : goal.returns-in_default-clause-value
returns-in_default-clause-value c = sym (number_below-None (10 ^ 10) c.args.word.now (λ n small e.
    let read : number_below (2 ^ 64) c.args.word.now ≡ Some n = rw e (number_below-decimal (2 ^ 64) n (omega arith) (omega arith)) in
    cc (read, c.in_default.ensures)))

pub returns-then-number-lt-TEN_DIGITS : goal.returns-then-number-lt-TEN_DIGITS
returns-then-number-lt-TEN_DIGITS c =
    let said = number_below-Some (2 ^ 64) c.in-Some.number c.args.word.now (sym c.in-Some.ensures) in
    record {
      value = rw said.0 (sym (number_below-decimal (10 ^ 10) c.in-Some.number (omega arith) (omega arith)));
      spelled = said.0;
    }

pub returns-else-number-lt-TEN_DIGITS-clause-value : goal.returns-else-number-lt-TEN_DIGITS-clause-value
returns-else-number-lt-TEN_DIGITS-clause-value c = sym (number_below-None (10 ^ 10) c.args.word.now (λ n small e.
    let read : number_below (2 ^ 64) c.args.word.now ≡ Some n = rw e (number_below-decimal (2 ^ 64) n (omega arith) (omega arith)) in
    let same : n ≡ c.in-Some.number = cc (read, c.in-Some.ensures) in
    omega arith))
