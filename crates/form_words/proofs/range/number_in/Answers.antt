use Rattle.std.proofs.Common.{◌≡◌, ◌^◌, Some, sym, ap, ◌∙◌, arith}
use Rattle.script_text.specs.Numbers.{number_below}
use Rattle.script_text.proofs.Numbers.{number_below-Some}
use Rattle.form_words.proofs.RangeNumbers.{no_number_is_not_within, outside_is_not_within}
use Rattle.form_words.proofs.range.number_in.Goals as goal
use Rattle.form_words.proofs.range.number_in.Goals.{else-from-number-via-then-from-number+else-number-from, else-from-number-via-else-from-number}

pub returns-in_default-clause-none : goal.returns-in_default-clause-none
returns-in_default-clause-none c = no_number_is_not_within c.args.word.now c.read_number.result c.args.least c.args.most c.ranges.most.fits (c.read_number.ensures ∙ ap (number_below (2 ^ 64)) c.as_bytes.ensures.value) c.in_default.is

pub returns-then-number-from-clause-some : goal.returns-then-number-from-clause-some
returns-then-number-from-clause-some c =
    let told : number_below (2 ^ 64) c.args.word.now ≡ Some c.in-Some.number = ap (number_below (2 ^ 64)) (sym c.as_bytes.ensures.value) ∙ sym c.read_number.ensures ∙ c.in-Some.is in
    ((number_below-Some (2 ^ 64) c.in-Some.number c.args.word.now told).0, omega (arith, c.from.ensures, c.if-from-number.true), omega (arith, c.from-then-from-number.ensures, c.if-number-from.true))

pub returns-else-from-number-clause-none : goal.returns-else-from-number-clause-none
returns-else-from-number-clause-none c =
    let told : Some c.in-Some.number ≡ number_below (2 ^ 64) c.args.word.now = sym c.in-Some.is ∙ c.read_number.ensures ∙ ap (number_below (2 ^ 64)) c.as_bytes.ensures.value in
    outside_is_not_within c.args.word.now c.in-Some.number c.args.least c.args.most c.ranges.most.fits told (λ above below. elim c.else-from-number.branch [
      | else-from-number-via-then-from-number+else-number-from w ↦ omega (arith, below, w.from-then-from-number.ensures, w.if-number-from.false)
      | else-from-number-via-else-from-number w ↦ omega (arith, above, c.from.ensures, w.if-from-number.false)
    ])
