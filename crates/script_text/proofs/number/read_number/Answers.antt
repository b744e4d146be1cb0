use Rattle.std.proofs.Common.{◌≡◌, ◌∙◌, ◌^◌, ℕ, List, Some, length, decimal, sym, ap, IsUtf8, subst, rules, arith}
use Rattle.std.specs.Str.Parse.{ParsesUnsigned}
use Rattle.std.proofs.lemmas.Fmt.{IsAscii-decimal}
use Rattle.std.proofs.lemmas.Str.{IsUtf8-from_ascii}
use Rattle.script_text.specs.Numbers.{BeginsNumber}
use Rattle.script_text.proofs.Numbers.{number_below-None, number_below-digit, decimal-BeginsNumber, parsed-number_below}
use Rattle.script_text.proofs.number.read_number.Goals as goal

pub returns-in-48-to-57 : goal.returns-in-48-to-57
returns-in-48-to-57 c =
    let one : length c.args.word.now ≡ 1 = omega (arith, c.in-48-to-57.len_at_least, c.in-48-to-57.len_below) in
    ap Some c.from.ensures ∙ sym (number_below-digit c.args.word.now one (omega arith) (omega arith))

pub returns-then-not-begins_number : goal.returns-then-not-begins_number
returns-then-not-begins_number c = sym (number_below-None (2 ^ 64) c.args.word.now (λ n small e.
    let begins : BeginsNumber c.args.word.now = rw e (decimal-BeginsNumber n small) in
    search rules))

pub returns-in_default-from_utf8 : goal.returns-in_default-from_utf8
returns-in_default-from_utf8 c = sym (number_below-None (2 ^ 64) c.args.word.now (λ n small e.
    let text : IsUtf8 c.args.word.now = rw e (IsUtf8-from_ascii (decimal n) (IsAscii-decimal n small)) in
    c.in_default-from_utf8.ensures.cases.0 text))

pub returns : goal.returns
returns c =
    let begins : BeginsNumber c.args.word.now = search rules in
    let P : List ℕ → Type 0 = λ word. ParsesUnsigned 64 10 word c.parse.result in
    let parsed : ParsesUnsigned 64 10 c.args.word.now c.parse.result = subst P c.in-Ok.ensures.cases.0 c.parse.ensures.value.0 in
    c.ok.ensures.value ∙ parsed-number_below c.args.word.now c.parse.result begins parsed
