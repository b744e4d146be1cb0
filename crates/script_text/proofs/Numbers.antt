-- The number that a word is.
use Rattle.std.proofs.Common.{◌≡◌, ◌≢◌, ℕ, zero, suc, ◌+◌, ◌-◌, ◌<◌, ◌≤◌, ◌^◌, List, [], ◌∷◌, length, get_or, Option, Some, None, Result, Ok, Err, bytes_eq, decimal, true, nat_lt, arith, rules, refl, sym, ap, subst, ◌∙◌}
use Rattle.std.specs.Result.{OkIff, result_ok}
use Rattle.std.specs.Str.Parse.{AllDigits, ParsesUnsigned, digits_value}
use Rattle.std.proofs.lemmas.Option.{cond_some}
use Rattle.std.proofs.lemmas.Bool.{ltb-true, and_parts}
use Rattle.std.proofs.lemmas.Fmt.{decimal-digits_value, decimal_digit, decimal_is_IsNumeral, first_decimal}
use Rattle.std.proofs.lemmas.Str.Parse.{IsNumeralModel, numerals_by_value, parse_plain, tells_digits}
use Rattle.std.proofs.lemmas.Slice.Eq.{bytes_eq-Decides}
use Rattle.script_text.specs.Numbers.{BeginsNumber, number_below}

-- the digits of a number below the limit are that number
pub number_below-decimal : (limit n : ℕ) → limit ≤ 2 ^ 64 → n < limit → number_below limit (decimal n) ≡ Some n
unfolding number_below
number_below-decimal limit n fits small =
    let value : digits_value 10 (decimal n) ≡ n = (decimal_is_IsNumeral n (omega arith)).1 in
    let same : bytes_eq (decimal n) (decimal n) ≡ true = (bytes_eq-Decides (decimal n) (decimal n)).1 refl in
    let below : nat_lt n limit ≡ true = search rules in
    rw (value, same, below) refl

-- a word that is a number is its digits
pub number_below-Some : (limit n : ℕ) (word : List ℕ) → number_below limit word ≡ Some n → (word ≡ decimal n) × (n < limit)
unfolding number_below
number_below-Some limit n word e =
    let found = cond_some _ (digits_value 10 word) n e in
    let parts = and_parts (nat_lt (digits_value 10 word) limit) (bytes_eq word (decimal (digits_value 10 word))) found.0 in
    rw (← found.1) ((bytes_eq-Decides _ _).0 parts.1, ltb-true _ _ parts.0)

-- and a word that is no number's digits is none
pub number_below-None : (limit : ℕ) (word : List ℕ) → ((n : ℕ) → n < limit → word ≡ decimal n → ⊥) → number_below limit word ≡ None
number_below-None limit word apart =
    let P : Option ℕ → Type 0 = λ o. number_below limit word ≡ o → o ≡ None in
    let cases : (o : Option ℕ) → P o = λ o. elim o as P [ None ↦ λ e. refl | Some n ↦ λ e. let said = number_below-Some limit n word e in absurd (apart n said.1 said.0) ] in
    cases (number_below limit word) refl

-- a word of one digit is that digit
pub number_below-digit : (word : List ℕ) → length word ≡ 1 → 48 ≤ get_or word 0 0 → get_or word 0 0 ≤ 57 → number_below (2 ^ 64) word ≡ Some (get_or word 0 0 - 48)
number_below-digit [] one low high = absurd (omega arith)
number_below-digit (digit ∷ c ∷ cs) one low high = absurd (omega arith)
number_below-digit (digit ∷ []) one low high =
    let same : 48 + (digit - 48) ≡ digit = omega arith in
    let spelled : decimal (digit - 48) ≡ digit ∷ [] = decimal_digit (digit - 48) (omega arith) ∙ ap (λ (b : ℕ). b ∷ []) same in
    subst (λ (word : List ℕ). number_below (2 ^ 64) word ≡ Some (digit - 48)) spelled (number_below-decimal (2 ^ 64) (digit - 48) (omega arith) (omega arith))

-- the digits of a number begin as a number does
pub decimal-BeginsNumber : (n : ℕ) → n < 2 ^ 64 → BeginsNumber (decimal n)
decimal-BeginsNumber zero small = rw (decimal_digit 0 (omega arith)) (λ e. omega (arith, e))
decimal-BeginsNumber (suc m) small = begins (decimal (suc m)) (first_decimal (suc m) (omega arith) small) where
  begins : (bs : List ℕ) → 48 < get_or bs 0 0 → BeginsNumber bs
  begins [] h = absurd (omega arith)
  begins (b ∷ []) h = λ e. omega (arith, h, e)
  begins (b ∷ c ∷ cs) h = (λ e. omega (arith, h, e), λ e. omega (arith, h, e))

-- a word that begins so has no plus first, and no zero but alone
no_plus : (word : List ℕ) → BeginsNumber word → get_or word 0 0 ≢ 43
no_plus [] h e = absurd h
no_plus (b ∷ []) h e = h e
no_plus (b ∷ c ∷ cs) h e = h.0 e

zero_alone : (word : List ℕ) → BeginsNumber word → get_or word 0 0 ≡ 48 → length word ≡ 1
zero_alone [] h e = absurd h
zero_alone (b ∷ []) h e = refl
zero_alone (b ∷ c ∷ cs) h e = absurd (h.1 e)

-- what is parsed of it is the number that it is
pub parsed-number_below : {E : Type 0} (word : List ℕ) (found : Result ℕ E) → BeginsNumber word → ParsesUnsigned 64 10 word found → result_ok found ≡ number_below (2 ^ 64) word
parsed-number_below {E = E} word found begins h = cases found (parse_plain digits 64 word found h (no_plus word begins)) where
  digits : IsNumeralModel (AllDigits 10) (digits_value 10)
  digits = numerals_by_value (AllDigits 10) tells_digits

  cases : (r : Result ℕ E) → OkIff r (AllDigits 10 word × (0 < length word) × (digits_value 10 word < 2 ^ 64)) (digits_value 10 word) → result_ok r ≡ number_below (2 ^ 64) word
  cases (Ok n) o =
      let spelled : decimal (digits_value 10 word) ≡ word = decimal-digits_value digits word o.0.0 o.0.1 (zero_alone word begins) o.0.2 in
      let is : word ≡ decimal n = sym spelled ∙ ap decimal (sym o.1) in
      rw is (sym (number_below-decimal (2 ^ 64) n (omega arith) (omega (arith, o.0.2, o.1))))
  cases (Err e) o = sym (number_below-None (2 ^ 64) word (λ n small is.
      let numeral = decimal_is_IsNumeral n small in
      o (rw is (numeral.0.1, numeral.0.0, omega (arith, numeral.1)))))
