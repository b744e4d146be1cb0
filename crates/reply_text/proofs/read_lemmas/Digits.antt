-- The first byte of a number is a digit, and no byte of it is a mark.
use Rattle.std.proofs.Common.{◌≡◌, ◌==◌, ℕ, ◌<◌, ◌≤◌, ◌^◌, ◌⊎◌, List, [], ◌∷◌, ◌++◌, false, bytes_eq, decimal, length, refl, arith}
use Rattle.std.specs.List.{All, AllByRecursion}
use Rattle.std.specs.Str.Parse.{AllDigits}
use Rattle.std.proofs.lemmas.Fmt.{decimal_is_IsNumeral}
use Rattle.std.proofs.lemmas.Grind.{common_steps}
use Rattle.std.proofs.lemmas.List.Elements.{All-from_recursion}
use Rattle.std.proofs.lemmas.Str.Parse.{digit_from_value}

-- the byte is no digit
abbrev pub IsMark : ℕ → Type 0
IsMark mark = (mark < 48) ⊎ (57 < mark)

apart : (mark b : ℕ) → IsMark mark → 48 ≤ b → b ≤ 57 → (b == mark) ≡ false
apart mark b h low high = grind (arith, common_steps)

digits-apart : (mark : ℕ) (ds : List ℕ) → IsMark mark → AllDigits 10 ds → AllByRecursion (λ b. (b == mark) ≡ false) ds
digits-apart mark [] h f = tt
digits-apart mark (d ∷ ds) h f = let digit = digit_from_value d f.0 in (apart mark d h digit.0 digit.1, digits-apart mark ds h f.1)

-- a number has no mark
pub decimal-apart : (mark n : ℕ) → IsMark mark → n < 2 ^ 64 → All (λ b. (b == mark) ≡ false) (decimal n)
decimal-apart mark n h small = All-from_recursion (λ b. (b == mark) ≡ false) (decimal n) (digits-apart mark (decimal n) h (decimal_is_IsNumeral n small).0.1)

first-apart : (ds more : List ℕ) (c : ℕ) (cs : List ℕ) → 0 < length ds → AllDigits 10 ds → IsMark c → bytes_eq (ds ++ more) (c ∷ cs) ≡ false
first-apart [] more c cs some f h = absurd (omega arith)
first-apart (d ∷ ds) more c cs some f h = let digit = digit_from_value d f.0 in rw (apart c d h digit.0 digit.1) refl

-- what begins with a number is no word that begins with another byte
pub number-apart : (n : ℕ) (more : List ℕ) (c : ℕ) (cs : List ℕ) → n < 2 ^ 64 → IsMark c → bytes_eq (decimal n ++ more) (c ∷ cs) ≡ false
number-apart n more c cs small h = let numeral = (decimal_is_IsNumeral n small).0 in first-apart (decimal n) more c cs numeral.0 numeral.1 h
