-- The numbers that words spell.
use Rattle.std.specs.Prelude.{◌≢◌, ℕ, ◌^◌, ◌&&◌, List, [], ◌∷◌, Option, Some, None, bytes_eq, decimal, nat_lt, if◌then◌else◌}
use Rattle.std.specs.Str.Parse.{digits_value}

-- no plus stands first, and no zero before other digits
abbrev pub BeginsNumber : List ℕ → Type 0
BeginsNumber [] = ⊥
BeginsNumber (b ∷ []) = b ≢ 43
BeginsNumber (b ∷ c ∷ cs) = (b ≢ 43) × (b ≢ 48)

-- the number below the limit whose decimal digits the word is
unfoldable pub number_below : ℕ → List ℕ → Option ℕ
number_below limit word =
    let n = digits_value 10 word in if nat_lt n limit && bytes_eq word (decimal n) then Some n else None

-- the number that a word of a script is: one to ten digits, with no zero before others
abbrev pub number_of : List ℕ → Option ℕ
number_of word = number_below (10 ^ 10) word
