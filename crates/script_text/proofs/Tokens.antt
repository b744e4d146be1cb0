-- The bytes of words and lines: no word has a space, and no line a line feed.
use Rattle.std.proofs.Common.{◌≡◌, ◌==◌, ℕ, ◌<◌, ◌≤◌, ◌^◌, List, [], ◌∷◌, ◌++◌, Bool, true, false, nat_lt, ◌&&◌, decimal, refl, arith}
use Rattle.std.specs.List.{All, AllByRecursion}
use Rattle.std.specs.Str.Parse.{AllDigits}
use Rattle.std.proofs.lemmas.Bool.{ltb-true, and_parts}
use Rattle.std.proofs.lemmas.Fmt.{decimal_is_IsNumeral}
use Rattle.std.proofs.lemmas.Grind.{common_steps}
use Rattle.std.proofs.lemmas.List.Elements.{All-from_recursion}
use Rattle.std.proofs.lemmas.List.Splits.{slice_split_at, slice_split_none}
use Rattle.std.proofs.lemmas.Str.Parse.{digit_from_value}
use Rattle.script_text.specs.Text.{sentence, words_of}

-- each byte is above k
abbrev pub IsAbove : ℕ → List ℕ → Type 0
IsAbove k bytes = AllByRecursion (λ b. k < b) bytes

-- the same as a test
abbrev pub is_above : ℕ → List ℕ → Bool
is_above k [] = true
is_above k (b ∷ bs) = nat_lt k b && is_above k bs

pub IsAbove-from_test : (k : ℕ) (bytes : List ℕ) → is_above k bytes ≡ true → IsAbove k bytes
IsAbove-from_test k [] e = tt
IsAbove-from_test k (b ∷ bs) e =
    let parts = and_parts (nat_lt k b) (is_above k bs) e in (ltb-true k b parts.0, IsAbove-from_test k bs parts.1)

IsAbove-digits : (ds : List ℕ) → AllDigits 10 ds → IsAbove 32 ds
IsAbove-digits [] h = tt
IsAbove-digits (d ∷ ds) h = let digit = digit_from_value d h.0 in (omega arith, IsAbove-digits ds h.1)

pub IsAbove-decimal : (n : ℕ) → n < 2 ^ 64 → IsAbove 32 (decimal n)
IsAbove-decimal n small = IsAbove-digits (decimal n) (decimal_is_IsNumeral n small).0.1

pub IsAbove-append : (k : ℕ) (xs ys : List ℕ) → IsAbove k xs → IsAbove k ys → IsAbove k (xs ++ ys)
IsAbove-append k [] ys f g = g
IsAbove-append k (x ∷ xs) ys f g = (f.0, IsAbove-append k xs ys f.1 g)

pub IsAbove-lower : (j k : ℕ) (xs : List ℕ) → j ≤ k → IsAbove k xs → IsAbove j xs
IsAbove-lower j k [] h f = tt
IsAbove-lower j k (x ∷ xs) h f = (omega (arith, f.0), IsAbove-lower j k xs h f.1)

-- a mark below each byte isn't one of them
pub bytes_above_have_no_mark : (mark : ℕ) (bytes : List ℕ) → IsAbove mark bytes → All (λ b. (b == mark) ≡ false) bytes
bytes_above_have_no_mark mark bytes f = All-from_recursion (λ b. (b == mark) ≡ false) bytes (apart bytes f) where
  apart : (bs : List ℕ) → IsAbove mark bs → AllByRecursion (λ b. (b == mark) ≡ false) bs
  apart [] f = tt
  apart (b ∷ bs) f = (grind (arith, common_steps, f.0), apart bs f.1)

-- the words of a sentence
pub words_of-sentence : (word : List ℕ) (words : List (List ℕ)) → AllByRecursion (IsAbove 32) (word ∷ words) → words_of (sentence (word ∷ words)) ≡ word ∷ words
words_of-sentence word [] f = slice_split_none (λ b. b == 32) word (bytes_above_have_no_mark 32 word f.0)
words_of-sentence word (next ∷ words) f =
    rw (slice_split_at (λ b. b == 32) word 32 (sentence (next ∷ words)) (bytes_above_have_no_mark 32 word f.0) refl, words_of-sentence next words f.1) refl

-- no byte of a sentence is below the space
pub IsAbove-sentence : (words : List (List ℕ)) → AllByRecursion (IsAbove 32) words → IsAbove 31 (sentence words)
IsAbove-sentence [] f = tt
IsAbove-sentence (word ∷ []) f = IsAbove-lower 31 32 word (omega arith) f.0
IsAbove-sentence (word ∷ next ∷ words) f =
    IsAbove-append 31 word (32 ∷ sentence (next ∷ words)) (IsAbove-lower 31 32 word (omega arith) f.0) (omega arith, IsAbove-sentence (next ∷ words) f.1)
