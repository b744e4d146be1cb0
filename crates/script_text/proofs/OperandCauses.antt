-- What is wrong with one operand.
use Rattle.std.proofs.Common.{◌≡◌, ◌≢◌, ℕ, List, [], ◌∷◌, Option, Some, None, Err, Bool, true, false, ◌&&◌, nat_le, cond, Result, Ok}
use Rattle.script_text.specs.declared.cause.Cause.{Cause}
use Rattle.script_text.specs.declared.cause.Cause.TheVariants.{TooManyWords, OutOfRange}
use Rattle.script_text.specs.Numbers.{number_of}
use Rattle.script_text.specs.Operands.{Range, after_operand, after_number}

after_number_early : (range : Range) (n : Option ℕ) (rest : List (List ℕ)) (cause : Cause) → after_number range n rest ≡ Err cause → cause ≢ TooManyWords
after_number_early range None rest cause e = λ is. cc
after_number_early range (Some n) rest cause e =
    let P : Bool → Type 0 = λ b. ◌≡◌ {A = Result (List (List ℕ)) Cause} (cond b (Ok rest) (Err OutOfRange)) (Err cause) → cause ≢ TooManyWords in
    let parts : (b : Bool) → P b = λ b. elim b as P [ true ↦ λ e is. cc | false ↦ λ e is. cc ] in
    parts (nat_le range.0 n && nat_le n range.1) e

-- it isn't that words follow
pub after_operand_early : (range : Range) (words : List (List ℕ)) (cause : Cause) → after_operand range words ≡ Err cause → cause ≢ TooManyWords
after_operand_early range [] cause e = λ is. cc
after_operand_early range (word ∷ rest) cause e = after_number_early range (number_of word) rest cause e
