-- What a walk that takes words says of the first of them, and of the others.
use Rattle.std.proofs.Common.{◌≡◌, ◌&&◌, Bool, true, false, not, List, [], ◌∷◌, refl, sym}
use Rattle.clap.specs.Walk.{Text, Walk, walked}
use Rattle.clap.specs.Simple.{Shape}
use Rattle.clap.specs.Faults.{turn_fault, walk_fault}
use Rattle.form_words.specs.Joined.{are_apart, is_joined}
use Rattle.form_words.proofs.OptionSteps.{or_else_empty_both_empty}

-- the first word is taken, and the walk goes on over the others
pub record TakesFirst (shape : Shape) (w : Walk) (word : Text) (words : List Text) : Type 0 where
  pub apart : is_joined word ≡ false
  pub faultless : turn_fault shape [] w word ≡ []
  pub others_apart : are_apart words ≡ true
  pub goes_on : walk_fault shape [] (walked shape.rules [] w word) words ≡ []

both : (a b : Bool) → (a && b) ≡ true → (a ≡ true) × (b ≡ true)
both true b e = (refl, e)
both false b e = cc

not_true : (b : Bool) → not b ≡ true → b ≡ false
not_true true e = sym e
not_true false e = refl

pub first_word_is_taken : (shape : Shape) (w : Walk) (word : Text) (words : List Text) → are_apart (word ∷ words) ≡ true → walk_fault shape [] w (word ∷ words) ≡ [] → TakesFirst shape w word words
unfolding walk_fault
first_word_is_taken shape w word words apart faultless =
    let aparts = both (not (is_joined word)) _ apart in
    let faults = or_else_empty_both_empty (turn_fault shape [] w word) _ faultless in
    record { apart = not_true _ aparts.0; faultless = faults.0; others_apart = aparts.1; goes_on = faults.1 }
