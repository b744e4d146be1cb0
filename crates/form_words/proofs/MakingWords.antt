-- A making's command takes three words that are no options.
use Rattle.std.proofs.Common.{◌≡◌, ℕ, true, false, List, [], ◌∷◌, Option, Some, None, refl, sym, ap, ap₂, ◌∙◌, subst, codes}
use Rattle.std.specs.List.{fold}
use Rattle.clap.specs.Walk.{Held, Row, Rule, Text, Walk, idle, arg_by_long, finished, nothing_held, plain_word, settled, walk, walk_from, walked, word_met}
use Rattle.clap.specs.Simple.{filled, matches_of, with_index}
use Rattle.clap.specs.Kinds.{Kinds, or_else}
use Rattle.clap.specs.Faults.{check_fault, defaults_fault, fault_of, settle_fault, turn_fault, walk_fault, word_fault}
use Rattle.form_words.specs.Commands.{make_app, number_rule}
use Rattle.form_words.specs.Joined.{are_apart, is_joined}
use Rattle.form_words.proofs.OptionSteps.{WordCase, held, dashless_word_is_loose, loose, named, or_else_empty_both_empty, refusal, refused, row_of_words, shape_with, each_word_has_case}
use Rattle.form_words.proofs.FirstWord.{first_word_is_taken}
use Rattle.form_words.proofs.OptionWalk.{IsLoose}
use Rattle.form_words.proofs.OptionForms.{fault_is_of_its_parts, matches_are_walked_rows}

-- a word at a position of a built command
abbrev positional : ℕ → Text → Rule
positional i name = with_index i (filled (number_rule name))

abbrev make_rules : List Rule
make_rules = positional 1 (codes "start") ∷ positional 2 (codes "seats") ∷ positional 3 (codes "lines") ∷ []

abbrev make_shape : Rattle.clap.specs.Simple.Shape
make_shape = shape_with (codes "make") make_rules

-- the row of a word at a position
abbrev pub position_row : Text → Text → Row
position_row name word = row_of_words (name, Some word)

-- the walk at a position
abbrev at_position : ℕ → List Row → Option (Text × List Text) → Walk
at_position i rows pending = record (walk_from (held rows pending)) { position = i }

-- the walk before each position, and behind the last one
abbrev first : Walk
first = at_position 1 [] None

abbrev second : Text → Walk
second a = at_position 2 [] (Some (codes "start", a ∷ []))

abbrev third : Text → Text → Walk
third a b = at_position 3 (position_row (codes "start") a ∷ []) (Some (codes "seats", b ∷ []))

abbrev last : Text → Text → Text → Walk
last a b c = at_position 4 (position_row (codes "start") a ∷ position_row (codes "seats") b ∷ []) (Some (codes "lines", c ∷ []))

-- the word is at its position, and the walk goes on
abbrev Goes : Walk → Text → Walk → Type 0
Goes w word next = (turn_fault make_shape [] w word ≡ []) × (walked make_rules [] w word ≡ next)

abbrev IsValue : Text → ℕ → List Row → Option (Text × List Text) → Type 0
IsValue word i rows pending = (word_fault make_shape [] false idle word (held rows pending) ≡ []) × (word_met make_rules [] false idle i word (held rows pending) ≡ plain_word make_rules idle word (held rows pending))

goes_first : (word : Text) → IsValue word 1 [] None → Goes first word (second word)
unfolding walked
goes_first word is = rw (is.0, is.1) (refl, refl)

goes_second : (a word : Text) → IsValue word 2 [] (Some (codes "start", a ∷ [])) → Goes (second a) word (third a word)
unfolding walked
goes_second a word is = rw (is.0, is.1) (refl, refl)

goes_third : (a b word : Text) → IsValue word 3 (position_row (codes "start") a ∷ []) (Some (codes "seats", b ∷ [])) → Goes (third a b) word (last a b word)
unfolding walked
goes_third a b word is = rw (is.0, is.1) (refl, refl)

goes_no_more : (a b c word : Text) → IsValue word 4 (position_row (codes "start") a ∷ position_row (codes "seats") b ∷ []) (Some (codes "lines", c ∷ [])) → turn_fault make_shape [] (last a b c) word ≡ refusal
goes_no_more a b c word is = rw (is.0, is.1) refl

-- a word is a value, or a fault
value_or_fault : (word : Text) (i : ℕ) (rows : List Row) (pending : Option (Text × List Text)) → is_joined word ≡ false → turn_fault make_shape [] (at_position i rows pending) word ≡ [] → IsValue word i rows pending
value_or_fault word i rows pending apart faultless = by (each_word_has_case (codes "make") make_rules (λ x. refl) word apart) where
  by : WordCase (codes "make") make_rules (λ x. refl) word → IsValue word i rows pending
  by (named name spelled long other) =
      let none : arg_by_long make_rules name ≡ None = refl in
      let told : turn_fault make_shape [] (at_position i rows pending) word ≡ refusal = rw (other, long) refl in
      let bad : refusal ≡ [] = sym told ∙ faultless in cc
  by (refused is) =
      let told : turn_fault make_shape [] (at_position i rows pending) word ≡ refusal = rw (is idle rows pending) refl in
      let bad : refusal ≡ [] = sym told ∙ faultless in cc
  by (loose is) = is idle i rows pending

-- the rows of three words
abbrev pub three_rows : Text → Text → Text → List Row
three_rows a b c = position_row (codes "start") a ∷ position_row (codes "seats") b ∷ position_row (codes "lines") c ∷ []

-- the words are three, with their rows
pub record AreThree (words : List Text) (rows : List Row) : Type 0 where
  pub start : Text
  pub seats : Text
  pub lines : Text
  pub are : words ≡ start ∷ seats ∷ lines ∷ []
  pub is : rows ≡ three_rows start seats lines

abbrev end_from : Walk → List Text → Held
end_from w words = (fold (walked make_rules []) w words).held

abbrev Checked : Held → Type 0
Checked end = check_fault make_shape (finished make_rules end) false ≡ []

-- where a word is wanting, that is a fault
from_last : (a b c : Text) (words : List Text) → are_apart words ≡ true → walk_fault make_shape [] (last a b c) words ≡ [] → words ≡ []
from_last a b c [] apart faultless = refl
from_last a b c (word ∷ words) apart faultless =
    let t = first_word_is_taken make_shape (last a b c) word words apart faultless in
    let is = value_or_fault word 4 _ _ t.apart t.faultless in
    let bad : refusal ≡ [] = sym (goes_no_more a b c word is) ∙ t.faultless in cc

from_third : (a b : Text) (words : List Text) → are_apart words ≡ true → walk_fault make_shape [] (third a b) words ≡ [] → Checked (end_from (third a b) words) → AreThree (a ∷ b ∷ words) (finished make_rules (end_from (third a b) words))
from_third a b [] apart faultless checked = cc
from_third a b (word ∷ words) apart faultless checked =
    let t = first_word_is_taken make_shape (third a b) word words apart faultless in
    let goes = goes_third a b word (value_or_fault word 3 _ _ t.apart t.faultless) in
    let none = from_last a b word words t.others_apart (subst (λ w. walk_fault make_shape [] w words ≡ []) goes.1 t.goes_on) in
    record { start = a; seats = b; lines = word; are = ap (λ ws. a ∷ b ∷ word ∷ ws) none; is = ap₂ (λ w ws. finished make_rules (end_from w ws)) goes.1 none }

from_second : (a : Text) (words : List Text) → are_apart words ≡ true → walk_fault make_shape [] (second a) words ≡ [] → Checked (end_from (second a) words) → AreThree (a ∷ words) (finished make_rules (end_from (second a) words))
from_second a [] apart faultless checked = cc
from_second a (word ∷ words) apart faultless checked =
    let t = first_word_is_taken make_shape (second a) word words apart faultless in
    let goes = goes_second a word (value_or_fault word 2 _ _ t.apart t.faultless) in
    let three = from_third a word words t.others_apart (subst (λ w. walk_fault make_shape [] w words ≡ []) goes.1 t.goes_on) (subst (λ w. Checked (end_from w words)) goes.1 checked) in
    subst (λ w. AreThree (a ∷ word ∷ words) (finished make_rules (end_from w words))) (sym goes.1) three

from_first : (words : List Text) → are_apart words ≡ true → walk_fault make_shape [] first words ≡ [] → Checked (end_from first words) → AreThree words (finished make_rules (end_from first words))
from_first [] apart faultless checked = cc
from_first (word ∷ words) apart faultless checked =
    let t = first_word_is_taken make_shape first word words apart faultless in
    let goes = goes_first word (value_or_fault word 1 _ _ t.apart t.faultless) in
    let three = from_second word words t.others_apart (subst (λ w. walk_fault make_shape [] w words ≡ []) goes.1 t.goes_on) (subst (λ w. Checked (end_from w words)) goes.1 checked) in
    subst (λ w. AreThree (word ∷ words) (finished make_rules (end_from w words))) (sym goes.1) three

pub found_make_is_three_words : (words : List Text) → are_apart words ≡ true → fault_of make_app words ≡ [] → AreThree words (matches_of make_app words)
found_make_is_three_words words apart none =
    let end = (walk make_rules [] nothing_held words).held in
    let one = or_else_empty_both_empty (walk_fault make_shape [] first words) _ (sym (fault_is_of_its_parts make_app (codes "make") make_rules refl refl words) ∙ none) in
    let two = or_else_empty_both_empty (settle_fault make_rules false end) _ one.1 in
    let three = or_else_empty_both_empty (defaults_fault (settled make_rules end).rows make_rules) _ two.1 in
    subst (AreThree words) (sym (matches_are_walked_rows make_app (codes "make") make_rules refl refl words)) (from_first words apart one.0 three.1)

-- three words that are no options are taken
pub three_words_are_taken : (a b c : Text) → IsLoose a → IsLoose b → IsLoose c → (fault_of make_app (a ∷ b ∷ c ∷ []) ≡ []) × (matches_of make_app (a ∷ b ∷ c ∷ []) ≡ three_rows a b c)
unfolding walk_fault defaults_fault
three_words_are_taken a b c is_a is_b is_c =
    let value = λ (word : Text) (is : IsLoose word) (i : ℕ). dashless_word_is_loose (codes "make") make_rules (λ x. refl) word is.no_end is.no_name is.no_letters idle i in
    let one = goes_first a (value a is_a 1 _ _) in
    let two = goes_second a b (value b is_b 2 _ _) in
    let three = goes_third a b c (value c is_c 3 _ _) in
    let walked_is : fold (walked make_rules []) first (a ∷ b ∷ c ∷ []) ≡ last a b c
    = ap (λ w. walked make_rules [] (walked make_rules [] w b) c) one.1 ∙ ap (λ w. walked make_rules [] w c) two.1 ∙ three.1 in
    let end : (walk make_rules [] nothing_held (a ∷ b ∷ c ∷ [])).held ≡ (last a b c).held = ap (λ (w : Walk). w.held) walked_is in
    let faultless : walk_fault make_shape [] first (a ∷ b ∷ c ∷ []) ≡ [] = rw (one.0, one.1, two.0, two.1, three.0) refl in (
      fault_is_of_its_parts make_app (codes "make") make_rules refl refl (a ∷ b ∷ c ∷ [])
          ∙ ap₂ (λ (kinds : Kinds) (h : Held). or_else kinds (or_else (settle_fault make_rules false h) (or_else (defaults_fault (settled make_rules h).rows make_rules) (check_fault make_shape (finished make_rules h) false)))) faultless end,
      matches_are_walked_rows make_app (codes "make") make_rules refl refl (a ∷ b ∷ c ∷ []) ∙ ap (finished make_rules) end,
    )
