-- What the getters of matches read, by the rows.
use Rattle.std.proofs.Common.{◌≡◌, ◌≢◌, ◌≤◌, ℕ, Bool, true, false, List, Option, Some, None, decimal, sym, ap, ◌∙◌, codes}
use Rattle.std.specs.Prelude.{IfNone, IfSome}
use Rattle.clap.specs.Matches.{first_value, one_text}
use Rattle.clap.specs.Walk.{Row, Text, first_of, one_of, rows_of}
use Rattle.clap.specs.declared.parser.matches.Found.{Found}
use Rattle.clap.proofs.WalkLemmas.{first_value-rows, one_text-rows}
use Rattle.form_words.specs.declared.pace.PaceName.{PaceName}
use Rattle.form_words.specs.Matched.{HasPace, HasPatience, IsFlag}
use Rattle.form_words.specs.Settings.{most_patience, pace_word}

pub first_text_is_found : (f : Found) (id : Text) (text : Option Text) → text ≡ first_value f id → first_of id (rows_of f) ≡ text
first_text_is_found f id text is = sym (first_value-rows f id) ∙ sym is

pub flag_of_rows_is_found : (f : Found) (id : Text) (flag : Bool) → (one_text f id ≡ None → flag ≡ false) → (one_text f id ≡ Some (codes "true") → flag ≡ true) → (one_text f id ≡ Some (codes "false") → flag ≡ false)
    → IsFlag flag (one_of id (rows_of f))
flag_of_rows_is_found f id flag none given other = record {
  none = λ e. none (one_text-rows f id ∙ e);
  given = λ e. given (one_text-rows f id ∙ e);
  other = λ e. other (one_text-rows f id ∙ e);
}

-- a text that names no pace
pub text_has_no_pace : (rows : List Row) (word : Text) → first_of (codes "pace") rows ≡ Some word → ((name : PaceName) → word ≢ pace_word name) → (pace : Option PaceName) → ¬ HasPace rows pace
text_has_no_pace rows word is none None has = let bad = sym is ∙ has in cc
text_has_no_pace rows word is none (Some name) has = let same : Some word ≡ Some (pace_word name) = sym is ∙ has in none name (cc)

-- and one that is no patience
pub text_has_no_patience : (rows : List Row) (word : Text) → first_of (codes "patience") rows ≡ Some word → ((n : ℕ) → word ≡ decimal n → 1 ≤ n → n ≤ most_patience → ⊥) → (patience : Option ℕ) → ¬ HasPatience rows patience
text_has_no_patience rows word is none None has = let bad = sym is ∙ has.0 in cc
text_has_no_patience rows word is none (Some n) has = let same : Some word ≡ Some (decimal n) = sym is ∙ has.0 in none n (cc) has.1.0 has.1.1

-- the number of a text that was found
pub found_number_in_range : (rows : List Row) (position word : Text) (found : Option ℕ) (least most : ℕ) → first_of position rows ≡ Some word → IfSome found (λ n. (word ≡ decimal n) × (least ≤ n) × (n ≤ most))
    → IfSome found (λ n. (first_of position rows ≡ Some (decimal n)) × (least ≤ n) × (n ≤ most))
found_number_in_range rows position word None least most is some = tt
found_number_in_range rows position word (Some n) least most is some = (is ∙ ap Some some.0, some.1, some.2)

pub no_number_in_range : (rows : List Row) (position word : Text) (found : Option ℕ) (least most : ℕ) → first_of position rows ≡ Some word → IfNone found ((n : ℕ) → word ≡ decimal n → least ≤ n → n ≤ most → ⊥)
    → IfNone found ((n : ℕ) → first_of position rows ≡ Some (decimal n) → least ≤ n → n ≤ most → ⊥)
no_number_in_range rows position word None least most is none = λ n has. let same : Some word ≡ Some (decimal n) = sym is ∙ has in none n (cc)
no_number_in_range rows position word (Some n) least most is none = tt
