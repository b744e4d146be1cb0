-- The rows of a command's matches tell the settings that words give.
use Rattle.std.proofs.Common.{◌≡◌, ◌||◌, ◌<◌, ◌^◌, ◌==◌, ℕ, Bool, true, false, List, [], ◌∷◌, ◌++◌, Option, Some, None, map, decimal, refl, sym, ap, ◌∙◌, subst, arith, codes, cond}
use Rattle.std.specs.Prelude.{find, is_some, option_map}
use Rattle.std.specs.List.{flat_map}
use Rattle.std.specs.Str.{bytes_eq}
use Rattle.std.specs.Str.Parse.{IsNumeral}
use Rattle.std.specs.Char.{digit_value}
use Rattle.std.proofs.lemmas.Bool.{eqb-true}
use Rattle.std.proofs.lemmas.Fmt.{decimal_is_IsNumeral}
use Rattle.clap.specs.Walk.{Row, Rule, Text, has_row}
use Rattle.form_words.specs.Joined.{is_joined}
use Rattle.form_words.specs.declared.pace.PaceName.TheVariants.{Steady, Debt}
use Rattle.form_words.specs.declared.setting.Settings.{Settings}
use Rattle.form_words.specs.Settings.{AddSettings, Brief, IsKnownSetting, Locked, Pace, Patience, Press, Setting, has, no_settings, pace_word, setting_words, with_setting}
use Rattle.form_words.proofs.OptionSteps.{row_of_words}
use Rattle.form_words.proofs.OptionWalk.{AllSpelled, AreSpelled, Given, Grows, IsLoose, IsOption, given_words}

-- the row of a name
abbrev pub row_at : Text → List Row → Option Row
row_at id rows = find (λ r. bytes_eq r.id id) rows

pub has_row_is_some_row : (id : Text) (rows : List Row) → has_row id rows ≡ is_some (row_at id rows)
has_row_is_some_row id [] = refl
has_row_is_some_row id (r ∷ rs) = by (bytes_eq r.id id) (has_row_is_some_row id rs) where
  by : (b : Bool) → has_row id rs ≡ is_some (row_at id rs) → (b || has_row id rs) ≡ is_some (cond b (Some r) (row_at id rs))
  by true e = refl
  by false e = e

-- a row at the end is found where its name is new, and hides no other
pub row_kept_by_other : (id : Text) (rows : List Row) (r : Row) → bytes_eq r.id id ≡ false → row_at id (rows ++ r ∷ []) ≡ row_at id rows
row_kept_by_other id [] r other = rw other refl
row_kept_by_other id (x ∷ xs) r other = by (bytes_eq x.id id) (row_kept_by_other id xs r other) where
  by : (b : Bool) → row_at id (xs ++ r ∷ []) ≡ row_at id xs → cond b (Some x) (row_at id (xs ++ r ∷ [])) ≡ cond b (Some x) (row_at id xs)
  by true e = refl
  by false e = e

pub new_row_is_found : (id : Text) (rows : List Row) (r : Row) → row_at id rows ≡ None → bytes_eq r.id id ≡ true → row_at id (rows ++ r ∷ []) ≡ Some r
new_row_is_found id [] r none same = rw same refl
new_row_is_found id (x ∷ xs) r none same = by (bytes_eq x.id id) none (λ e. new_row_is_found id xs r e same) where
  by : (b : Bool) → cond b (Some x) (row_at id xs) ≡ None → (row_at id xs ≡ None → row_at id (xs ++ r ∷ []) ≡ Some r) → cond b (Some x) (row_at id (xs ++ r ∷ [])) ≡ Some r
  by true e more = cc
  by false e more = more e

pub found_row_stays : (id : Text) (rows : List Row) (r x : Row) → row_at id rows ≡ Some x → row_at id (rows ++ r ∷ []) ≡ Some x
found_row_stays id [] r x is = cc
found_row_stays id (y ∷ ys) r x is = by (bytes_eq y.id id) is (λ e. found_row_stays id ys r x e) where
  by : (b : Bool) → cond b (Some y) (row_at id ys) ≡ Some x → (row_at id ys ≡ Some x → row_at id (ys ++ r ∷ []) ≡ Some x) → cond b (Some y) (row_at id (ys ++ r ∷ [])) ≡ Some x
  by true e more = e
  by false e more = more e

pub absent_row_is_none : (id : Text) (rows : List Row) → has_row id rows ≡ false → row_at id rows ≡ None
absent_row_is_none id rows none = by (row_at id rows) (sym (has_row_is_some_row id rows) ∙ none) where
  by : (found : Option Row) → is_some found ≡ false → found ≡ None
  by None e = refl
  by (Some r) e = cc

-- ---- a setting as an option that was given

abbrev pub given_of : Setting → Given
given_of (Pace name) = (codes "pace", Some (pace_word name))
given_of Brief = (codes "brief", None)
given_of Press = (codes "press", None)
given_of Locked = (codes "locked", None)
given_of (Patience n) = (codes "patience", Some (decimal n))

abbrev pub flag_row : Bool → Text → Option Row
flag_row flag name = cond flag (Some (row_of_words (name, None))) None

-- the rows are those of the settings
pub record Shows (all : Settings) (rows : List Row) : Type 0 where
  pub pace : row_at (codes "pace") rows ≡ option_map (λ p. row_of_words (codes "pace", Some (pace_word p))) all.pace
  pub brief : row_at (codes "brief") rows ≡ flag_row all.brief (codes "brief")
  pub press : row_at (codes "press") rows ≡ flag_row all.press (codes "press")
  pub locked : row_at (codes "locked") rows ≡ flag_row all.locked (codes "locked")
  pub patience : row_at (codes "patience") rows ≡ option_map (λ n. row_of_words (codes "patience", Some (decimal n))) all.patience

pub shows_no_settings : Shows no_settings []
shows_no_settings = record { pace = refl; brief = refl; press = refl; locked = refl; patience = refl }

no_value_there : {X : Type 0} (value : Option X) → is_some value ≡ false → value ≡ None
no_value_there None e = refl
no_value_there (Some x) e = cc

-- one more setting shows in one more row
pub shows_one_setting_more : (before : Settings) (rows : List Row) (x : Setting) → Shows before rows → has before x ≡ false → Shows (with_setting before x) (rows ++ row_of_words (given_of x) ∷ [])
shows_one_setting_more before rows (Pace name) shows new =
    let none : row_at (codes "pace") rows ≡ None = shows.pace ∙ ap (option_map (λ p. row_of_words (codes "pace", Some (pace_word p)))) (no_value_there before.pace new) in
    record {
      pace = new_row_is_found (codes "pace") rows _ none refl;
      brief = row_kept_by_other (codes "brief") rows _ refl ∙ shows.brief;
      press = row_kept_by_other (codes "press") rows _ refl ∙ shows.press;
      locked = row_kept_by_other (codes "locked") rows _ refl ∙ shows.locked;
      patience = row_kept_by_other (codes "patience") rows _ refl ∙ shows.patience;
    }
shows_one_setting_more before rows Brief shows new =
    let none : row_at (codes "brief") rows ≡ None = shows.brief ∙ ap (λ b. flag_row b (codes "brief")) new in
    record {
      pace = row_kept_by_other (codes "pace") rows _ refl ∙ shows.pace;
      brief = new_row_is_found (codes "brief") rows _ none refl;
      press = row_kept_by_other (codes "press") rows _ refl ∙ shows.press;
      locked = row_kept_by_other (codes "locked") rows _ refl ∙ shows.locked;
      patience = row_kept_by_other (codes "patience") rows _ refl ∙ shows.patience;
    }
shows_one_setting_more before rows Press shows new =
    let none : row_at (codes "press") rows ≡ None = shows.press ∙ ap (λ b. flag_row b (codes "press")) new in
    record {
      pace = row_kept_by_other (codes "pace") rows _ refl ∙ shows.pace;
      brief = row_kept_by_other (codes "brief") rows _ refl ∙ shows.brief;
      press = new_row_is_found (codes "press") rows _ none refl;
      locked = row_kept_by_other (codes "locked") rows _ refl ∙ shows.locked;
      patience = row_kept_by_other (codes "patience") rows _ refl ∙ shows.patience;
    }
shows_one_setting_more before rows Locked shows new =
    let none : row_at (codes "locked") rows ≡ None = shows.locked ∙ ap (λ b. flag_row b (codes "locked")) new in
    record {
      pace = row_kept_by_other (codes "pace") rows _ refl ∙ shows.pace;
      brief = row_kept_by_other (codes "brief") rows _ refl ∙ shows.brief;
      press = row_kept_by_other (codes "press") rows _ refl ∙ shows.press;
      locked = new_row_is_found (codes "locked") rows _ none refl;
      patience = row_kept_by_other (codes "patience") rows _ refl ∙ shows.patience;
    }
shows_one_setting_more before rows (Patience n) shows new =
    let none : row_at (codes "patience") rows ≡ None = shows.patience ∙ ap (option_map (λ k. row_of_words (codes "patience", Some (decimal k)))) (no_value_there before.patience new) in
    record {
      pace = row_kept_by_other (codes "pace") rows _ refl ∙ shows.pace;
      brief = row_kept_by_other (codes "brief") rows _ refl ∙ shows.brief;
      press = row_kept_by_other (codes "press") rows _ refl ∙ shows.press;
      locked = row_kept_by_other (codes "locked") rows _ refl ∙ shows.locked;
      patience = new_row_is_found (codes "patience") rows _ none refl;
    }

-- ---- settings that words give are taken

-- a number begins with no dash
numeral_loose : (text : List ℕ) → IsNumeral 10 text → IsLoose text × (is_joined text ≡ false)
numeral_loose [] is = absurd (omega (arith, is.0))
numeral_loose (d ∷ ds) is = by (d == 45) refl where
  by : (dash : Bool) → (d == 45) ≡ dash → IsLoose (d ∷ ds) × (is_joined (d ∷ ds) ≡ false)
  by true e =
      let big : digit_value 45 < 10 = subst (λ n. digit_value n < 10) (eqb-true d 45 e) is.1.0 in
      absurd (omega (arith, big))
  by false e = (record { no_end = rw e refl; no_name = rw e refl; no_letters = rw e refl }, rw e refl)

pub number_is_loose : (n : ℕ) → n < 2 ^ 64 → IsLoose (decimal n) × (is_joined (decimal n) ≡ false)
number_is_loose n small = numeral_loose (decimal n) (decimal_is_IsNumeral n small).0

spelled : (x : Setting) → IsKnownSetting x → AreSpelled (given_of x)
spelled (Pace Steady) fits = (record { no_end = refl; named = refl; apart = refl }, record { no_end = refl; no_name = refl; no_letters = refl }, refl)
spelled (Pace Debt) fits = (record { no_end = refl; named = refl; apart = refl }, record { no_end = refl; no_name = refl; no_letters = refl }, refl)
spelled Brief fits = record { no_end = refl; named = refl; apart = refl }
spelled Press fits = record { no_end = refl; named = refl; apart = refl }
spelled Locked fits = record { no_end = refl; named = refl; apart = refl }
spelled (Patience n) fits =
    let loose = number_is_loose n (omega (arith, fits.1)) in
    (record { no_end = refl; named = refl; apart = refl }, loose.0, loose.1)

-- what was given stays given
has_new : (before : Settings) (x : Setting) → has (with_setting before x) x ≡ true
has_new before (Pace name) = refl
has_new before Brief = refl
has_new before Press = refl
has_new before Locked = refl
has_new before (Patience n) = refl

has_more : (before : Settings) (x y : Setting) → has before x ≡ true → has (with_setting before y) x ≡ true
has_more before (Pace name) (Pace other) is = refl
has_more before (Pace name) Brief is = is
has_more before (Pace name) Press is = is
has_more before (Pace name) Locked is = is
has_more before (Pace name) (Patience n) is = is
has_more before Brief (Pace other) is = is
has_more before Brief Brief is = refl
has_more before Brief Press is = is
has_more before Brief Locked is = is
has_more before Brief (Patience n) is = is
has_more before Press (Pace other) is = is
has_more before Press Brief is = is
has_more before Press Press is = refl
has_more before Press Locked is = is
has_more before Press (Patience n) is = is
has_more before Locked (Pace other) is = is
has_more before Locked Brief is = is
has_more before Locked Press is = is
has_more before Locked Locked is = refl
has_more before Locked (Patience n) is = is
has_more before (Patience n) (Pace other) is = is
has_more before (Patience n) Brief is = is
has_more before (Patience n) Press is = is
has_more before (Patience n) Locked is = is
has_more before (Patience n) (Patience m) is = refl

has_after : (before all : Settings) (x : Setting) (given : List Setting) → AddSettings before given all → has before x ≡ true → has all x ≡ true
has_after before all x [] adds is = subst (λ (s : Settings). has s x ≡ true) (sym adds) is
has_after before all x (y ∷ more) adds is = has_after (with_setting before y) all x more adds.2 (has_more before x y is)

pub record IsGrown (c : List Rule) (rows : List Row) (given : List Setting) (all : Settings) : Type 0 where
  pub after : List Row
  pub grows : Grows c rows (map given_of given) after
  pub shows : Shows all after
  pub spelled : AllSpelled (map given_of given)
  pub words : flat_map given_words (map given_of given) ≡ flat_map setting_words given

words_of : (x : Setting) (rest rest' : List Text) → rest ≡ rest' → given_words (given_of x) ++ rest ≡ setting_words x ++ rest'
words_of (Pace Steady) rest rest' e = ap (λ ws. codes "--pace" ∷ codes "steady" ∷ ws) e
words_of (Pace Debt) rest rest' e = ap (λ ws. codes "--pace" ∷ codes "debt" ∷ ws) e
words_of Brief rest rest' e = ap (λ ws. codes "--brief" ∷ ws) e
words_of Press rest rest' e = ap (λ ws. codes "--press" ∷ ws) e
words_of Locked rest rest' e = ap (λ ws. codes "--locked" ∷ ws) e
words_of (Patience n) rest rest' e = ap (λ ws. codes "--patience" ∷ decimal n ∷ ws) e

none_has : (id : Text) (rows : List Row) → row_at id rows ≡ None → has_row id rows ≡ false
none_has id rows none = has_row_is_some_row id rows ∙ ap is_some none

new_name : (before : Settings) (rows : List Row) (x : Setting) → Shows before rows → has before x ≡ false → has_row (given_of x).0 rows ≡ false
new_name before rows (Pace name) shows new = none_has (codes "pace") rows (shows.pace ∙ ap (option_map (λ p. row_of_words (codes "pace", Some (pace_word p)))) (no_value_there before.pace new))
new_name before rows Brief shows new = none_has (codes "brief") rows (shows.brief ∙ ap (λ b. flag_row b (codes "brief")) new)
new_name before rows Press shows new = none_has (codes "press") rows (shows.press ∙ ap (λ b. flag_row b (codes "press")) new)
new_name before rows Locked shows new = none_has (codes "locked") rows (shows.locked ∙ ap (λ b. flag_row b (codes "locked")) new)
new_name before rows (Patience n) shows new = none_has (codes "patience") rows (shows.patience ∙ ap (option_map (λ k. row_of_words (codes "patience", Some (decimal k)))) (no_value_there before.patience new))

module _ (c : List Rule) (all : Settings) (owns : (x : Setting) → has all x ≡ true → IsOption c (given_of x)) where
  pub rows_are_grown : (before : Settings) (rows : List Row) (given : List Setting) → Shows before rows → AddSettings before given all → IsGrown c rows given all
  rows_are_grown before rows [] shows adds = record { after = rows; grows = refl; shows = subst (λ s. Shows s rows) (sym adds) shows; spelled = tt; words = refl }
  rows_are_grown before rows (x ∷ more) shows adds =
      let next = rows_are_grown (with_setting before x) (rows ++ row_of_words (given_of x) ∷ []) more (shows_one_setting_more before rows x shows adds.1) adds.2 in
      let own = owns x (has_after (with_setting before x) all x more adds.2 (has_new before x)) in
      record {
        after = next.after;
        grows = (own, new_name before rows x shows adds.1, next.grows);
        shows = next.shows;
        spelled = (spelled x adds.0, next.spelled);
        words = words_of x _ _ next.words;
      }
