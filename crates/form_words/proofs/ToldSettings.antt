-- Options whose values were told are settings.
use Rattle.std.proofs.Common.{◌≡◌, ◌<◌, ◌^◌, ℕ, Bool, true, false, List, [], ◌∷◌, ◌++◌, Option, Some, None, decimal, refl, sym, ap, ap₂, ◌∙◌, subst, arith, codes}
use Rattle.std.specs.Prelude.{is_some, option_map, option_and_then, slice_get, IfSome}
use Rattle.std.specs.List.{flat_map}
use Rattle.std.specs.Str.Parse.{digits_value}
use Rattle.std.proofs.lemmas.Fmt.{decimal_is_IsNumeral}
use Rattle.std.proofs.lemmas.Slice.Eq.{bytes_eq-Decides}
use Rattle.clap.specs.Walk.{Row, Rule, Text, first_of, has_row}
use Rattle.heap_model.specs.Command.{IsWithin}
use Rattle.form_words.specs.declared.pace.PaceName.{PaceName}
use Rattle.form_words.specs.declared.pace.PaceName.TheVariants.{Steady, Debt}
use Rattle.form_words.specs.declared.setting.Settings.{Settings}
use Rattle.form_words.specs.Settings.{AddSettings, Brief, IsKnownSetting, Locked, Pace, Patience, Press, Setting, has, most_patience, pace_word, setting_words, with_setting}
use Rattle.form_words.proofs.OptionSteps.{row_of_words}
use Rattle.form_words.proofs.OptionWalk.{Given, Grows, IsOption, given_words}
use Rattle.form_words.proofs.SettingRows.{Shows, flag_row, given_of, has_row_is_some_row, absent_row_is_none, row_at, new_row_is_found, found_row_stays, shows_one_setting_more}
use Rattle.form_words.proofs.SettingForms.{pace_row_has_word, patience_row_has_decimal}
use Rattle.form_words.proofs.OptionCases.{OptionCase, is_pace, is_brief, is_press, is_locked, is_patience}

-- what was found at the end of the settings
pub record IsTold (all : Settings) (after : List Row) : Type 0 where
  pub pace : first_of (codes "pace") after ≡ option_map pace_word all.pace
  pub patience : first_of (codes "patience") after ≡ option_map decimal all.patience
  pub within : IfSome all.patience (IsWithin 1 most_patience)
  pub brief : has_row (codes "brief") after ≡ all.brief
  pub press : has_row (codes "press") after ≡ all.press
  pub locked : has_row (codes "locked") after ≡ all.locked

-- a row stays to the end
row_lasts : (c : List Rule) (id : Text) (given : List Given) (rows after : List Row) (r : Row) → Grows c rows given after → row_at id rows ≡ Some r → row_at id after ≡ Some r
row_lasts c id [] rows after r grows is = ap (row_at id) grows ∙ is
row_lasts c id (x ∷ more) rows after r grows is = row_lasts c id more (rows ++ row_of_words x ∷ []) after r grows.2 (found_row_stays id rows (row_of_words x) r is)

pub row_has_option_name : (x : Given) → (row_of_words x).id ≡ x.0
row_has_option_name (name, None) = refl
row_has_option_name (name, Some value) = refl

-- the row of an option lasts
given_lasts : (c : List Rule) (x : Given) (more : List Given) (rows after : List Row) → Grows c rows (x ∷ more) after → row_at x.0 after ≡ Some (row_of_words x)
given_lasts c x more rows after grows =
    row_lasts c x.0 more (rows ++ row_of_words x ∷ []) after (row_of_words x) grows.2
    (new_row_is_found x.0 rows (row_of_words x) (absent_row_is_none x.0 rows grows.1) ((bytes_eq-Decides (row_of_words x).id x.0).1 (row_has_option_name x)))

-- so each option is a setting, with the value that was told
record IsSetting (x : Given) : Type 0 where
  setting : Setting
  is : x ≡ given_of setting
  known : IsKnownSetting setting

pace_setting : (value : Text) (given : Option PaceName) → Some value ≡ option_map pace_word given → IsSetting (codes "pace", Some value)
pace_setting value None told = cc
pace_setting value (Some p) told =
    let same : value ≡ pace_word p = cc in
    record { setting = Pace p; is = ap (λ v. (codes "pace", Some v)) same; known = tt }

patience_setting : (value : Text) (given : Option ℕ) → IfSome given (IsWithin 1 most_patience) → Some value ≡ option_map decimal given → IsSetting (codes "patience", Some value)
patience_setting value None within told = cc
patience_setting value (Some n) within told =
    let same : value ≡ decimal n = cc in
    record { setting = Patience n; is = ap (λ v. (codes "patience", Some v)) same; known = within }

setting_of : (all : Settings) (after : List Row) (x : Given) → IsTold all after → row_at x.0 after ≡ Some (row_of_words x) → OptionCase x → IsSetting x
setting_of all after x told row (is_pace value e) =
    let there : row_at (codes "pace") after ≡ Some (row_of_words (codes "pace", Some value)) = subst (λ (y : Given). row_at y.0 after ≡ Some (row_of_words y)) e row in
    subst IsSetting (sym e) (pace_setting value all.pace (sym (ap (option_and_then (λ (r : Row). slice_get r.values 0)) there) ∙ told.pace))
setting_of all after x told row (is_patience value e) =
    let there : row_at (codes "patience") after ≡ Some (row_of_words (codes "patience", Some value)) = subst (λ (y : Given). row_at y.0 after ≡ Some (row_of_words y)) e row in
    subst IsSetting (sym e) (patience_setting value all.patience told.within (sym (ap (option_and_then (λ (r : Row). slice_get r.values 0)) there) ∙ told.patience))
setting_of all after x told row (is_brief e) = record { setting = Brief; is = e; known = tt }
setting_of all after x told row (is_press e) = record { setting = Press; is = e; known = tt }
setting_of all after x told row (is_locked e) = record { setting = Locked; is = e; known = tt }

some_shown : {X : Type 0} (f : X → Row) (value : Option X) → is_some (option_map f value) ≡ is_some value
some_shown f None = refl
some_shown f (Some x) = refl

pub flag_row_shows_flag : (b : Bool) (name : Text) → is_some (flag_row b name) ≡ b
flag_row_shows_flag true name = refl
flag_row_shows_flag false name = refl

-- what has no row was not given
not_given : (before : Settings) (rows : List Row) (x : Setting) → Shows before rows → has_row (given_of x).0 rows ≡ false → has before x ≡ false
not_given before rows (Pace name) shows none = sym (has_row_is_some_row (codes "pace") rows ∙ ap is_some shows.pace ∙ some_shown _ before.pace) ∙ none
not_given before rows Brief shows none = sym (has_row_is_some_row (codes "brief") rows ∙ ap is_some shows.brief ∙ flag_row_shows_flag before.brief (codes "brief")) ∙ none
not_given before rows Press shows none = sym (has_row_is_some_row (codes "press") rows ∙ ap is_some shows.press ∙ flag_row_shows_flag before.press (codes "press")) ∙ none
not_given before rows Locked shows none = sym (has_row_is_some_row (codes "locked") rows ∙ ap is_some shows.locked ∙ flag_row_shows_flag before.locked (codes "locked")) ∙ none
not_given before rows (Patience n) shows none = sym (has_row_is_some_row (codes "patience") rows ∙ ap is_some shows.patience ∙ some_shown _ before.patience) ∙ none

same_pace : (a b : Option PaceName) → option_map pace_word a ≡ option_map pace_word b → a ≡ b
same_pace None None e = refl
same_pace None (Some name) e = cc
same_pace (Some name) None e = cc
same_pace (Some Steady) (Some Steady) e = refl
same_pace (Some Steady) (Some Debt) e = cc
same_pace (Some Debt) (Some Steady) e = cc
same_pace (Some Debt) (Some Debt) e = refl

same_number : (n m : ℕ) → n < 2 ^ 64 → m < 2 ^ 64 → decimal n ≡ decimal m → n ≡ m
same_number n m small small' e = sym (decimal_is_IsNumeral n small).1 ∙ ap (digits_value 10) e ∙ (decimal_is_IsNumeral m small').1

same_patience : (a b : Option ℕ) → IfSome a (IsWithin 1 most_patience) → IfSome b (IsWithin 1 most_patience) → option_map decimal a ≡ option_map decimal b → a ≡ b
same_patience None None in_a in_b e = refl
same_patience None (Some m) in_a in_b e = cc
same_patience (Some n) None in_a in_b e = cc
same_patience (Some n) (Some m) in_a in_b e =
    let digits : decimal n ≡ decimal m = cc in
    ap Some (same_number n m (omega (arith, in_a.1)) (omega (arith, in_b.1)) digits)

abbrev IsKnown : Settings → Type 0
IsKnown settings = IfSome settings.patience (IsWithin 1 most_patience)

-- settings are known by their rows
same_settings : (all before : Settings) (after rows : List Row) → after ≡ rows → IsTold all after → Shows before rows → IsKnown before → all ≡ before
same_settings all before after rows e told shows known =
    let pace : all.pace ≡ before.pace = same_pace all.pace before.pace
    (sym told.pace ∙ ap (first_of (codes "pace")) e ∙ ap (option_and_then (λ (r : Row). slice_get r.values 0)) shows.pace ∙ pace_row_has_word before.pace) in
    let patience : all.patience ≡ before.patience = same_patience all.patience before.patience told.within known
    (sym told.patience ∙ ap (first_of (codes "patience")) e ∙ ap (option_and_then (λ (r : Row). slice_get r.values 0)) shows.patience ∙ patience_row_has_decimal before.patience) in
    let brief : all.brief ≡ before.brief = same_flag all.brief before.brief (codes "brief") told.brief shows.brief in
    let press : all.press ≡ before.press = same_flag all.press before.press (codes "press") told.press shows.press in
    let locked : all.locked ≡ before.locked = same_flag all.locked before.locked (codes "locked") told.locked shows.locked in
    λ i. record { pace = pace i; brief = brief i; press = press i; locked = locked i; patience = patience i }
  where
    same_flag : (flag other : Bool) (id : Text) → has_row id after ≡ flag → row_at id rows ≡ flag_row other id → flag ≡ other
    same_flag flag other id told shown = sym told ∙ ap (has_row id) e ∙ has_row_is_some_row id rows ∙ ap is_some shown ∙ flag_row_shows_flag other id

known_more : (before : Settings) (x : Setting) → IsKnown before → IsKnownSetting x → IsKnown (with_setting before x)
known_more before (Pace name) known fits = known
known_more before Brief known fits = known
known_more before Press known fits = known
known_more before Locked known fits = known
known_more before (Patience n) known fits = fits

words_of_setting : (x : Setting) → given_words (given_of x) ≡ setting_words x
words_of_setting (Pace Steady) = refl
words_of_setting (Pace Debt) = refl
words_of_setting Brief = refl
words_of_setting Press = refl
words_of_setting Locked = refl
words_of_setting (Patience n) = refl

-- the options of these words are settings that lead from the first to all
pub record Gives (before : Settings) (given : List Given) (all : Settings) : Type 0 where
  pub settings : List Setting
  pub spelled : flat_map given_words given ≡ flat_map setting_words settings
  pub adds : AddSettings before settings all

module _ (c : List Rule) (option_case : (x : Given) → IsOption c x → OptionCase x) (all : Settings) (after : List Row) (told : IsTold all after) where
  pub rows_give_settings : (given : List Given) (rows : List Row) (before : Settings) → Shows before rows → IsKnown before → Grows c rows given after → Gives before given all
  rows_give_settings [] rows before shows known grows = record { settings = []; spelled = refl; adds = same_settings all before after rows grows told shows known }
  rows_give_settings (x ∷ more) rows before shows known grows =
      let one = setting_of all after x told (given_lasts c x more rows after grows) (option_case x grows.0) in
      let new = not_given before rows one.setting shows (subst (λ (y : Given). has_row y.0 rows ≡ false) one.is grows.1) in
      let grows' = subst (λ (y : Given). Grows c (rows ++ row_of_words y ∷ []) more after) one.is grows.2 in
      let rest = rows_give_settings more (rows ++ row_of_words (given_of one.setting) ∷ []) (with_setting before one.setting) (shows_one_setting_more before rows one.setting shows new) (known_more before one.setting known one.known) grows' in
      record {
        settings = one.setting ∷ rest.settings;
        spelled = ap₂ ◌++◌ (ap given_words one.is ∙ words_of_setting one.setting) rest.spelled;
        adds = (one.known, new, rest.adds);
      }
