-- What a play's command finds, or a run's, the words give.
use Rattle.std.proofs.Common.{◌≡◌, ℕ, Bool, true, false, List, [], ◌∷◌, ◌++◌, Option, Some, None, inl, inr, decimal, refl, sym, ap, ◌∙◌, subst, codes, cond}
use Rattle.std.specs.Prelude.{is_some, option_map, option_and_then, slice_get}
use Rattle.std.specs.Str.{bytes_eq}
use Rattle.clap.specs.Walk.{Row, Rule, Text, first_of, has_row, one_of}
use Rattle.form_words.specs.Commands.{play_app, run_app}
use Rattle.form_words.specs.Matched.{FindsSettings, HasFlags, HasValues, IsFlag}
use Rattle.form_words.specs.declared.setting.Settings.{Settings}
use Rattle.form_words.specs.Settings.{GiveSettings, no_settings}
use Rattle.form_words.proofs.OptionSteps.{row_of_words, with_flags}
use Rattle.form_words.proofs.OptionWalk.{Given, Grows, IsOption}
use Rattle.form_words.proofs.OptionForms.{walked_words_are_found, play_app_is_optional, play_flags, play_rules, run_app_is_optional, run_flags, run_rules}
use Rattle.form_words.proofs.SettingRows.{flag_row, has_row_is_some_row, absent_row_is_none, row_at, row_kept_by_other, new_row_is_found, shows_no_settings}
use Rattle.form_words.proofs.FlagTexts.{AreOthers, IsAmong, flag_text, flags_keep_other_rows, other_flag_has_default_text, own_flag_has_text}
use Rattle.form_words.proofs.OptionCases.{unknown_option_has_no_case, play_option_has_case, run_option_has_case, equal_option_names, valued_is_not_plain}
use Rattle.form_words.proofs.ToldSettings.{IsTold, flag_row_shows_flag, rows_give_settings, row_has_option_name}

-- a name that no option with a value has, has the row of a flag or none
record IsFlagRow (id : Text) (rows : List Row) : Type 0 where
  flag : Bool
  is : row_at id rows ≡ flag_row flag id

flag_lasts : (c : List Rule) (id : Text) → ((value : Text) → IsOption c (id, Some value) → ⊥) → (given : List Given) (rows after : List Row) → Grows c rows given after → IsFlagRow id rows → IsFlagRow id after
flag_lasts c id no_value [] rows after grows is = subst (IsFlagRow id) (sym grows) is
flag_lasts c id no_value ((name, value) ∷ more) rows after grows is = flag_lasts c id no_value more (rows ++ row_of_words (name, value) ∷ []) after grows.2 (by value grows.0 (bytes_eq name id) refl) where
  by : (value : Option Text) → IsOption c (name, value) → (same : Bool) → bytes_eq name id ≡ same → IsFlagRow id (rows ++ row_of_words (name, value) ∷ [])
  by None own false other = record { flag = is.flag; is = row_kept_by_other id rows (row_of_words (name, None)) other ∙ is.is }
  by (Some v) own false other = record { flag = is.flag; is = row_kept_by_other id rows (row_of_words (name, Some v)) other ∙ is.is }
  by (Some v) own true same = absurd (no_value v (subst (λ n. IsOption c (n, Some v)) (equal_option_names name id same) own))
  by None own true same =
      let here = equal_option_names name id same in
      let none = absent_row_is_none id rows (subst (λ n. has_row n rows ≡ false) here grows.1) in
      record { flag = true; is = new_row_is_found id rows (row_of_words (name, None)) none same ∙ ap (λ n. Some (row_of_words (n, None))) here }

-- a name that no option has, has no row
none_lasts : (c : List Rule) (id : Text) → ((value : Option Text) → IsOption c (id, value) → ⊥) → (given : List Given) (rows after : List Row) → Grows c rows given after → row_at id rows ≡ None → row_at id after ≡ None
none_lasts c id no_option [] rows after grows is = ap (row_at id) grows ∙ is
none_lasts c id no_option ((name, value) ∷ more) rows after grows is = none_lasts c id no_option more (rows ++ row_of_words (name, value) ∷ []) after grows.2 (by (bytes_eq name id) refl) where
  by : (same : Bool) → bytes_eq name id ≡ same → row_at id (rows ++ row_of_words (name, value) ∷ []) ≡ None
  by true same = absurd (no_option value (subst (λ n. IsOption c (n, value)) (equal_option_names name id same) grows.0))
  by false other = row_kept_by_other id rows (row_of_words (name, value)) (ap (λ n. bytes_eq n id) (row_has_option_name (name, value)) ∙ other) ∙ is

-- a flag is as its text says
flag_told : (flag b : Bool) (text : Option Text) → IsFlag flag text → text ≡ Some (flag_text b) → flag ≡ b
flag_told flag true text is e = is.given e
flag_told flag false text is e = is.other e

other_told : (flag b : Bool) (text : Option Text) → IsFlag flag text → text ≡ cond b (Some (codes "true")) None → flag ≡ b
other_told flag true text is e = is.given e
other_told flag false text is e = is.none e

row_told : (id : Text) (after : List Row) (flag b : Bool) → row_at id after ≡ flag_row b id → flag ≡ b → has_row id after ≡ flag
row_told id after flag b is same = has_row_is_some_row id after ∙ ap is_some is ∙ flag_row_shows_flag b id ∙ sym same

own_told : (id : Text) (flags : List Text) (after : List Row) (given : Bool) → IsAmong id flags → IsFlag given (one_of id (with_flags flags after)) → IsFlagRow id after → has_row id after ≡ given
own_told id flags after given among is row = row_told id after given row.flag row.is (flag_told given row.flag _ is (own_flag_has_text id flags after row.flag among row.is))

absent_told : (id : Text) (flags : List Text) (after : List Row) (given : Bool) → AreOthers id flags → IsFlag given (one_of id (with_flags flags after)) → row_at id after ≡ None → given ≡ false
absent_told id flags after given others is none = other_told given false _ is (other_flag_has_default_text id flags after false others none)

value_told : (id : Text) (flags : List Text) (after : List Row) → AreOthers id flags → first_of id after ≡ first_of id (with_flags flags after)
value_told id flags after others = ap (option_and_then (λ (r : Row). slice_get r.values 0)) (sym (flags_keep_other_rows id flags after others))

none_told : (id : Text) (after : List Row) (given : Bool) → row_at id after ≡ None → given ≡ false → has_row id after ≡ given
none_told id after given none is = has_row_is_some_row id after ∙ ap is_some none ∙ sym is

no_number : (value : Option ℕ) → option_map decimal value ≡ None → value ≡ None
no_number None e = refl
no_number (Some n) e = cc

-- what a play's command finds, the words give
pub record IsPlay (words : List Text) (all : Settings) : Type 0 where
  pub gives_all : GiveSettings no_settings words all
  pub unlocked : all.locked ≡ false
  pub impatient : all.patience ≡ None

pub found_is_play : (words : List Text) (all : Settings) → FindsSettings play_app words all → IsPlay words all
found_is_play words all finds =
    let f = walked_words_are_found play_app (codes "play") play_flags play_rules play_app_is_optional words finds.takes.apart finds.takes.faultless in
    let flags = subst (λ rs. HasFlags rs all) f.is finds.flags in
    let values = subst (λ rs. HasValues rs all) f.is finds.values in
    let brief_row = flag_lasts play_rules (codes "brief") (λ v own. valued_is_not_plain (codes "brief") (sym own.0)) f.reads.given [] f.after f.reads.grows (record { flag = false; is = refl }) in
    let press_row = flag_lasts play_rules (codes "press") (λ v own. valued_is_not_plain (codes "press") (sym own.0)) f.reads.given [] f.after f.reads.grows (record { flag = false; is = refl }) in
    let locked_row = none_lasts play_rules (codes "locked") (λ v. unknown_option_has_no_case play_rules (codes "locked") v refl) f.reads.given [] f.after f.reads.grows refl in
    let patience_row = none_lasts play_rules (codes "patience") (λ v. unknown_option_has_no_case play_rules (codes "patience") v refl) f.reads.given [] f.after f.reads.grows refl in
    let unlocked = absent_told (codes "locked") play_flags f.after all.locked (refl, (refl, tt)) flags.locked locked_row in
    let told : IsTold all f.after = record {
      pace = value_told (codes "pace") play_flags f.after (refl, (refl, tt)) ∙ values.pace;
      patience = value_told (codes "patience") play_flags f.after (refl, (refl, tt)) ∙ values.patience.0;
      within = values.patience.1;
      brief = own_told (codes "brief") play_flags f.after all.brief (inl (refl, (refl, tt))) flags.brief brief_row;
      press = own_told (codes "press") play_flags f.after all.press (inr (refl, inl (refl, tt))) flags.press press_row;
      locked = none_told (codes "locked") f.after all.locked locked_row unlocked;
    } in
    let given = rows_give_settings play_rules play_option_has_case all f.after told f.reads.given [] no_settings shows_no_settings tt f.reads.grows in
    record {
      gives_all = record { given = given.settings; spelled = f.reads.spelled ∙ given.spelled; adds = given.adds };
      unlocked = unlocked;
      impatient = no_number all.patience (sym told.patience ∙ ap (option_and_then (λ (r : Row). slice_get r.values 0)) patience_row);
    }

-- and so with a run's
pub record IsRun (words : List Text) (all : Settings) : Type 0 where
  pub gives_all : GiveSettings no_settings words all
  pub whole : all.brief ≡ false
  pub unpressed : all.press ≡ false

pub found_is_run : (words : List Text) (all : Settings) → FindsSettings run_app words all → IsRun words all
found_is_run words all finds =
    let f = walked_words_are_found run_app (codes "run") run_flags run_rules run_app_is_optional words finds.takes.apart finds.takes.faultless in
    let flags = subst (λ rs. HasFlags rs all) f.is finds.flags in
    let values = subst (λ rs. HasValues rs all) f.is finds.values in
    let locked_row = flag_lasts run_rules (codes "locked") (λ v own. valued_is_not_plain (codes "locked") (sym own.0)) f.reads.given [] f.after f.reads.grows (record { flag = false; is = refl }) in
    let brief_row = none_lasts run_rules (codes "brief") (λ v. unknown_option_has_no_case run_rules (codes "brief") v refl) f.reads.given [] f.after f.reads.grows refl in
    let press_row = none_lasts run_rules (codes "press") (λ v. unknown_option_has_no_case run_rules (codes "press") v refl) f.reads.given [] f.after f.reads.grows refl in
    let whole = absent_told (codes "brief") run_flags f.after all.brief (refl, tt) flags.brief brief_row in
    let unpressed = absent_told (codes "press") run_flags f.after all.press (refl, tt) flags.press press_row in
    let told : IsTold all f.after = record {
      pace = value_told (codes "pace") run_flags f.after (refl, tt) ∙ values.pace;
      patience = value_told (codes "patience") run_flags f.after (refl, tt) ∙ values.patience.0;
      within = values.patience.1;
      brief = none_told (codes "brief") f.after all.brief brief_row whole;
      press = none_told (codes "press") f.after all.press press_row unpressed;
      locked = own_told (codes "locked") run_flags f.after all.locked (inl (refl, tt)) flags.locked locked_row;
    } in
    let given = rows_give_settings run_rules run_option_has_case all f.after told f.reads.given [] no_settings shows_no_settings tt f.reads.grows in
    record { gives_all = record { given = given.settings; spelled = f.reads.spelled ∙ given.spelled; adds = given.adds }; whole = whole; unpressed = unpressed }
