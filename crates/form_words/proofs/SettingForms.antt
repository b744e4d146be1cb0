-- A play's command, and a run's, find just the settings that words give.
use Rattle.std.proofs.Common.{◌≡◌, ℕ, true, false, List, [], Option, Some, None, inl, inr, map, decimal, refl, sym, ap, ◌∙◌, subst, codes, true≢false}
use Rattle.std.specs.Prelude.{is_some, option_map, option_and_then, slice_get, IfSome}
use Rattle.std.specs.List.{flat_map}
use Rattle.clap.specs.Walk.{Row, Text}
use Rattle.clap.specs.Simple.{matches_of}
use Rattle.clap.specs.Faults.{fault_of}
use Rattle.heap_model.specs.Command.{IsWithin}
use Rattle.form_words.specs.Commands.{play_app, run_app}
use Rattle.form_words.specs.Joined.{are_apart}
use Rattle.form_words.specs.Matched.{FindsSettings, HasFlags, HasValues}
use Rattle.form_words.specs.declared.pace.PaceName.{PaceName}
use Rattle.form_words.specs.declared.setting.Settings.{Settings}
use Rattle.form_words.specs.Settings.{Brief, GiveSettings, Locked, Pace, Patience, Press, Setting, has, most_patience, no_settings, pace_word}
use Rattle.form_words.proofs.OptionSteps.{row_of_words, with_flags}
use Rattle.form_words.proofs.OptionWalk.{IsOption, given_words}
use Rattle.form_words.proofs.OptionForms.{play_app_is_optional, play_flags, play_rules, run_app_is_optional, run_flags, run_rules, given_words_are_taken}
use Rattle.form_words.proofs.SettingRows.{Shows, given_of, rows_are_grown, shows_no_settings}
use Rattle.form_words.proofs.FlagTexts.{AreOthers, flags_keep_other_rows, other_text_is_flag, own_text_is_flag}

pub pace_row_has_word : (given : Option PaceName) → option_and_then (λ (r : Row). slice_get r.values 0) (option_map (λ p. row_of_words (codes "pace", Some (pace_word p))) given) ≡ option_map pace_word given
pace_row_has_word None = refl
pace_row_has_word (Some p) = refl

pub patience_row_has_decimal : (given : Option ℕ) → option_and_then (λ (r : Row). slice_get r.values 0) (option_map (λ n. row_of_words (codes "patience", Some (decimal n))) given) ≡ option_map decimal given
patience_row_has_decimal None = refl
patience_row_has_decimal (Some n) = refl

values_shown : (flags : List Text) (after : List Row) (all : Settings) → AreOthers (codes "pace") flags → AreOthers (codes "patience") flags → IfSome all.patience (IsWithin 1 most_patience)
    → Shows all after → HasValues (with_flags flags after) all
values_shown flags after all one other within shows = record {
  pace = ap (option_and_then (λ (r : Row). slice_get r.values 0)) (flags_keep_other_rows (codes "pace") flags after one ∙ shows.pace) ∙ pace_row_has_word all.pace;
  patience = (ap (option_and_then (λ (r : Row). slice_get r.values 0)) (flags_keep_other_rows (codes "patience") flags after other ∙ shows.patience) ∙ patience_row_has_decimal all.patience, within);
}

none_some : {X : Type 0} (value : Option X) → value ≡ None → is_some value ≡ true → ⊥
none_some None e is = true≢false (sym is)
none_some (Some x) e is = cc

play_owns : (all : Settings) → all.locked ≡ false → all.patience ≡ None → (x : Setting) → has all x ≡ true → IsOption play_rules (given_of x)
play_owns all locked patience (Pace name) is = (refl, refl)
play_owns all locked patience Brief is = refl
play_owns all locked patience Press is = refl
play_owns all locked patience Locked is = absurd (true≢false (sym is ∙ locked))
play_owns all locked patience (Patience n) is = absurd (none_some all.patience patience is)

run_owns : (all : Settings) → all.brief ≡ false → all.press ≡ false → (x : Setting) → has all x ≡ true → IsOption run_rules (given_of x)
run_owns all brief press (Pace name) is = (refl, refl)
run_owns all brief press Brief is = absurd (true≢false (sym is ∙ brief))
run_owns all brief press Press is = absurd (true≢false (sym is ∙ press))
run_owns all brief press Locked is = refl
run_owns all brief press (Patience n) is = (refl, refl)

pub play_finds_settings : (words : List Text) (all : Settings) → all.locked ≡ false → all.patience ≡ None → IfSome all.patience (IsWithin 1 most_patience) → GiveSettings no_settings words all → FindsSettings play_app words all
play_finds_settings words all locked patience within gives =
    let g = rows_are_grown play_rules all (play_owns all locked patience) no_settings [] gives.given shows_no_settings gives.adds in
    let t = given_words_are_taken play_app (codes "play") play_flags play_rules play_app_is_optional (map given_of gives.given) g.after g.spelled g.grows in
    let same : flat_map given_words (map given_of gives.given) ≡ words = g.words ∙ sym gives.spelled in
    let rows = with_flags play_flags g.after in
    let is : rows ≡ matches_of play_app words = sym t.is ∙ ap (matches_of play_app) same in
    record {
      takes = record { apart = subst (λ ws. are_apart ws ≡ true) same t.apart; faultless = subst (λ ws. fault_of play_app ws ≡ []) same t.faultless };
      values = subst (λ rs. HasValues rs all) is (values_shown play_flags g.after all (refl, (refl, tt)) (refl, (refl, tt)) within g.shows);
      flags = subst (λ rs. HasFlags rs all) is (record {
        brief = own_text_is_flag (codes "brief") play_flags g.after all.brief (inl (refl, (refl, tt))) g.shows.brief;
        press = own_text_is_flag (codes "press") play_flags g.after all.press (inr (refl, inl (refl, tt))) g.shows.press;
        locked = other_text_is_flag (codes "locked") play_flags g.after all.locked (refl, (refl, tt)) g.shows.locked;
      });
    }

pub run_finds_settings : (words : List Text) (all : Settings) → all.brief ≡ false → all.press ≡ false → IfSome all.patience (IsWithin 1 most_patience) → GiveSettings no_settings words all → FindsSettings run_app words all
run_finds_settings words all brief press within gives =
    let g = rows_are_grown run_rules all (run_owns all brief press) no_settings [] gives.given shows_no_settings gives.adds in
    let t = given_words_are_taken run_app (codes "run") run_flags run_rules run_app_is_optional (map given_of gives.given) g.after g.spelled g.grows in
    let same : flat_map given_words (map given_of gives.given) ≡ words = g.words ∙ sym gives.spelled in
    let rows = with_flags run_flags g.after in
    let is : rows ≡ matches_of run_app words = sym t.is ∙ ap (matches_of run_app) same in
    record {
      takes = record { apart = subst (λ ws. are_apart ws ≡ true) same t.apart; faultless = subst (λ ws. fault_of run_app ws ≡ []) same t.faultless };
      values = subst (λ rs. HasValues rs all) is (values_shown run_flags g.after all (refl, tt) (refl, tt) within g.shows);
      flags = subst (λ rs. HasFlags rs all) is (record {
        brief = other_text_is_flag (codes "brief") run_flags g.after all.brief (refl, tt) g.shows.brief;
        press = other_text_is_flag (codes "press") run_flags g.after all.press (refl, tt) g.shows.press;
        locked = own_text_is_flag (codes "locked") run_flags g.after all.locked (inl (refl, tt)) g.shows.locked;
      });
    }
