-- Settings are told by their words, one after another.
use Rattle.std.proofs.Common.{fold, ◌^◌, ◌<◌, ◌≡◌, ◌∷◌, [], ◌++◌, ℕ, List, bytes_eq, decimal, unwrap_or, refl, sym, ap, ◌∙◌, subst, arith}
use Rattle.std.specs.Prelude.{codes, IfSome, Option, Some, None}
use Rattle.std.specs.List.{flat_map}
use Rattle.std.specs.Map.{lookup}
use Rattle.std.specs.Option.{option_map_or}
use Rattle.std.specs.Str.Parse.{digits_value}
use Rattle.std.proofs.lemmas.Fmt.{decimal_is_IsNumeral}
use Rattle.heap_model.specs.Command.{IsWithin}
use Rattle.form_words.specs.declared.pace.PaceName.TheVariants.{Steady, Debt}
use Rattle.form_words.specs.declared.setting.Settings.{Settings}
use Rattle.form_words.specs.Settings.{Brief, Locked, Pace, Patience, Press, Setting, most_patience, no_settings, with_setting, setting_words, IsKnownSetting, AddSettings, GiveSettings}

-- the value of a number's digits
pub digits_value-decimal : (n : ℕ) → n < 2 ^ 64 → digits_value 10 (decimal n) ≡ n
digits_value-decimal n small = (decimal_is_IsNumeral n small).1

-- each setting that is a word by itself
abbrev plain_settings : List (List ℕ × Setting)
plain_settings = (codes "--brief", Brief) ∷ (codes "--press", Press) ∷ (codes "--locked", Locked) ∷ []

-- each setting that is a word with a value behind it
abbrev valued_settings : List ℕ → List (List ℕ × Setting)
valued_settings value =
    (codes "--pace", Pace (unwrap_or (lookup (bytes_eq value) ((codes "steady", Steady) ∷ (codes "debt", Debt) ∷ [])) Steady))
    ∷ (codes "--patience", Patience (digits_value 10 value))
    ∷ []

-- the settings that words give, behind a word that waits for its value
abbrev given_by : List (List ℕ) → Option (List ℕ) → List Setting
given_by [] waiting = []
given_by (word ∷ rest) None = option_map_or (λ setting. setting ∷ given_by rest None) (lookup (bytes_eq word) plain_settings) (given_by rest (Some word))
given_by (value ∷ rest) (Some word) = option_map_or (λ setting. setting ∷ given_by rest None) (lookup (bytes_eq word) (valued_settings value)) []

-- the words of a setting give it, and then what the words behind them do
given_by-setting : (setting : Setting) (rest : List (List ℕ)) → IsKnownSetting setting → given_by (setting_words setting ++ rest) None ≡ setting ∷ given_by rest None
given_by-setting (Pace Steady) rest fits = refl
given_by-setting (Pace Debt) rest fits = refl
given_by-setting Brief rest fits = refl
given_by-setting Press rest fits = refl
given_by-setting Locked rest fits = refl
given_by-setting (Patience n) rest fits = ap (λ m. Patience m ∷ given_by rest None) (digits_value-decimal n (omega (arith, fits.1)))

-- so settings are told by their words
given_by-given : (before all : Settings) (given : List Setting) → AddSettings before given all → given_by (flat_map setting_words given) None ≡ given
given_by-given before all [] adds = refl
given_by-given before all (setting ∷ more) adds =
    given_by-setting setting (flat_map setting_words more) adds.0 ∙ ap (λ l. setting ∷ l) (given_by-given (with_setting before setting) all more adds.2)

-- the settings that words give, all together
abbrev pub settings_of : List (List ℕ) → Settings
settings_of words = fold with_setting no_settings (given_by words None)

-- settings that were added are those from before with each of them
added : (before all : Settings) (given : List Setting) → AddSettings before given all → fold with_setting before given ≡ all
added before all [] adds = sym adds
added before all (setting ∷ more) adds = added (with_setting before setting) all more adds.2

-- words give no other settings
pub settings_of-given : (words : List (List ℕ)) (all : Settings) → GiveSettings no_settings words all → settings_of words ≡ all
settings_of-given words all gives =
    let told = ap (λ ws. given_by ws None) gives.spelled ∙ given_by-given no_settings all gives.given gives.adds in
    ap (fold with_setting no_settings) told ∙ added no_settings all gives.given gives.adds

-- a patience that was given is in its range
pub given_patience_in_range : (words : List (List ℕ)) (all : Settings) → GiveSettings no_settings words all → IfSome all.patience (IsWithin 1 most_patience)
given_patience_in_range words all gives = by no_settings gives.given tt gives.adds where
  by : (before : Settings) (given : List Setting) → IfSome before.patience (IsWithin 1 most_patience) → AddSettings before given all → IfSome all.patience (IsWithin 1 most_patience)
  by before [] within adds = subst (λ (s : Settings). IfSome s.patience (IsWithin 1 most_patience)) (sym adds) within
  by before (Pace name ∷ more) within adds = by (with_setting before (Pace name)) more within adds.2
  by before (Brief ∷ more) within adds = by (with_setting before Brief) more within adds.2
  by before (Press ∷ more) within adds = by (with_setting before Press) more within adds.2
  by before (Locked ∷ more) within adds = by (with_setting before Locked) more within adds.2
  by before (Patience n ∷ more) within adds = by (with_setting before (Patience n)) more adds.0 adds.2
