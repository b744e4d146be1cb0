-- What stands behind the word of a form.
use Rattle.std.specs.Prelude.{◌≡◌, ℕ, Bool, true, false, List, [], ◌∷◌, codes, decimal, None, Some, is_some}
use Rattle.std.specs.List.{flat_map}
use Rattle.heap_model.specs.Command.{IsWithin}
use Rattle.form_words.specs.declared.pace.PaceName.{PaceName}
use Rattle.form_words.specs.declared.pace.PaceName.TheVariants.{Steady, Debt}
use Rattle.form_words.specs.declared.setting.Settings.{Settings}

-- what may stand behind the word of a form, in any order and each kind once at most
pub data Setting : Type 0 where
  Pace : PaceName → Setting
  Brief : Setting
  Press : Setting
  Locked : Setting
  Patience : ℕ → Setting

-- the most finds that a patience asks for
abbrev pub most_patience : ℕ
most_patience = 1000000

-- the word that names a pace
abbrev pub pace_word : PaceName → List ℕ
pace_word Steady = codes "steady"
pace_word Debt = codes "debt"

-- the words of a setting
abbrev pub setting_words : Setting → List (List ℕ)
setting_words (Pace name) = codes "--pace" ∷ pace_word name ∷ []
setting_words Brief = codes "--brief" ∷ []
setting_words Press = codes "--press" ∷ []
setting_words Locked = codes "--locked" ∷ []
setting_words (Patience n) = codes "--patience" ∷ decimal n ∷ []

-- the setting's number is in its range, where it has one
abbrev pub IsKnownSetting : Setting → Type 0
IsKnownSetting (Patience n) = IsWithin 1 most_patience n
IsKnownSetting _ = Unit {0}

-- nothing was given
abbrev pub no_settings : Settings
no_settings = record { pace = None; brief = false; press = false; locked = false; patience = None }

-- whether a setting of this kind was given
abbrev pub has : Settings → Setting → Bool
has settings (Pace name) = is_some settings.pace
has settings Brief = settings.brief
has settings Press = settings.press
has settings Locked = settings.locked
has settings (Patience n) = is_some settings.patience

-- the settings with this one
abbrev pub with_setting : Settings → Setting → Settings
with_setting settings (Pace name) = record settings { pace = Some name }
with_setting settings Brief = record settings { brief = true }
with_setting settings Press = record settings { press = true }
with_setting settings Locked = record settings { locked = true }
with_setting settings (Patience n) = record settings { patience = Some n }

-- beside those from before these were given, each kind for the first time and in its range, and then all are those
abbrev pub AddSettings : Settings → List Setting → Settings → Type 0
AddSettings before [] all = all ≡ before
AddSettings before (setting ∷ more) all = IsKnownSetting setting × (has before setting ≡ false) × AddSettings (with_setting before setting) more all

-- beside those from before the words give settings, in any order, and then all are those
pub record GiveSettings (before : Settings) (words : List (List ℕ)) (all : Settings) : Type 0 where
  pub given : List Setting
  pub spelled : words ≡ flat_map setting_words given
  pub adds : AddSettings before given all
