-- What a command has of words.
use Rattle.std.specs.Prelude.{◌≡◌, ℕ, Bool, true, false, List, [], codes, decimal, Some, None, Option, IfSome, option_map}
use Rattle.clap.specs.Words.{App, Row, Text, fault_of, first_of, matches_of, one_of}
use Rattle.heap_model.specs.Command.{IsWithin}
use Rattle.form_words.specs.Joined.{are_apart}
use Rattle.form_words.specs.declared.pace.PaceName.{PaceName}
use Rattle.form_words.specs.declared.setting.Settings.{Settings}
use Rattle.form_words.specs.declared.work.Work.{Work}
use Rattle.form_words.specs.declared.work.Work.TheVariants.{Make}
use Rattle.form_words.specs.Settings.{most_patience, pace_word}
use Rattle.form_words.specs.Works.{MayBeMade}

-- the command takes the words, each of which is an option, a value or a word at a position
pub record Takes (app : App) (words : List (List ℕ)) : Type 0 where
  pub apart : are_apart words ≡ true
  pub faultless : fault_of app words ≡ []

-- a flag as it was found: as its text says, and not given where there is none
pub record IsFlag (flag : Bool) (text : Option Text) : Type 0 where
  pub none : text ≡ None → flag ≡ false
  pub given : text ≡ Some (codes "true") → flag ≡ true
  pub other : text ≡ Some (codes "false") → flag ≡ false

-- the pace that was found, and the patience, which is in its range
abbrev pub HasPace : List Row → Option PaceName → Type 0
HasPace rows pace = first_of (codes "pace") rows ≡ option_map pace_word pace

abbrev pub HasPatience : List Row → Option ℕ → Type 0
HasPatience rows patience = (first_of (codes "patience") rows ≡ option_map decimal patience) × IfSome patience (IsWithin 1 most_patience)

-- the values that were found are those of the settings
pub record HasValues (rows : List Row) (all : Settings) : Type 0 where
  pub pace : HasPace rows all.pace
  pub patience : HasPatience rows all.patience

-- and so are the flags
pub record HasFlags (rows : List Row) (all : Settings) : Type 0 where
  pub brief : IsFlag all.brief (one_of (codes "brief") rows)
  pub press : IsFlag all.press (one_of (codes "press") rows)
  pub locked : IsFlag all.locked (one_of (codes "locked") rows)

-- the command finds the settings in the words
pub record FindsSettings (app : App) (words : List (List ℕ)) (all : Settings) : Type 0 where
  pub takes : Takes app words
  pub values : HasValues (matches_of app words) all
  pub flags : HasFlags (matches_of app words) all

-- the numbers that were found are those of the making
abbrev pub FindsMaking : List Row → Work → Type 0
FindsMaking rows (Make start seats lines) =
    MayBeMade start seats lines
    × (first_of (codes "start") rows ≡ Some (decimal start)) × (first_of (codes "seats") rows ≡ Some (decimal seats)) × (first_of (codes "lines") rows ≡ Some (decimal lines))
FindsMaking rows work = ⊥
