-- Which forms words have, and what they ask for.
use Rattle.std.specs.Prelude.{◌≡◌, ℕ, ◌≤◌, Bool, false, List, [], ◌∷◌, codes, decimal, unwrap_or, if◌then◌else◌}
use Rattle.heap_model.specs.Command.{IsWithin}
use Rattle.heap_model.specs.Limits.{most_seats}
use Rattle.script_text.specs.Made.{most_start, most_made_lines}
use Rattle.form_words.specs.declared.kind.TextKind.{TextKind}
use Rattle.form_words.specs.declared.kind.TextKind.TheVariants.{Script, History}
use Rattle.form_words.specs.declared.pace.PaceName.{PaceName}
use Rattle.form_words.specs.declared.pace.PaceName.TheVariants.{Steady}
use Rattle.form_words.specs.declared.setting.Settings.{Settings}
use Rattle.form_words.specs.declared.work.Work.{Work}
use Rattle.form_words.specs.declared.work.Work.TheVariants.{Play, Run, Check, Plan, Make, Migrate, Crew, Queue}
use Rattle.form_words.specs.Settings.{no_settings, most_patience, GiveSettings}

-- the word with which a form begins
abbrev pub form_word : Work → List ℕ
form_word (Play pace brief press) = codes "play"
form_word (Run pace locked patience) = codes "run"
form_word Check = codes "check"
form_word Plan = codes "plan"
form_word (Make start seats lines) = codes "make"
form_word (Migrate kind) = codes "migrate"
form_word (Crew history) = codes "crew"
form_word Queue = codes "queue"

-- the word that names a kind of text
abbrev pub kind_word : TextKind → List ℕ
kind_word Script = codes "script"
kind_word History = codes "history"

-- the option by which a crew's history is told
abbrev pub history_words : Bool → List (List ℕ)
history_words history = if history then codes "--history" ∷ [] else []

-- a script may be made from this start, for so many seats and of so many lines
abbrev pub MayBeMade : ℕ → ℕ → ℕ → Type 0
MayBeMade start seats lines = (start ≤ most_start) × IsWithin 1 most_seats seats × (lines ≤ most_made_lines)

-- the work's numbers are in their ranges
abbrev pub IsWork : Work → Type 0
IsWork (Run pace locked patience) = IsWithin 1 most_patience patience
IsWork (Make start seats lines) = MayBeMade start seats lines
IsWork work = Unit {0}

-- the patience of a run for which none is given
abbrev pub usual_patience : ℕ
usual_patience = 1000

-- the settings are those of a run; its pace is the steady one where none is given
pub record IsRunSettings (pace : PaceName) (locked : Bool) (patience : ℕ) (settings : Settings) : Type 0 where
  pub pace_is : pace ≡ unwrap_or settings.pace Steady
  pub locked_is : settings.locked ≡ locked
  pub patience_is : patience ≡ unwrap_or settings.patience usual_patience
  pub not_brief : settings.brief ≡ false
  pub not_pressed : settings.press ≡ false

-- the words behind the form's word say the rest of the work
abbrev pub Completes : List (List ℕ) → Work → Type 0
Completes rest (Play pace brief press) = GiveSettings no_settings rest (record no_settings { pace = pace; brief = brief; press = press })
Completes rest (Run pace locked patience) = (settings : Settings) × GiveSettings no_settings rest settings × IsRunSettings pace locked patience settings
Completes rest Check = rest ≡ []
Completes rest Plan = rest ≡ []
Completes rest (Make start seats lines) = MayBeMade start seats lines × (rest ≡ decimal start ∷ decimal seats ∷ decimal lines ∷ [])
Completes rest (Migrate kind) = rest ≡ kind_word kind ∷ []
Completes rest (Crew history) = rest ≡ history_words history
Completes rest Queue = rest ≡ []

-- the words after the program's name ask for the work
pub record AskFor (words : List (List ℕ)) (work : Work) : Type 0 where
  pub rest : List (List ℕ)
  pub begins : words ≡ form_word work ∷ rest
  pub completes : Completes rest work

-- the words are a form
abbrev pub IsForm : List (List ℕ) → Type 0
IsForm words = (work : Work) × AskFor words work

-- the work has an input
abbrev pub HasInput : Work → Type 0
HasInput (Make start seats lines) = ⊥
HasInput work = Unit {0}

-- the most bytes of a script, or of a crew's or a queue's text
abbrev pub most_script : ℕ
most_script = 1048576

-- the most bytes of a history
abbrev pub most_history : ℕ
most_history = 16777216

-- the most bytes of a text that is migrated: what is written has four bytes more at most
abbrev pub most_migrated : TextKind → ℕ
most_migrated Script = 1048572
most_migrated History = 16777212

-- the most bytes of an input
abbrev pub most_bytes : Work → ℕ
most_bytes (Play pace brief press) = most_script
most_bytes (Run pace locked patience) = most_script
most_bytes Check = most_history
most_bytes Plan = most_history
most_bytes (Make start seats lines) = 0
most_bytes (Migrate kind) = most_migrated kind
most_bytes (Crew history) = most_script
most_bytes Queue = most_script
