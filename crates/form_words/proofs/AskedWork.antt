-- Words ask for one work alone: they are decoded, form by form.
use Rattle.std.proofs.Common.{◌≡◌, ℕ, Bool, true, false, List, [], ◌∷◌, length, nat_lt, Option, Some, None, bytes_eq, decimal, unwrap_or, refl, ap, ◌∙◌, arith}
use Rattle.std.specs.Prelude.{codes, slice_index_or, IfSome}
use Rattle.std.specs.Map.{lookup}
use Rattle.std.specs.Str.Parse.{digits_value}
use Rattle.heap_model.specs.Command.{IsWithin}
use Rattle.form_words.specs.declared.kind.TextKind.{TextKind}
use Rattle.form_words.specs.declared.kind.TextKind.TheVariants.{Script, History}
use Rattle.form_words.specs.declared.pace.PaceName.{PaceName}
use Rattle.form_words.specs.declared.pace.PaceName.TheVariants.{Steady}
use Rattle.form_words.specs.declared.setting.Settings.{Settings}
use Rattle.form_words.specs.declared.work.Work.{Work}
use Rattle.form_words.specs.declared.work.Work.TheVariants.{Play, Run, Check, Plan, Make, Migrate, Crew, Queue}
use Rattle.form_words.specs.Settings.{most_patience}
use Rattle.form_words.specs.Works.{form_word, usual_patience, AskFor, Completes, IsRunSettings, IsWork}
use Rattle.form_words.proofs.GivenSettings.{digits_value-decimal, given_patience_in_range, settings_of, settings_of-given}

-- the play and the run of settings
abbrev play_by : Settings → Work
play_by settings = Play settings.pace settings.brief settings.press

abbrev run_by : Settings → Work
run_by settings = Run (unwrap_or settings.pace Steady) settings.locked (unwrap_or settings.patience usual_patience)

-- the making of a script by three words
abbrev make_by : List (List ℕ) → Work
make_by words =
    let at : ℕ → ℕ = λ k. digits_value 10 (slice_index_or words k []) in
    Make (at 0) (at 1) (at 2)

-- the migration of the text that a word names
abbrev kinds : List (List ℕ × TextKind)
kinds = (codes "script", Script) ∷ (codes "history", History) ∷ []

abbrev migrate_by : List (List ℕ) → Work
migrate_by words = Migrate (unwrap_or (lookup (bytes_eq (slice_index_or words 0 [])) kinds) Script)

-- the run of a crew, whose history is told where a word asks for it
abbrev crew_by : List (List ℕ) → Work
crew_by words = Crew (nat_lt 0 (length words))

-- the work of each form, by its word, that the words behind it ask for if they ask for any
abbrev works_by_form : List (List ℕ) → List (List ℕ × Work)
works_by_form rest =
    (codes "play", play_by (settings_of rest))
    ∷ (codes "run", run_by (settings_of rest))
    ∷ (codes "check", Check)
    ∷ (codes "plan", Plan)
    ∷ (codes "make", make_by rest)
    ∷ (codes "migrate", migrate_by rest)
    ∷ (codes "crew", crew_by rest)
    ∷ (codes "queue", Queue)
    ∷ []

-- the work that words ask for if they ask for any
abbrev pub work_of : List (List ℕ) → Option Work
work_of [] = None
work_of (form ∷ rest) = lookup (bytes_eq form) (works_by_form rest)

run_by-settings : (pace : PaceName) (locked : Bool) (patience : ℕ) (settings : Settings) → IsRunSettings pace locked patience settings → run_by settings ≡ Run pace locked patience
run_by-settings pace locked patience settings is = cc (is.pace_is, is.locked_is, is.patience_is)

make_by-words : (start seats lines : ℕ) → Completes (decimal start ∷ decimal seats ∷ decimal lines ∷ []) (Make start seats lines) → make_by (decimal start ∷ decimal seats ∷ decimal lines ∷ []) ≡ Make start seats lines
make_by-words start seats lines made =
    let first = digits_value-decimal start (omega (arith, made.0.0)) in
    let second = digits_value-decimal seats (omega (arith, made.0.1.1)) in
    let third = digits_value-decimal lines (omega (arith, made.0.2)) in
    cc (first, second, third)

-- words that ask for a work ask for the one that they are decoded to
pub work_of-asked : (words : List (List ℕ)) (work : Work) → AskFor words work → work_of words ≡ Some work
work_of-asked words work asked = ap work_of asked.begins ∙ by asked.rest work asked.completes where
  by : (rest : List (List ℕ)) (work : Work) → Completes rest work → work_of (form_word work ∷ rest) ≡ Some work
  by rest (Play pace brief press) gives = ap (λ (s : Settings). Some (play_by s)) (settings_of-given rest _ gives)
  by rest (Run pace locked patience) (settings, gives, is) = ap (λ (s : Settings). Some (run_by s)) (settings_of-given rest settings gives) ∙ ap Some (run_by-settings pace locked patience settings is)
  by rest Check none = refl
  by rest Plan none = refl
  by rest Queue none = refl
  by rest (Migrate Script) spelled = ap (λ (words : List (List ℕ)). Some (migrate_by words)) spelled
  by rest (Migrate History) spelled = ap (λ (words : List (List ℕ)). Some (migrate_by words)) spelled
  by rest (Crew false) spelled = ap (λ (words : List (List ℕ)). Some (crew_by words)) spelled
  by rest (Crew true) spelled = ap (λ (words : List (List ℕ)). Some (crew_by words)) spelled
  by rest (Make start seats lines) (fits, spelled) =
      ap (λ (words : List (List ℕ)). Some (make_by words)) spelled ∙ ap Some (make_by-words start seats lines (fits, refl))

-- so they ask for one alone
pub asked_work_is_one : (words : List (List ℕ)) (work other : Work) → AskFor words work → AskFor words other → work ≡ other
asked_work_is_one words work other asked asked' =
    let one = work_of-asked words work asked in
    let again = work_of-asked words other asked' in
    cc

-- what completes a work has its numbers in their ranges
pub completed_work_is_in_range : (rest : List (List ℕ)) (work : Work) → Completes rest work → IsWork work
completed_work_is_in_range rest (Play pace brief press) gives = tt
completed_work_is_in_range rest Check none = tt
completed_work_is_in_range rest Plan none = tt
completed_work_is_in_range rest Queue none = tt
completed_work_is_in_range rest (Migrate kind) spelled = tt
completed_work_is_in_range rest (Crew history) spelled = tt
completed_work_is_in_range rest (Make start seats lines) made = made.0
completed_work_is_in_range rest (Run pace locked patience) (settings, gives, is) = by settings.patience is.patience_is (given_patience_in_range rest settings gives) where
  by : (given : Option ℕ) → patience ≡ unwrap_or given usual_patience → IfSome given (IsWithin 1 most_patience) → IsWithin 1 most_patience patience
  by None same within = (omega (arith, same), omega (arith, same))
  by (Some n) same within = (omega (arith, same, within.0), omega (arith, same, within.1))
