-- What the commands of a play and of a run have of words.
use Rattle.std.proofs.Common.{◌≡◌, ◌||◌, ℕ, Bool, true, false, List, [], ◌∷◌, Option, Some, None, refl, sym, ap, ap₂, ◌∙◌, subst, codes, cond}
use Rattle.std.specs.List.{flat_map}
use Rattle.std.specs.Str.{bytes_eq}
use Rattle.std.proofs.lemmas.Slice.Eq.{bytes_eq-Decides}
use Rattle.clap.specs.Walk.{Held, Row, Rule, Text, arg_by_index, arg_by_short, default_rows, finished, has_row, nothing_held, reading_by, settled, walk, walk_from, with_default}
use Rattle.clap.specs.Simple.{App, built, entered, matches_of}
use Rattle.clap.specs.Kinds.{or_else}
use Rattle.clap.specs.Faults.{check_fault, default_fault, defaults_fault, entered_fault, fault_of, given_default_fault, settle_fault, walk_fault}
use Rattle.form_words.specs.Commands.{play_app, run_app}
use Rattle.form_words.specs.Joined.{are_apart}
use Rattle.form_words.proofs.OptionSteps.{NameCase, or_else_empty_both_empty, plain, plain_built, shape_with, unknown, valued, valued_built, with_flags}
use Rattle.form_words.proofs.OptionWalk.{AllSpelled, Given, Grows, Reads, given_words, given_options_are_taken, taken_words_give_options}

-- the options of a play and of a run
abbrev pub play_rules : List Rule
play_rules = valued_built (codes "pace") ∷ plain_built (codes "brief") ∷ plain_built (codes "press") ∷ []

abbrev pub play_flags : List Text
play_flags = codes "brief" ∷ codes "press" ∷ []

abbrev pub run_rules : List Rule
run_rules = valued_built (codes "pace") ∷ plain_built (codes "locked") ∷ valued_built (codes "patience") ∷ []

abbrev pub run_flags : List Text
run_flags = codes "locked" ∷ []

pub play_cases : (name : Text) → NameCase play_rules name
play_cases name = by (bytes_eq (codes "pace") name) refl (bytes_eq (codes "brief") name) refl (bytes_eq (codes "press") name) refl where
  by : (x : Bool) → bytes_eq (codes "pace") name ≡ x → (y : Bool) → bytes_eq (codes "brief") name ≡ y → (z : Bool) → bytes_eq (codes "press") name ≡ z → NameCase play_rules name
  by true is y is' z is'' = subst (NameCase play_rules) ((bytes_eq-Decides (codes "pace") name).0 is) (valued refl refl)
  by false is true is' z is'' = subst (NameCase play_rules) ((bytes_eq-Decides (codes "brief") name).0 is') (plain refl)
  by false is false is' true is'' = subst (NameCase play_rules) ((bytes_eq-Decides (codes "press") name).0 is'') (plain refl)
  by false is false is' false is'' = unknown (rw (is, is', is'') refl)

pub run_cases : (name : Text) → NameCase run_rules name
run_cases name = by (bytes_eq (codes "pace") name) refl (bytes_eq (codes "locked") name) refl (bytes_eq (codes "patience") name) refl where
  by : (x : Bool) → bytes_eq (codes "pace") name ≡ x → (y : Bool) → bytes_eq (codes "locked") name ≡ y → (z : Bool) → bytes_eq (codes "patience") name ≡ z → NameCase run_rules name
  by true is y is' z is'' = subst (NameCase run_rules) ((bytes_eq-Decides (codes "pace") name).0 is) (valued refl refl)
  by false is true is' z is'' = subst (NameCase run_rules) ((bytes_eq-Decides (codes "locked") name).0 is') (plain refl)
  by false is false is' true is'' = subst (NameCase run_rules) ((bytes_eq-Decides (codes "patience") name).0 is'') (valued refl refl)
  by false is false is' false is'' = unknown (rw (is, is', is'') refl)

-- the defaults of options are no fault, and those of options with values are none
valued_default : (name : Text) (rows : List Row) → (default_fault rows (valued_built name) ≡ []) × (with_default rows (valued_built name) ≡ rows)
valued_default name rows = by (has_row name rows) where
  by : (has : Bool) → (cond (has || true) [] (given_default_fault (valued_built name) []) ≡ []) × (cond has rows (default_rows name (reading_by (valued_built name)) [] rows) ≡ rows)
  by true = (refl, refl)
  by false = (refl, refl)

plain_default : (name : Text) (rows : List Row) → default_fault rows (plain_built name) ≡ []
plain_default name rows = by (has_row name rows) where
  by : (has : Bool) → cond (has || false) [] (given_default_fault (plain_built name) (codes "false" ∷ [])) ≡ []
  by true = refl
  by false = refl

-- a command with no subcommand enters none
none_entered : (app : App) (stop : Option (Text × List Text)) → app.subs ≡ [] → (entered_fault app stop ≡ []) × (entered app stop ≡ None)
none_entered app None none = (refl, refl)
none_entered app (Some p) none = rw none (refl, refl)

-- what the command finds: the rows of the options that words give, and the defaults of its flags
pub record IsFound (c : List Rule) (flags : List Text) (words : List Text) (rows : List Row) : Type 0 where
  pub after : List Row
  pub reads : Reads c words [] after
  pub is : rows ≡ with_flags flags after

-- what the command takes
pub record IsTaken (app : App) (flags : List Text) (words : List Text) (after : List Row) : Type 0 where
  pub apart : are_apart words ≡ true
  pub faultless : fault_of app words ≡ []
  pub is : matches_of app words ≡ with_flags flags after

-- a built command of options alone, of which these are flags
pub record IsOptional (app : App) (form : Text) (flags : List Text) (c : List Rule) : Type 0 where
  pub built_is : built app ≡ record { top = shape_with form c; subs = [] }
  pub nameless : app.top.no_binary_name ≡ true
  pub cases : (name : Text) → NameCase c name
  pub no_short : (x : ℕ) → arg_by_short c x ≡ None
  pub no_position : (i : ℕ) → arg_by_index c i ≡ None
  pub defaults : (rows : List Row) → defaults_fault rows c ≡ []
  pub checks : (rows : List Row) → check_fault (shape_with form c) rows false ≡ []
  pub ends : (h : Held) → finished c h ≡ with_flags flags (settled c h).rows

-- the faults of a command with no subcommand, a part after another, and its matches
module _ (app : App) (form : Text) (c : List Rule) (built_is : built app ≡ record { top = shape_with form c; subs = [] }) (nameless : app.top.no_binary_name ≡ true) where
  pub fault_is_of_its_parts : (words : List Text) → let end : Held = (walk c [] nothing_held words).held in
      fault_of app words ≡ or_else (walk_fault (shape_with form c) [] (walk_from nothing_held) words) (or_else (settle_fault c false end)
      (or_else (defaults_fault (settled c end).rows c) (check_fault (shape_with form c) (finished c end) false)))
  fault_is_of_its_parts words =
      let entered_none = none_entered (record { top = shape_with form c; subs = [] }) (walk c [] nothing_held words).stopped refl in
      rw (built_is, nameless, entered_none.0, entered_none.1) refl

  pub matches_are_walked_rows : (words : List Text) → matches_of app words ≡ finished c (walk c [] nothing_held words).held
  matches_are_walked_rows words = rw (built_is, nameless) refl

module _ (app : App) (form : Text) (flags : List Text) (c : List Rule) (is : IsOptional app form flags c) where
  pub walked_words_are_found : (words : List Text) → are_apart words ≡ true → fault_of app words ≡ [] → IsFound c flags words (matches_of app words)
  walked_words_are_found words apart none =
      let end = (walk c [] nothing_held words).held in
      let first = or_else_empty_both_empty (walk_fault (shape_with form c) [] (walk_from nothing_held) words) _ (sym (fault_is_of_its_parts app form c is.built_is is.nameless words) ∙ none) in
      let second = or_else_empty_both_empty (settle_fault c false end) _ first.1 in
      let read = taken_words_give_options form c is.cases is.no_short is.no_position words [] None (record { apart = apart; faultless = first.0; settles_last = second.0 }) in
      record { after = (settled c end).rows; reads = read.1; is = matches_are_walked_rows app form c is.built_is is.nameless words ∙ is.ends end }

  pub given_words_are_taken : (given : List Given) (after : List Row) → AllSpelled given → Grows c [] given after → IsTaken app flags (flat_map given_words given) after
  given_words_are_taken given after spelled grows =
      let words = flat_map given_words given in
      let end = (walk c [] nothing_held words).held in
      let gone = given_options_are_taken form c is.cases is.no_short is.no_position given [] None after refl spelled grows in
      record {
        apart = gone.0.apart;
        faultless = fault_is_of_its_parts app form c is.built_is is.nameless words ∙ ap₂ or_else gone.0.faultless (ap₂ or_else gone.0.settles_last (ap₂ or_else (is.defaults (settled c end).rows) (is.checks (finished c end))));
        is = matches_are_walked_rows app form c is.built_is is.nameless words ∙ is.ends end ∙ ap (with_flags flags) gone.1;
      }

pub play_app_is_optional : IsOptional play_app (codes "play") play_flags play_rules
unfolding defaults_fault
play_app_is_optional = record {
  built_is = refl;
  nameless = refl;
  cases = play_cases;
  no_short = λ x. refl;
  no_position = λ i. refl;
  defaults = λ rows.
      let first = with_default rows (valued_built (codes "pace")) in
      let second = with_default first (plain_built (codes "brief")) in
      ap₂ or_else (valued_default (codes "pace") rows).0 (ap₂ or_else (plain_default (codes "brief") first) (ap₂ or_else (plain_default (codes "press") second) refl));
  checks = λ rows. refl;
  ends = λ h. ap (with_flags play_flags) (valued_default (codes "pace") (settled play_rules h).rows).1;
}

pub run_app_is_optional : IsOptional run_app (codes "run") run_flags run_rules
unfolding defaults_fault
run_app_is_optional = record {
  built_is = refl;
  nameless = refl;
  cases = run_cases;
  no_short = λ x. refl;
  no_position = λ i. refl;
  defaults = λ rows.
      let first = with_default rows (valued_built (codes "pace")) in
      let second = with_default first (plain_built (codes "locked")) in
      ap₂ or_else (valued_default (codes "pace") rows).0 (ap₂ or_else (plain_default (codes "locked") first) (ap₂ or_else (valued_default (codes "patience") second).0 refl));
  checks = λ rows. refl;
  ends = λ h.
      let rows = (settled run_rules h).rows in
      (valued_default (codes "patience") (with_default (with_default rows (valued_built (codes "pace"))) (plain_built (codes "locked")))).1
      ∙ ap (with_flags run_flags) (valued_default (codes "pace") rows).1;
}
