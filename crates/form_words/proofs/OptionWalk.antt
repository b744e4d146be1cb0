-- A command of options alone takes just the words that give options of its own, each once at most.
use Rattle.std.proofs.Common.{◌≡◌, ℕ, true, false, List, [], ◌∷◌, ◌++◌, Option, Some, None, refl, sym, ap, ap₂, ◌∙◌, subst}
use Rattle.std.specs.List.{fold, flat_map}
use Rattle.std.specs.Str.{bytes_eq}
use Rattle.clap.specs.Lexer.{long_of, short_of}
use Rattle.clap.specs.Walk.{Held, Row, Rule, Text, Walk, idle, option, arg_by_id, arg_by_index, arg_by_long, arg_by_short, has_row, settled, used, walk_from, walked}
use Rattle.clap.specs.Kinds.{or_else}
use Rattle.clap.specs.Faults.{repeat_fault, settle_fault, turn_fault, walk_fault}
use Rattle.form_words.specs.Joined.{are_apart, is_joined}
use Rattle.form_words.proofs.OptionSteps.{NameCase, WordCase, loose_word_is_refused, step_at_plain_option, nameless_word_is_refused, unknown_name_is_refused, due_value_is_taken, step_at_valued_option, held, dashless_word_is_loose, name_is_no_value, named, loose, refused, has_no_such_row, missing_value_is_invalid, or_else_empty_both_empty, plain, plain_built, plain_use_adds_row, refusal, no_repeat_fault, row_of_words, pending_value_settles, shape_with, unknown, valued, valued_built, valued_use_adds_row, waits, each_word_has_case}
use Rattle.form_words.proofs.FirstWord.{first_word_is_taken}

-- an option as it was given: its name, with its value where it has one
abbrev pub Given : Type 0
Given = Text × Option Text

abbrev pub given_words : Given → List Text
given_words (name, None) = (45 ∷ 45 ∷ name) ∷ []
given_words (name, Some value) = (45 ∷ 45 ∷ name) ∷ value ∷ []

-- the command has the option
abbrev pub IsOption : List Rule → Given → Type 0
IsOption c (name, None) = arg_by_long c name ≡ Some (plain_built name)
IsOption c (name, Some value) = (arg_by_long c name ≡ Some (valued_built name)) × (arg_by_id c name ≡ Some (valued_built name))

-- the options that were given add their rows, each kind its first one
abbrev pub Grows : List Rule → List Row → List Given → List Row → Type 0
Grows c rows [] after = after ≡ rows
Grows c rows (x ∷ xs) after = IsOption c x × (has_row x.0 rows ≡ false) × Grows c (rows ++ row_of_words x ∷ []) xs after

-- the word is neither a name nor refused for its dash
pub record IsLoose (word : Text) : Type 0 where
  pub no_end : bytes_eq word (45 ∷ 45 ∷ []) ≡ false
  pub no_name : long_of word ≡ None
  pub no_letters : short_of word ≡ None

-- the name is read as it stands
pub record IsName (name : Text) : Type 0 where
  pub no_end : bytes_eq (45 ∷ 45 ∷ name) (45 ∷ 45 ∷ []) ≡ false
  pub named : long_of (45 ∷ 45 ∷ name) ≡ Some (name, None)
  pub apart : is_joined (45 ∷ 45 ∷ name) ≡ false

-- the words of the option are read as they stand
abbrev pub AreSpelled : Given → Type 0
AreSpelled (name, None) = IsName name
AreSpelled (name, Some value) = IsName name × IsLoose value × (is_joined value ≡ false)

abbrev pub AllSpelled : List Given → Type 0
AllSpelled [] = Unit {0}
AllSpelled (x ∷ xs) = AreSpelled x × AllSpelled xs

-- the words give options, which add their rows
pub record Reads (c : List Rule) (words : List Text) (rows after : List Row) : Type 0 where
  pub given : List Given
  pub spelled : words ≡ flat_map given_words given
  pub grows : Grows c rows given after

-- the first word is the value of the option that is due, and the others give options
pub record ReadsValue (c : List Rule) (due : Text) (words : List Text) (rows after : List Row) : Type 0 where
  pub value : Text
  pub rest : List Text
  pub is : words ≡ value ∷ rest
  pub new : has_row due rows ≡ false
  pub more : Reads c rest (rows ++ row_of_words (due, Some value) ∷ []) after

reads_plain : (c : List Rule) (name : Text) (words : List Text) (rows after : List Row) → arg_by_long c name ≡ Some (plain_built name) → has_row name rows ≡ false
    → Reads c words (used (plain_built name) [] rows) after → Reads c ((45 ∷ 45 ∷ name) ∷ words) rows after
reads_plain c name words rows after is new more = record {
  given = (name, None) ∷ more.given;
  spelled = ap (λ ws. (45 ∷ 45 ∷ name) ∷ ws) more.spelled;
  grows = (is, new, subst (λ rs. Grows c rs more.given after) (plain_use_adds_row name rows new) more.grows);
}

reads_valued : (c : List Rule) (name : Text) (words : List Text) (rows after : List Row) → IsOption c (name, Some [])
    → ReadsValue c name words rows after → Reads c ((45 ∷ 45 ∷ name) ∷ words) rows after
reads_valued c name words rows after is read = record {
  given = (name, Some read.value) ∷ read.more.given;
  spelled = ap (λ ws. (45 ∷ 45 ∷ name) ∷ ws) (read.is ∙ ap (λ ws. read.value ∷ ws) read.more.spelled);
  grows = (is, read.new, read.more.grows);
}

module _ (form : Text) (c : List Rule) (cases : (name : Text) → NameCase c name) (no_short : (x : ℕ) → arg_by_short c x ≡ None) (no_position : (i : ℕ) → arg_by_index c i ≡ None) where
  abbrev pub end_of : Walk → List Text → Held
  end_of w words = (fold (walked c []) w words).held

  -- the walk goes over the words to the end with no fault
  pub record Ends (w : Walk) (words : List Text) : Type 0 where
    pub apart : are_apart words ≡ true
    pub faultless : walk_fault (shape_with form c) [] w words ≡ []
    pub settles_last : settle_fault c false (end_of w words) ≡ []

  record Turns (w : Walk) (word : Text) (words : List Text) : Type 0 where
    apart : is_joined word ≡ false
    faultless : turn_fault (shape_with form c) [] w word ≡ []
    more : Ends (walked c [] w word) words

  turns : (w : Walk) (word : Text) (words : List Text) → Ends w (word ∷ words) → Turns w word words
  turns w word words ends =
      let first = first_word_is_taken (shape_with form c) w word words ends.apart ends.faultless in
      record { apart = first.apart; faultless = first.faultless; more = record { apart = first.others_apart; faultless = first.goes_on; settles_last = ends.settles_last } }

  ends_more : (w : Walk) (word : Text) (words : List Text) → Turns w word words → Ends w (word ∷ words)
  unfolding walk_fault
  ends_more w word words turn = record {
    apart = rw turn.apart turn.more.apart;
    faultless = rw turn.faultless turn.more.faultless;
    settles_last = turn.more.settles_last;
  }

  -- the rows at the end, after a turn and the words behind it
  abbrev rows_after_turn : Walk → Text → List Text → List Row
  rows_after_turn w word words = (settled c (end_of (walked c [] w word) words)).rows

  abbrev IdleReads : List Text → Type 0
  IdleReads words = (rows : List Row) (pending : Option (Text × List Text)) → Ends (walk_from (held rows pending)) words
      → (settle_fault c false (held rows pending) ≡ []) × Reads c words (settled c (held rows pending)).rows (settled c (end_of (walk_from (held rows pending)) words)).rows

  abbrev WaitingReads : List Text → Type 0
  WaitingReads words = (due : Text) (rows : List Row) → arg_by_id c due ≡ Some (valued_built due) → Ends (waits due rows) words
      → ReadsValue c due words rows (settled c (end_of (waits due rows) words)).rows

  abbrev IdleTurn : Text → List Text → List Row → Option (Text × List Text) → Type 0
  IdleTurn word words rows pending =
      (settle_fault c false (held rows pending) ≡ [])
      × Reads c (word ∷ words) (settled c (held rows pending)).rows (settled c (end_of (walked c [] (walk_from (held rows pending)) word) words)).rows

  idle_more : (word : Text) (words : List Text) → IdleReads words → WaitingReads words → IdleReads (word ∷ words)
  idle_more word words more value rows pending ends = by (each_word_has_case form c no_short word turn.apart) where
    turn : Turns (walk_from (held rows pending)) word words
    turn = turns (walk_from (held rows pending)) word words ends

    by_name : (name : Text) → word ≡ 45 ∷ 45 ∷ name → long_of word ≡ Some (name, None) → bytes_eq word (45 ∷ 45 ∷ []) ≡ false → NameCase c name → IdleTurn word words rows pending
    by_name name spelled long other (unknown none) = let told = unknown_name_is_refused form c no_position word name rows pending long other none in let bad : refusal ≡ [] = sym told ∙ turn.faultless in cc
    by_name name spelled long other (plain is) =
        let at = step_at_plain_option form c no_position word name rows pending long other is in
        let parts = or_else_empty_both_empty (settle_fault c false (held rows pending)) (repeat_fault false name (settled c (held rows pending)).rows) (sym at.0 ∙ turn.faultless) in
        let new = has_no_such_row name (settled c (held rows pending)).rows parts.1 in
        let next = more (used (plain_built name) [] (settled c (held rows pending)).rows) None (subst (λ w. Ends w words) at.1 turn.more) in
        let read = subst (λ w. Reads c words (used (plain_built name) [] (settled c (held rows pending)).rows) (settled c (end_of w words)).rows) (sym at.1) next.1 in
        (parts.0, subst (λ t. Reads c (t ∷ words) (settled c (held rows pending)).rows (rows_after_turn (walk_from (held rows pending)) word words)) (sym spelled) (reads_plain c name words (settled c (held rows pending)).rows (rows_after_turn (walk_from (held rows pending)) word words) is new read))
    by_name name spelled long other (valued is same) =
        let at = step_at_valued_option form c no_position word name rows pending long other is in
        let next = value name (settled c (held rows pending)).rows same (subst (λ w. Ends w words) at.1 turn.more) in
        let read = subst (λ w. ReadsValue c name words (settled c (held rows pending)).rows (settled c (end_of w words)).rows) (sym at.1) next in
        (sym at.0 ∙ turn.faultless, subst (λ t. Reads c (t ∷ words) (settled c (held rows pending)).rows (rows_after_turn (walk_from (held rows pending)) word words)) (sym spelled) (reads_valued c name words (settled c (held rows pending)).rows (rows_after_turn (walk_from (held rows pending)) word words) (is, same) read))

    by : WordCase form c no_short word → IdleTurn word words rows pending
    by (named name spelled long other) = by_name name spelled long other (cases name)
    by (refused is) = let bad : refusal ≡ [] = sym (nameless_word_is_refused form c no_position word rows pending idle (is idle rows pending)) ∙ turn.faultless in cc
    by (loose is) = let bad : refusal ≡ [] = sym (loose_word_is_refused form c no_position word rows pending (is idle 1 rows pending)) ∙ turn.faultless in cc

  waiting_more : (word : Text) (words : List Text) → IdleReads words → WaitingReads (word ∷ words)
  waiting_more word words more due rows id ends = by (each_word_has_case form c no_short word turn.apart) where
    turn : Turns (waits due rows) word words
    turn = turns (waits due rows) word words ends

    by : WordCase form c no_short word → ReadsValue c due (word ∷ words) rows (settled c (end_of (walked c [] (waits due rows) word) words)).rows
    by (named name spelled long other) = absurd (name_is_no_value form c no_position word name due rows long other id (cases name) turn.faultless)
    by (refused is) = let bad : refusal ≡ [] = sym (nameless_word_is_refused form c no_position word rows (Some (due, [])) (option due) (is (option due) rows (Some (due, [])))) ∙ turn.faultless in cc
    by (loose is) =
        let at = due_value_is_taken form c no_position word due rows id (is (option due) 1 rows (Some (due, []))) in
        let next = more rows (Some (due, word ∷ [])) (subst (λ w. Ends w words) at.1 turn.more) in
        let settle = pending_value_settles form c no_position due word rows id in
        let new = has_no_such_row due rows (sym settle.0 ∙ next.0) in
        let same = settle.1 ∙ valued_use_adds_row due word rows new in
        let read = subst (λ w. Reads c words (settled c (held rows (Some (due, word ∷ [])))).rows (settled c (end_of w words)).rows) (sym at.1) next.1 in
        record { value = word; rest = words; is = refl; new = new; more = subst (λ rs. Reads c words rs (settled c (end_of (walked c [] (waits due rows) word) words)).rows) same read }

  idle_none : IdleReads []
  idle_none rows pending ends = (ends.settles_last, record { given = []; spelled = refl; grows = refl })

  waiting_none : WaitingReads []
  waiting_none due rows id ends = let bad = sym (missing_value_is_invalid form c no_position due rows id) ∙ ends.settles_last in cc

  reads_both : (words : List Text) → IdleReads words × WaitingReads words
  reads_both [] = (idle_none, waiting_none)
  reads_both (word ∷ words) = let both = reads_both words in (idle_more word words both.0 both.1, waiting_more word words both.0)

  -- words that are taken give options
  pub taken_words_give_options : (words : List Text) → IdleReads words
  taken_words_give_options words = (reads_both words).0

  -- options that are given are taken
  pub given_options_are_taken : (given : List Given) (rows : List Row) (pending : Option (Text × List Text)) (after : List Row) → settle_fault c false (held rows pending) ≡ [] → AllSpelled given
      → Grows c (settled c (held rows pending)).rows given after
      → Ends (walk_from (held rows pending)) (flat_map given_words given) × ((settled c (end_of (walk_from (held rows pending)) (flat_map given_words given))).rows ≡ after)
  unfolding walk_fault
  given_options_are_taken [] rows pending after settle spelled grows = (record { apart = refl; faultless = refl; settles_last = settle }, sym grows)
  given_options_are_taken ((name, None) ∷ more) rows pending after settle spelled grows =
      let now = (settled c (held rows pending)).rows in
      let at = step_at_plain_option form c no_position (45 ∷ 45 ∷ name) name rows pending spelled.0.named spelled.0.no_end grows.0 in
      let next = given_options_are_taken more (used (plain_built name) [] now) None after refl spelled.1 (subst (λ rs. Grows c rs more after) (sym (plain_use_adds_row name now grows.1)) grows.2) in
      let ends = subst (λ w. Ends w (flat_map given_words more)) (sym at.1) next.0 in
      let faultless = at.0 ∙ ap₂ or_else settle (no_repeat_fault name now grows.1) in (
        ends_more (walk_from (held rows pending)) (45 ∷ 45 ∷ name) (flat_map given_words more) (record { apart = spelled.0.apart; faultless = faultless; more = ends }),
        subst (λ w. (settled c (end_of w (flat_map given_words more))).rows ≡ after) (sym at.1) next.1,
      )
  given_options_are_taken ((name, Some value) ∷ more) rows pending after settle spelled grows =
      let now = (settled c (held rows pending)).rows in
      let words = flat_map given_words more in
      let at = step_at_valued_option form c no_position (45 ∷ 45 ∷ name) name rows pending spelled.0.0.named spelled.0.0.no_end grows.0.0 in
      let loose = dashless_word_is_loose form c no_short value spelled.0.1.no_end spelled.0.1.no_name spelled.0.1.no_letters (option name) 1 now (Some (name, [])) in
      let taken = due_value_is_taken form c no_position value name now grows.0.1 loose in
      let settle' = pending_value_settles form c no_position name value now grows.0.1 in
      let same = settle'.1 ∙ valued_use_adds_row name value now grows.1 in
      let next = given_options_are_taken more now (Some (name, value ∷ [])) after (settle'.0 ∙ no_repeat_fault name now grows.1) spelled.1 (subst (λ rs. Grows c rs more after) (sym same) grows.2) in
      let ends = subst (λ w. Ends w words) (sym taken.1) next.0 in
      let valued = ends_more (waits name now) value words (record { apart = spelled.0.2; faultless = taken.0; more = ends }) in
      let ends' = subst (λ w. Ends w (value ∷ words)) (sym at.1) valued in
      let rows_are = subst (λ w. (settled c (end_of w words)).rows ≡ after) (sym taken.1) next.1 in (
        ends_more (walk_from (held rows pending)) (45 ∷ 45 ∷ name) (value ∷ words) (record { apart = spelled.0.0.apart; faultless = at.0 ∙ settle; more = ends' }),
        subst (λ w. (settled c (end_of w (value ∷ words))).rows ≡ after) (sym at.1) rows_are,
      )
