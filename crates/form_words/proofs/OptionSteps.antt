-- What a word is to a command of options alone: one of its names, a value or a word at a position, or refused.
use Rattle.std.proofs.Common.{◌≡◌, ◌==◌, ◌||◌, ◌+◌, suc, ℕ, Bool, true, false, not, List, [], ◌∷◌, ◌++◌, length, Option, Some, None, refl, sym, ap, ap₂, ◌∙◌, subst, arith, append-nil, codes, cond, true≢false}
use Rattle.std.specs.Prelude.{slice_get}
use Rattle.std.specs.List.{before_first, after_first, prefix_len}
use Rattle.std.specs.Str.{bytes_eq, chars}
use Rattle.std.proofs.lemmas.Bool.{eqb-true}
use Rattle.std.proofs.lemmas.Slice.Eq.{bytes_eq-Decides}
use Rattle.form_words.specs.Commands.{bare_app, plain_rule, valued_rule}
use Rattle.form_words.specs.Joined.{is_joined, is_joined_name}
use Rattle.clap.specs.Lexer.{has_byte, long_of, short_of}
use Rattle.clap.specs.Walk.{Held, Row, Rule, Text, Waiting, Walk, idle, option, positional, arg_by_id, arg_by_index, arg_by_long, arg_by_short, at_row, bundle_met, has_row, more_values, plain_word, values_or_missing, settled, subcommand_met, used, walk_from, walked, with_default, without, word_met}
use Rattle.clap.specs.Simple.{Shape, built, filled}
use Rattle.clap.specs.Kinds.{Kinds, or_else}
use Rattle.clap.specs.Faults.{flags_fault, repeat_fault, settle_fault, turn_fault, word_fault}
use Rattle.clap.specs.declared.builder.value_parser.Reading.TheVariants.{AsWritten}
use Rattle.clap.specs.declared.error.kind.ErrorKind.TheVariants as kind
use Rattle.clap.specs.declared.parser.matches.ValueSource.TheVariants.{CommandLine}

-- the built shape of a command with these rules
abbrev pub shape_with : Text → List Rule → Shape
shape_with form c = record (built (bare_app form)).top { rules = c }

or_false : (a b : Bool) → (a || b) ≡ false → (a ≡ false) × (b ≡ false)
or_false true b e = cc
or_false false b e = (refl, e)

has_no : (x : ℕ) (xs : List ℕ) → has_byte 61 (x ∷ xs) ≡ false → ((x == 61) ≡ false) × (has_byte 61 xs ≡ false)
has_no x xs none = or_false (x == 61) (has_byte 61 xs) none

lacks_sign : (name : List ℕ) → has_byte 61 name ≡ false → before_first (λ x. x == 61) name ≡ name
lacks_sign [] none = refl
lacks_sign (x ∷ xs) none =
    let parts = has_no x xs none in
    let rest : before_first (λ y. y == 61) xs ≡ xs = lacks_sign xs parts.1 in
    let one : 1 + prefix_len (λ y. not (y == 61)) xs ≡ suc (prefix_len (λ y. not (y == 61)) xs) = omega arith in
    rw (parts.0, one) (ap (λ t. x ∷ t) rest)

-- what a name behind two dashes is
long_name : (x : ℕ) (xs : List ℕ) → is_joined_name (x ∷ xs) ≡ false → long_of (45 ∷ 45 ∷ x ∷ xs) ≡ Some (x ∷ xs, None)
long_name x xs apart =
    let none : has_byte 61 (x ∷ xs) ≡ false = (or_false (length (x ∷ xs) == 0) _ apart).1 in
    ap₂ (λ (name : List ℕ) (value : Option (List ℕ)). Some (name, value)) (lacks_sign (x ∷ xs) none) (ap (λ b. cond b (Some (after_first (λ y. y == 61) (x ∷ xs))) None) none)

no_subcommand : (waiting : Waiting) (word : Text) → subcommand_met [] waiting word ≡ None
no_subcommand idle word = refl
no_subcommand (option id) word = refl
no_subcommand positional word = refl

module _ (form : Text) (c : List Rule) (no_short : (x : ℕ) → arg_by_short c x ≡ None) where
  pub data WordCase (word : Text) : Type 0 where
    named : (name : Text) → word ≡ 45 ∷ 45 ∷ name → long_of word ≡ Some (name, None) → bytes_eq word (45 ∷ 45 ∷ []) ≡ false → WordCase word
    refused : ((waiting : Waiting) (rows : List Row) (pending : Option (Text × List Text)) → word_fault (shape_with form c) [] false waiting word (record { rows = rows; pending = pending; skip = 0 }) ≡ kind.UnknownArgument ∷ []) → WordCase word
    loose : ((waiting : Waiting) (position : ℕ) (rows : List Row) (pending : Option (Text × List Text)) →
        let h : Held = record { rows = rows; pending = pending; skip = 0 } in
        (word_fault (shape_with form c) [] false waiting word h ≡ []) × (word_met c [] false waiting position word h ≡ plain_word c waiting word h)) → WordCase word

  -- a word without a dash is loose
  pub dashless_word_is_loose : (word : Text) → bytes_eq word (45 ∷ 45 ∷ []) ≡ false → long_of word ≡ None → short_of word ≡ None → (waiting : Waiting) (position : ℕ) (rows : List Row) (pending : Option (Text × List Text))
      → let h : Held = record { rows = rows; pending = pending; skip = 0 } in
      (word_fault (shape_with form c) [] false waiting word h ≡ []) × (word_met c [] false waiting position word h ≡ plain_word c waiting word h)
  dashless_word_is_loose word other long short waiting position rows pending = rw (no_subcommand waiting word, other, long, short) (refl, refl)

  no_dash : (word : Text) → bytes_eq word (45 ∷ 45 ∷ []) ≡ false → long_of word ≡ None → short_of word ≡ None → WordCase word
  no_dash word other long short = loose (dashless_word_is_loose word other long short)

  -- a word with one dash is refused by its first letter
  one_dash : (word : Text) (x : ℕ) (xs : List ℕ) → bytes_eq word (45 ∷ 45 ∷ []) ≡ false → long_of word ≡ None → short_of word ≡ Some (x ∷ xs) → WordCase word
  unfolding flags_fault bundle_met
  one_dash word x xs other long short = by (slice_get (chars (x ∷ xs)) 0) refl where
    by : (first : Option ℕ) → slice_get (chars (x ∷ xs)) 0 ≡ first → WordCase word
    by None none = loose (λ waiting position rows pending. rw (no_subcommand waiting word, other, long, short, none) (refl, refl))
    by (Some letter) is = refused (λ waiting rows pending. rw (no_subcommand waiting word, other, long, short, is, no_short letter) refl)

  pub each_word_has_case : (word : Text) → is_joined word ≡ false → WordCase word
  each_word_has_case [] apart = no_dash [] refl refl refl
  each_word_has_case (x ∷ xs) apart = by (x == 45) refl xs apart where
    more : (y : ℕ) (ys : List ℕ) (dash : Bool) → (y == 45) ≡ dash → is_joined (45 ∷ y ∷ ys) ≡ false → WordCase (45 ∷ y ∷ ys)
    more y ys false other apart = one_dash (45 ∷ y ∷ ys) y ys (rw other refl) (rw other refl) (rw other refl)
    more y [] true is apart = absurd (true≢false (sym (rw is refl) ∙ apart))
    more y (z ∷ zs) true is apart = subst (λ (n : ℕ). is_joined (45 ∷ n ∷ z ∷ zs) ≡ false → WordCase (45 ∷ n ∷ z ∷ zs)) (sym (eqb-true y 45 is)) (λ apart. named (z ∷ zs) refl (long_name z zs apart) refl) apart

    dashed : (xs : List ℕ) → is_joined (45 ∷ xs) ≡ false → WordCase (45 ∷ xs)
    dashed [] apart = no_dash (45 ∷ []) refl refl refl
    dashed (y ∷ ys) apart = more y ys (y == 45) refl apart

    by : (dash : Bool) → (x == 45) ≡ dash → (xs : List ℕ) → is_joined (x ∷ xs) ≡ false → WordCase (x ∷ xs)
    by false other xs apart = no_dash (x ∷ xs) (rw other refl) (rw other refl) (rw other refl)
    by true is xs apart = subst (λ (n : ℕ). is_joined (n ∷ xs) ≡ false → WordCase (n ∷ xs)) (sym (eqb-true x 45 is)) (dashed xs) apart

-- an option with a value behind it, and one by itself, of a built command
abbrev pub valued_built : Text → Rule
valued_built name = filled (valued_rule name)

abbrev pub plain_built : Text → Rule
plain_built name = filled (plain_rule name)

-- what a name of the command stands for
pub data NameCase (c : List Rule) (name : Text) : Type 0 where
  unknown : arg_by_long c name ≡ None → NameCase c name
  plain : arg_by_long c name ≡ Some (plain_built name) → NameCase c name
  valued : arg_by_long c name ≡ Some (valued_built name) → arg_by_id c name ≡ Some (valued_built name) → NameCase c name

-- the rows with the defaults of flags
abbrev pub with_flags : List Text → List Row → List Row
with_flags [] rows = rows
with_flags (flag ∷ flags) rows = with_flags flags (with_default rows (plain_built flag))

abbrev pub held : List Row → Option (Text × List Text) → Held
held rows pending = record { rows = rows; pending = pending; skip = 0 }

-- the walk that waits for the value of an option
abbrev pub waits : Text → List Row → Walk
waits name rows = record (walk_from (held rows (Some (name, [])))) { waiting = option name }

abbrev pub refusal : Kinds
refusal = kind.UnknownArgument ∷ []

or_else_nil : (kinds : Kinds) → or_else kinds [] ≡ kinds
or_else_nil [] = refl
or_else_nil (k ∷ ks) = refl

module _ (form : Text) (c : List Rule) (no_position : (i : ℕ) → arg_by_index c i ≡ None) where
  -- at an option by itself
  pub step_at_plain_option : (word name : Text) (rows : List Row) (pending : Option (Text × List Text)) → long_of word ≡ Some (name, None) → bytes_eq word (45 ∷ 45 ∷ []) ≡ false
      → arg_by_long c name ≡ Some (plain_built name)
      → let h : Held = held rows pending in
      (turn_fault (shape_with form c) [] (walk_from h) word ≡ or_else (settle_fault c false h) (repeat_fault false name (settled c h).rows))
      × (walked c [] (walk_from h) word ≡ walk_from (held (used (plain_built name) [] (settled c h).rows) None))
  unfolding walked
  step_at_plain_option word name rows pending long other is = rw (other, long, is) (or_else_nil _ ∙ ap (or_else (settle_fault c false (held rows pending))) (or_else_nil _), refl)

  -- at an option with a value behind it
  pub step_at_valued_option : (word name : Text) (rows : List Row) (pending : Option (Text × List Text)) → long_of word ≡ Some (name, None) → bytes_eq word (45 ∷ 45 ∷ []) ≡ false
      → arg_by_long c name ≡ Some (valued_built name)
      → let h : Held = held rows pending in
      (turn_fault (shape_with form c) [] (walk_from h) word ≡ settle_fault c false h) × (walked c [] (walk_from h) word ≡ waits name (settled c h).rows)
  unfolding walked
  step_at_valued_option word name rows pending long other is = rw (other, long, is) (or_else_nil _, refl)

  -- at a name that the command lacks
  pub unknown_name_is_refused : (word name : Text) (rows : List Row) (pending : Option (Text × List Text)) → long_of word ≡ Some (name, None) → bytes_eq word (45 ∷ 45 ∷ []) ≡ false
      → arg_by_long c name ≡ None → turn_fault (shape_with form c) [] (walk_from (held rows pending)) word ≡ refusal
  unknown_name_is_refused word name rows pending long other is = rw (other, long, is) refl

  -- where a value is due, a name that the command has finds none
  pub name_is_no_value : (word name due : Text) (rows : List Row) → long_of word ≡ Some (name, None) → bytes_eq word (45 ∷ 45 ∷ []) ≡ false
      → arg_by_id c due ≡ Some (valued_built due) → NameCase c name → turn_fault (shape_with form c) [] (waits due rows) word ≡ [] → ⊥
  name_is_no_value word name due rows long other id (unknown none) faultless = let told = rw (other, long, none) at faultless in cc
  name_is_no_value word name due rows long other id (plain is) faultless = let told = rw (other, long, is, id) at faultless in cc
  name_is_no_value word name due rows long other id (valued is same) faultless = let told = rw (other, long, is, id) at faultless in cc

  -- a word that is no name is refused, or has no position
  pub nameless_word_is_refused : (word : Text) (rows : List Row) (pending : Option (Text × List Text)) (waiting : Waiting)
      → word_fault (shape_with form c) [] false waiting word (held rows pending) ≡ refusal
      → turn_fault (shape_with form c) [] (record (walk_from (held rows pending)) { waiting = waiting }) word ≡ refusal
  nameless_word_is_refused word rows pending waiting is = rw is refl

  pub loose_word_is_refused : (word : Text) (rows : List Row) (pending : Option (Text × List Text))
      → let h : Held = held rows pending in
      (word_fault (shape_with form c) [] false idle word h ≡ []) × (word_met c [] false idle 1 word h ≡ plain_word c idle word h)
      → turn_fault (shape_with form c) [] (walk_from h) word ≡ refusal
  loose_word_is_refused word rows pending is = rw (is.0, is.1, no_position 1) refl

  -- a word that is no name is the value of the option that waits for one
  pub due_value_is_taken : (word due : Text) (rows : List Row) → arg_by_id c due ≡ Some (valued_built due)
      → let h : Held = held rows (Some (due, [])) in
      (word_fault (shape_with form c) [] false (option due) word h ≡ []) × (word_met c [] false (option due) 1 word h ≡ plain_word c (option due) word h)
      → (turn_fault (shape_with form c) [] (waits due rows) word ≡ []) × (walked c [] (waits due rows) word ≡ walk_from (held rows (Some (due, word ∷ []))))
  unfolding walked
  due_value_is_taken word due rows id is =
      let same : bytes_eq due due ≡ true = (bytes_eq-Decides due due).1 refl in
      rw (is.0, is.1, id, same) (refl, refl)

  -- the use of the option that is pending with one value, and with none
  pub pending_value_settles : (due value : Text) (rows : List Row) → arg_by_id c due ≡ Some (valued_built due)
      → (settle_fault c false (held rows (Some (due, value ∷ []))) ≡ repeat_fault false due rows)
      × ((settled c (held rows (Some (due, value ∷ [])))).rows ≡ used (valued_built due) (value ∷ []) rows)
  pending_value_settles due value rows id = rw id (or_else_nil _, refl)

  pub missing_value_is_invalid : (due : Text) (rows : List Row) → arg_by_id c due ≡ Some (valued_built due) → settle_fault c false (held rows (Some (due, []))) ≡ kind.InvalidValue ∷ []
  missing_value_is_invalid due rows id = rw id refl

-- ---- rows

pub missing_row_is_added : (id : Text) (change : Row → List Row) (missing rows : List Row) → has_row id rows ≡ false → at_row id change missing rows ≡ rows ++ missing
missing_row_is_added id change missing [] none = refl
missing_row_is_added id change missing (r ∷ rs) none =
    let parts = or_false (bytes_eq r.id id) (has_row id rs) none in
    rw parts.0 (ap (λ rest. r ∷ rest) (missing_row_is_added id change missing rs parts.1))

-- the row of a setting: its name, with its value where it has one
abbrev pub row_of_words : Text × Option Text → Row
row_of_words (name, None) = record { id = name; values = codes "true" ∷ []; count = None; source = Some CommandLine; reading = AsWritten }
row_of_words (name, Some value) = record { id = name; values = value ∷ []; count = None; source = Some CommandLine; reading = AsWritten }

not_there : (id : Text) (rows : List Row) → has_row id rows ≡ false → without id rows ≡ rows
not_there id rows none = missing_row_is_added id (λ _. []) [] rows none ∙ append-nil rows

pub plain_use_adds_row : (name : Text) (rows : List Row) → has_row name rows ≡ false → used (plain_built name) [] rows ≡ rows ++ row_of_words (name, None) ∷ []
plain_use_adds_row name rows none = rw (not_there name rows none) (missing_row_is_added name (more_values CommandLine (values_or_missing (plain_built name) [])) _ rows none)

pub valued_use_adds_row : (name value : Text) (rows : List Row) → has_row name rows ≡ false → used (valued_built name) (value ∷ []) rows ≡ rows ++ row_of_words (name, Some value) ∷ []
valued_use_adds_row name value rows none = rw (not_there name rows none) (missing_row_is_added name (more_values CommandLine (values_or_missing (valued_built name) (value ∷ []))) _ rows none)

pub has_no_such_row : (name : Text) (rows : List Row) → repeat_fault false name rows ≡ [] → has_row name rows ≡ false
has_no_such_row name rows none = by (has_row name rows) refl where
  by : (has : Bool) → has_row name rows ≡ has → has_row name rows ≡ false
  by true is = let told = rw is at none in cc
  by false is = is

pub no_repeat_fault : (name : Text) (rows : List Row) → has_row name rows ≡ false → repeat_fault false name rows ≡ []
no_repeat_fault name rows none = rw none refl

pub or_else_empty_both_empty : (a b : Kinds) → or_else a b ≡ [] → (a ≡ []) × (b ≡ [])
or_else_empty_both_empty [] b is = (refl, is)
or_else_empty_both_empty (k ∷ ks) b is = cc
