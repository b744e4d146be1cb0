-- What the texts of a form's flags tell, and that of another flag.
use Rattle.std.proofs.Common.{◌≡◌, ◌≢◌, ◌⊎◌, Bool, true, false, List, [], ◌∷◌, ◌++◌, Some, None, inl, inr, refl, sym, ap, ◌∙◌, subst, codes, cond, true≢false}
use Rattle.std.specs.Prelude.{is_some, option_and_then}
use Rattle.std.specs.List.{AllByRecursion}
use Rattle.std.specs.Str.{bytes_eq}
use Rattle.std.proofs.lemmas.Slice.Eq.{bytes_eq-Decides}
use Rattle.clap.specs.Walk.{Row, Text, has_row, more_values, one_of, row_text, with_default}
use Rattle.clap.specs.declared.builder.value_parser.Reading.TheVariants.{AsWritten}
use Rattle.clap.specs.declared.parser.matches.ValueSource.TheVariants.{DefaultValue}
use Rattle.form_words.specs.Matched.{IsFlag}
use Rattle.form_words.proofs.OptionSteps.{missing_row_is_added, plain_built, with_flags}
use Rattle.form_words.proofs.SettingRows.{flag_row, has_row_is_some_row, row_at, row_kept_by_other, new_row_is_found}

abbrev default_row : Text → Row
default_row flag = record { id = flag; values = codes "false" ∷ []; count = None; source = Some DefaultValue; reading = AsWritten }

default_new : (flag : Text) (rows : List Row) → has_row flag rows ≡ false → with_default rows (plain_built flag) ≡ rows ++ default_row flag ∷ []
default_new flag rows none = rw none (missing_row_is_added flag (more_values DefaultValue (codes "false" ∷ [])) _ rows none)

default_old : (flag : Text) (rows : List Row) → has_row flag rows ≡ true → with_default rows (plain_built flag) ≡ rows
default_old flag rows is = rw is refl

default_keeps_other_rows : (id flag : Text) (rows : List Row) → bytes_eq flag id ≡ false → row_at id (with_default rows (plain_built flag)) ≡ row_at id rows
default_keeps_other_rows id flag rows other = by (has_row flag rows) refl where
  by : (b : Bool) → has_row flag rows ≡ b → row_at id (with_default rows (plain_built flag)) ≡ row_at id rows
  by true is = ap (row_at id) (default_old flag rows is)
  by false is = ap (row_at id) (default_new flag rows is) ∙ row_kept_by_other id rows (default_row flag) other

abbrev pub flag_text : Bool → Text
flag_text flag = cond flag (codes "true") (codes "false")

-- the text of the flag itself
one_flag_has_text : (flag : Text) (after : List Row) (b : Bool) → row_at flag after ≡ flag_row b flag → one_of flag (with_default after (plain_built flag)) ≡ Some (flag_text b)
one_flag_has_text flag after true is = ap (one_of flag) (default_old flag after (has_row_is_some_row flag after ∙ ap is_some is)) ∙ ap (option_and_then row_text) is
one_flag_has_text flag after false is =
    ap (one_of flag) (default_new flag after (has_row_is_some_row flag after ∙ ap is_some is))
    ∙ ap (option_and_then row_text) (new_row_is_found flag after (default_row flag) is ((bytes_eq-Decides flag flag).1 refl))

-- these are flags of other names
abbrev pub AreOthers : Text → List Text → Type 0
AreOthers id flags = AllByRecursion (λ flag. bytes_eq flag id ≡ false) flags

pub flags_keep_other_rows : (id : Text) (flags : List Text) (rows : List Row) → AreOthers id flags → row_at id (with_flags flags rows) ≡ row_at id rows
flags_keep_other_rows id [] rows others = refl
flags_keep_other_rows id (flag ∷ flags) rows others = flags_keep_other_rows id flags (with_default rows (plain_built flag)) others.1 ∙ default_keeps_other_rows id flag rows others.0

-- it is one of these flags, and the others have other names
abbrev pub IsAmong : Text → List Text → Type 0
IsAmong id [] = ⊥
IsAmong id (flag ∷ flags) = ((flag ≡ id) × AreOthers id flags) ⊎ ((bytes_eq flag id ≡ false) × IsAmong id flags)

-- the text of one of the flags, and of another one
pub own_flag_has_text : (id : Text) (flags : List Text) (after : List Row) (b : Bool) → IsAmong id flags → row_at id after ≡ flag_row b id → one_of id (with_flags flags after) ≡ Some (flag_text b)
own_flag_has_text id [] after b none is = absurd none
own_flag_has_text id (flag ∷ flags) after b (inl (same, others)) is =
    ap (option_and_then row_text) (flags_keep_other_rows id flags (with_default after (plain_built flag)) others)
    ∙ subst (λ f. one_of id (with_default after (plain_built f)) ≡ Some (flag_text b)) (sym same) (one_flag_has_text id after b is)
own_flag_has_text id (flag ∷ flags) after b (inr (other, among)) is = own_flag_has_text id flags (with_default after (plain_built flag)) b among (default_keeps_other_rows id flag after other ∙ is)

pub other_flag_has_default_text : (id : Text) (flags : List Text) (after : List Row) (b : Bool) → AreOthers id flags → row_at id after ≡ flag_row b id → one_of id (with_flags flags after) ≡ cond b (Some (codes "true")) None
other_flag_has_default_text id flags after true others is = ap (option_and_then row_text) (flags_keep_other_rows id flags after others ∙ is)
other_flag_has_default_text id flags after false others is = ap (option_and_then row_text) (flags_keep_other_rows id flags after others ∙ is)

differ : codes "true" ≢ codes "false"
differ e = true≢false (ap (bytes_eq (codes "true")) e)

is_true : IsFlag true (Some (codes "true"))
is_true = record { none = λ e. cc; given = λ e. refl; other = λ e. absurd (differ (cc)) }

is_false : IsFlag false (Some (codes "false"))
is_false = record { none = λ e. refl; given = λ e. absurd (differ (cc)); other = λ e. refl }

is_none : IsFlag false None
is_none = record { none = λ e. refl; given = λ e. cc; other = λ e. refl }

pub own_text_is_flag : (id : Text) (flags : List Text) (after : List Row) (b : Bool) → IsAmong id flags → row_at id after ≡ flag_row b id → IsFlag b (one_of id (with_flags flags after))
own_text_is_flag id flags after true among is = subst (IsFlag true) (sym (own_flag_has_text id flags after true among is)) is_true
own_text_is_flag id flags after false among is = subst (IsFlag false) (sym (own_flag_has_text id flags after false among is)) is_false

pub other_text_is_flag : (id : Text) (flags : List Text) (after : List Row) (b : Bool) → AreOthers id flags → row_at id after ≡ flag_row b id → IsFlag b (one_of id (with_flags flags after))
other_text_is_flag id flags after true others is = subst (IsFlag true) (sym (other_flag_has_default_text id flags after true others is)) is_true
other_text_is_flag id flags after false others is = subst (IsFlag false) (sym (other_flag_has_default_text id flags after false others is)) is_none
