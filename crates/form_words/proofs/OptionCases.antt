-- Which option of a form each one is that was given.
use Rattle.std.proofs.Common.{◌≡◌, Bool, true, false, List, Option, Some, None, refl, sym, ap, ◌∙◌, subst, codes}
use Rattle.std.specs.Prelude.{option_map}
use Rattle.std.specs.Str.{bytes_eq}
use Rattle.std.proofs.lemmas.Slice.Eq.{bytes_eq-Decides}
use Rattle.clap.specs.Walk.{Rule, Text, arg_by_long}
use Rattle.form_words.proofs.OptionSteps.{plain_built, valued_built}
use Rattle.form_words.proofs.OptionWalk.{Given, IsOption}
use Rattle.form_words.proofs.OptionForms.{play_rules, run_rules}

-- the option that was given is this one
pub data OptionCase (x : Given) : Type 0 where
  is_pace : (value : Text) → x ≡ (codes "pace", Some value) → OptionCase x
  is_brief : x ≡ (codes "brief", None) → OptionCase x
  is_press : x ≡ (codes "press", None) → OptionCase x
  is_locked : x ≡ (codes "locked", None) → OptionCase x
  is_patience : (value : Text) → x ≡ (codes "patience", Some value) → OptionCase x

-- an option with a value behind it is none by itself
pub valued_is_not_plain : (name : Text) → ◌≡◌ {A = Option Rule} (Some (valued_built name)) (Some (plain_built name)) → ⊥
valued_is_not_plain name e = let actions = ap (option_map (λ (r : Rule). r.defaults)) e in cc

pace_case : (c : List Rule) (value : Option Text) → arg_by_long c (codes "pace") ≡ Some (valued_built (codes "pace")) → IsOption c (codes "pace", value) → OptionCase (codes "pace", value)
pace_case c None is own = absurd (valued_is_not_plain (codes "pace") (sym is ∙ own))
pace_case c (Some value) is own = is_pace value refl

patience_case : (c : List Rule) (value : Option Text) → arg_by_long c (codes "patience") ≡ Some (valued_built (codes "patience")) → IsOption c (codes "patience", value) → OptionCase (codes "patience", value)
patience_case c None is own = absurd (valued_is_not_plain (codes "patience") (sym is ∙ own))
patience_case c (Some value) is own = is_patience value refl

-- and an option by itself has none
plain_has_no_value : (c : List Rule) (name : Text) (value : Option Text) → arg_by_long c name ≡ Some (plain_built name) → IsOption c (name, value) → ◌≡◌ {A = Given} (name, value) (name, None)
plain_has_no_value c name None is own = refl
plain_has_no_value c name (Some value) is own = absurd (valued_is_not_plain name (sym own.0 ∙ is))

pub unknown_option_has_no_case : (c : List Rule) (name : Text) (value : Option Text) → arg_by_long c name ≡ None → IsOption c (name, value) → ⊥
unknown_option_has_no_case c name None none own = let bad = sym none ∙ own in cc
unknown_option_has_no_case c name (Some value) none own = let bad = sym none ∙ own.0 in cc

pub equal_option_names : (a b : Text) → bytes_eq a b ≡ true → a ≡ b
equal_option_names a b = (bytes_eq-Decides a b).0

pub play_option_has_case : (x : Given) → IsOption play_rules x → OptionCase x
play_option_has_case (name, value) own = by (bytes_eq (codes "pace") name) refl (bytes_eq (codes "brief") name) refl (bytes_eq (codes "press") name) refl where
  by : (x : Bool) → bytes_eq (codes "pace") name ≡ x → (y : Bool) → bytes_eq (codes "brief") name ≡ y → (z : Bool) → bytes_eq (codes "press") name ≡ z → OptionCase (name, value)
  by true is y is' z is'' = subst (λ n. IsOption play_rules (n, value) → OptionCase (n, value)) (equal_option_names (codes "pace") name is) (pace_case play_rules value refl) own
  by false is true is' z is'' = subst (λ n. IsOption play_rules (n, value) → OptionCase (n, value)) (equal_option_names (codes "brief") name is') (λ own. is_brief (plain_has_no_value play_rules (codes "brief") value refl own)) own
  by false is false is' true is'' = subst (λ n. IsOption play_rules (n, value) → OptionCase (n, value)) (equal_option_names (codes "press") name is'') (λ own. is_press (plain_has_no_value play_rules (codes "press") value refl own)) own
  by false is false is' false is'' = absurd (unknown_option_has_no_case play_rules name value (rw (is, is', is'') refl) own)

pub run_option_has_case : (x : Given) → IsOption run_rules x → OptionCase x
run_option_has_case (name, value) own = by (bytes_eq (codes "pace") name) refl (bytes_eq (codes "locked") name) refl (bytes_eq (codes "patience") name) refl where
  by : (x : Bool) → bytes_eq (codes "pace") name ≡ x → (y : Bool) → bytes_eq (codes "locked") name ≡ y → (z : Bool) → bytes_eq (codes "patience") name ≡ z → OptionCase (name, value)
  by true is y is' z is'' = subst (λ n. IsOption run_rules (n, value) → OptionCase (n, value)) (equal_option_names (codes "pace") name is) (pace_case run_rules value refl) own
  by false is true is' z is'' = subst (λ n. IsOption run_rules (n, value) → OptionCase (n, value)) (equal_option_names (codes "locked") name is') (λ own. is_locked (plain_has_no_value run_rules (codes "locked") value refl own)) own
  by false is false is' true is'' = subst (λ n. IsOption run_rules (n, value) → OptionCase (n, value)) (equal_option_names (codes "patience") name is'') (patience_case run_rules value refl) own
  by false is false is' false is'' = absurd (unknown_option_has_no_case run_rules name value (rw (is, is', is'') refl) own)
