-- The command of each form: what may stand behind the form's word.
use Rattle.std.specs.Prelude.{true, codes, Some}
use Rattle.clap.specs.Words.{App, Rule, Text, new_app, new_rule, with_rule}
use Rattle.clap.specs.declared.builder.action.ArgAction.TheVariants.{SetTrue}

-- a command that takes what it is given alone
abbrev pub bare_app : Text → App
bare_app name = record (new_app name) { top = record (new_app name).top { no_binary_name = true; disable_help_flag = true; disable_version_flag = true } }

-- an option with a value behind it
abbrev pub valued_rule : Text → Rule
valued_rule name = record (new_rule name) { long = Some name }

-- an option by itself
abbrev pub plain_rule : Text → Rule
plain_rule name = record (new_rule name) { long = Some name; action = Some SetTrue }

-- a word at its position
abbrev pub number_rule : Text → Rule
number_rule name = record (new_rule name) { required = true }

-- the command of each form
abbrev pub play_app : App
play_app = with_rule (with_rule (with_rule (bare_app (codes "play")) (valued_rule (codes "pace"))) (plain_rule (codes "brief"))) (plain_rule (codes "press"))

abbrev pub run_app : App
run_app = with_rule (with_rule (with_rule (bare_app (codes "run")) (valued_rule (codes "pace"))) (plain_rule (codes "locked"))) (valued_rule (codes "patience"))

abbrev pub make_app : App
make_app = with_rule (with_rule (with_rule (bare_app (codes "make")) (number_rule (codes "start"))) (number_rule (codes "seats"))) (number_rule (codes "lines"))
