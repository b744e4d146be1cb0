-- The commands of a seat that not every text has.
use Rattle.std.specs.Prelude.{ℕ, ◌==◌, Bool, true, List, bytes_eq, codes, if◌then◌else◌}
use Rattle.script_text.specs.declared.command_set.CommandSet.{CommandSet}

-- those of a script or a history: the cas is there from version 2 on
abbrev pub version_commands : ℕ → CommandSet
version_commands version = record { cas = version == 2; collect = true }

-- whether a text that has these has the command of this name, if it is one
abbrev pub has_command : CommandSet → List ℕ → Bool
has_command has name = if bytes_eq name (codes "cas") then has.cas else if bytes_eq name (codes "collect") then has.collect else true
