-- What reading a text says of it.
use Rattle.std.specs.Prelude.{◌≡◌, Option, Some, Result, Ok, Err}
use Rattle.script_text.specs.declared.cause.LineFault.{LineFault}
use Rattle.script_text.specs.declared.cause.ScriptFault.{ScriptFault}
use Rattle.script_text.specs.declared.cause.ScriptFault.TheVariants as faults

-- this fault of the text kept it from being read; nothing is said where memory ran out
abbrev pub FailsBy : Option LineFault → ScriptFault → Type 0
FailsBy fault faults.Memory = Unit {0}
FailsBy fault (faults.Line found) = fault ≡ Some found

-- what was read is the one value that the text spells, and a text with a fault spells none
abbrev pub GivesOnly : {A : Type 0} → (A → Type 0) → Result A ScriptFault → Type 0
GivesOnly {A = A} Spells (Ok read) = (other : A) → Spells other → other ≡ read
GivesOnly Spells (Err faults.Memory) = Unit {0}
GivesOnly {A = A} Spells (Err (faults.Line found)) = (other : A) → Spells other → ⊥
