-- What giving back a reserve has done.
use Rattle.std.specs.Prelude.{ℕ, ◌<◌, List, length}
use Rattle.core_machine.specs.declared.step.MakingStep.TheVariants.{GiveBack}
use Rattle.core_machine.specs.declared.step.Step.TheVariants.{Making}
use Rattle.core_machine.specs.calls.Kept.{WasMade}
use Rattle.core_machine.specs.table.Fragments.{mask_of}
use Rattle.heap_table.specs.Made.{Made, FoundIn}

-- where there were some, one of these steps gave back just the fragments of the reserve, which are of the cursor's group
abbrev pub GivesBackReserve : List Made → ℕ → List ℕ → Type 0
GivesBackReserve made cursor reserve = 0 < length reserve → WasMade (FoundIn made) (Making (GiveBack cursor (mask_of reserve)))
