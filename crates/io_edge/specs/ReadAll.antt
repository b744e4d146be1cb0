-- What reading to the end does to a source's count of faults.
use Rattle.std.specs.Prelude.{◌≡◌, ℕ, ◌≤◌, Result, Ok, Err}
use Rattle.io_edge.specs.declared.reading.ReadAllFault.{ReadAllFault}
use Rattle.io_edge.specs.declared.reading.ReadAllFault.TheVariants.{ReadFault, TooLong, Memory}
use Rattle.io_edge.specs.Faults.{Rose}

-- a ReadFault comes with a risen count, and nothing else changes it
abbrev pub CountsReadFault : {T : Type 0} → Result T ReadAllFault → ℕ → ℕ → Type 0
CountsReadFault (Ok value) old new = new ≡ old
CountsReadFault (Err ReadFault) old new = (old ≤ new) × Rose old new
CountsReadFault (Err TooLong) old new = new ≡ old
CountsReadFault (Err Memory) old new = new ≡ old
