use Rattle.std.specs.Prelude.{ℕ, ◌+◌, ◌-◌, ◌*◌, ◌/◌, ◌%◌, ◌^◌, ◌<◌}
use Rattle.heap_words.specs.declared.phase.Phase.{Phase}

-- how many phases come before this one, seven in each cycle
abbrev pub phase_number : Phase → ℕ
phase_number phase = 7 * phase.cycle + phase.k

-- k is one of a cycle's seven, and the phase's number is below the largest word
abbrev pub IsPhase : Phase → Type 0
IsPhase phase = (phase.k < 7) × (phase_number phase < 2 ^ 64 - 1)

-- the phase with this many before it
abbrev pub phase_of : ℕ → Phase
phase_of number = record { cycle = number / 7; k = number % 7 }
