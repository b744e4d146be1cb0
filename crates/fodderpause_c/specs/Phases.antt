-- What C is told of phases.
use Rattle.std.specs.Prelude.{ℕ, Option, Some, None, Result, Ok, Err}
use Rattle.fodderpause_c.specs.Codes.{refusal_code}
use Rattle.fodderpause_c.specs.declared.codes.TheConstants.{DONE}
use Rattle.fodderpause_c.specs.declared.phases.Behind.{Behind}
use Rattle.fodderpause_c.specs.declared.phases.Phase.{Phase}
use Rattle.fodderpause_c.specs.declared.refusal.Refusal.{Refusal}

-- a phase
abbrev pub phase_shown : Result ℕ Refusal → Phase
phase_shown (Ok phase) = record { code = DONE; phase = phase }
phase_shown (Err refusal) = record { code = refusal_code refusal; phase = 0 }

-- whether a seat is behind, and if so what it answered last, and the phase
abbrev pub behind_shown : Result (Option (ℕ × ℕ)) Refusal → Behind
behind_shown (Ok (Some found)) = record { code = DONE; behind = 1; answered = found.0; phase = found.1 }
behind_shown (Ok None) = record { code = DONE; behind = 0; answered = 0; phase = 0 }
behind_shown (Err refusal) = record { code = refusal_code refusal; behind = 0; answered = 0; phase = 0 }
