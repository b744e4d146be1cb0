-- The codes that C is told.
use Rattle.std.specs.Prelude.{ℕ, Result, Ok, Err}
use Rattle.fodderpause_c.specs.declared.refusal.Refusal.{Refusal}
use Rattle.fodderpause_c.specs.declared.refusal.Refusal.TheVariants as causes
use Rattle.fodderpause_c.specs.declared.codes.TheConstants.{DONE}

-- why a call came to nothing
abbrev pub refusal_code : Refusal → ℕ
refusal_code causes.NoMemory = 1
refusal_code causes.NoParty = 2
refusal_code causes.IsHeld = 3
refusal_code causes.OutOfRange = 4
refusal_code causes.HasLeft = 5
refusal_code causes.NamesSpent = 6
refusal_code causes.SetsSpent = 7
refusal_code causes.EntriesSpent = 8
refusal_code causes.NotFound = 9
refusal_code causes.HasNotLeft = 10
refusal_code causes.NotFolded = 11

-- that it came to what was asked for, or why it didn't
abbrev pub answer_code : Result (Unit {0}) Refusal → ℕ
answer_code (Ok done) = DONE
answer_code (Err refusal) = refusal_code refusal
