-- How far a seat has come with its script.
use Rattle.std.specs.Prelude.{◌≡◌, ◌≢◌, ℕ, ◌+◌, ◌*◌, ◌<◌, ◌≤◌, Bool, true, false, if◌then◌else◌, List, [], ◌∷◌, ◌++◌, length, take, slice_get, slice_index_or, Option, Some, None, All}
use Rattle.heap_model.specs.declared.command.Command.{Command}
use Rattle.heap_model.specs.declared.command.Command.TheVariants.{Collect, Leave}
use Rattle.heap_model.specs.declared.entry.Entry.{Entry}
use Rattle.heap_model.specs.PhasePlan.{cycle_phases}
use Rattle.heap_model.specs.runs.Endings.{IsPaid}
use Rattle.heap_model.specs.runs.Told.{commands_told, waits_told}
use Rattle.core_machine.specs.seat.Seat.{Seat}
use Rattle.locked_heap.specs.declared.progress.Progress.{Progress}
use Rattle.locked_heap.specs.Given.{Given, script_of}

-- the seat has begun nothing
abbrev pub at_begin : Progress
at_begin = record { position = 0; gone = false; target = None; paid = 0 }

-- how far the seat of this number has come
abbrev pub progress_at : List Progress → ℕ → Progress
progress_at seats number = slice_index_or seats number at_begin

-- so many seats have come to their leave
pub record HaveAllLeft (seats : ℕ) (came : List Progress) : Type 0 where
  pub each_once : length came ≡ seats
  pub gone : All (λ progress. progress.gone ≡ true) came

-- the leave of a seat that has left
abbrev pub leave_told : Bool → List Command
leave_told gone = if gone then Leave ∷ [] else []

-- the target is the first cycle that begins at the phase that the collect's first look loaded, or behind it; where there was no look there is no target
abbrev pub IsTargetOf : Option ℕ → Option ℕ → Type 0
IsTargetOf None None = Unit {0}
IsTargetOf (Some p) (Some target) = (p ≤ cycle_phases * target) × (cycle_phases * target < p + cycle_phases)
IsTargetOf _ _ = ⊥

-- the seat is there, and its next command is a collect
pub record IsAtCollect (given : Given) (number : ℕ) (progress : Progress) : Type 0 where
  pub there : progress.gone ≡ false
  pub next : slice_get (script_of given number) progress.position ≡ Some Collect

-- the history tells just the commands up to the position, and then the leave of a seat that has left; a seat that is there has made no more objects and done no more sets,
-- and for each of its replies that it waits it has found another seat behind often enough; it has a target in a collect alone, and just where that has looked
pub record HasCome (given : Given) (told : List Entry) (number : ℕ) (seat : Seat) (progress : Progress) : Type 0 where
  pub within : progress.position ≤ length (script_of given number)
  pub commands : commands_told number told ≡ take progress.position (script_of given number) ++ leave_told progress.gone
  pub through : progress.gone ≡ true → progress.position ≡ length (script_of given number)
  pub leaves : seat.left ≡ progress.gone
  pub few_objects : progress.gone ≡ false → seat.made ≤ progress.position
  pub few_sets : progress.gone ≡ false → seat.sets ≤ progress.position
  pub paid : IsPaid given.patience (waits_told number told) progress.paid
  pub grown : progress.paid ≤ seat.looks.waits
  pub target : IsTargetOf seat.looks.first progress.target
  pub collects : progress.target ≢ None → IsAtCollect given number progress
