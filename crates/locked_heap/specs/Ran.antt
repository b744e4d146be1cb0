-- What a run on one lock comes to.
use Rattle.std.specs.Prelude.{◌≡◌, ℕ, ◌+◌, ◌-◌, ◌^◌, ◌<◌, min, false, List, [], ◌∷◌, ◌++◌, map}
use Rattle.std.specs.List.{range_with_len}
use Rattle.heap_model.specs.declared.command.Command.TheVariants.{Leave}
use Rattle.heap_model.specs.account.Account.{IsLegal}
use Rattle.heap_model.specs.runs.Endings.{EndsEmpty, IsPaid}
use Rattle.heap_model.specs.runs.Told.{commands_told, waits_told}
use Rattle.heap_model.specs.account.Space.{fragments_gained, fragments_lost, words_granted, words_returned}
use Rattle.core_machine.specs.machine.Machine.{Event, Run, history}
use Rattle.core_rule.specs.looks.Finds.{finds_in}
use Rattle.locked_heap.specs.declared.ran.LockedRan.{LockedRan}
use Rattle.locked_heap.specs.Given.{Given, script_of}

-- a run of the machine from its opening has this history, which is legal as a run: each seat's commands are those of its script in order, each once, and then its leave;
-- the first cycle that began after the last leave ended, and left nothing in use; for each of its replies that it waits a seat has made as many steps that found another one behind
-- as its patience asks, and all such steps are counted
pub record IsRun (given : Given) (ran : LockedRan) : Type 0 where
  pub events : List Event
  pub run : Run given.heap given.opening events
  pub shown : ran.history.items ≡ history given.heap given.opening events
  pub legal : IsLegal given.heap false ran.history.items
  pub commands : (number : ℕ) → number < given.heap.seats → commands_told number ran.history.items ≡ script_of given number ++ Leave ∷ []
  pub last_cycle : EndsEmpty given.heap ran.history.items
  pub used : ran.end_used + fragments_lost ran.history.items ≡ fragments_gained given.heap ran.history.items
  pub none_used : ran.end_used ≡ 0
  pub all_returned : words_returned ran.history.items ≡ words_granted ran.history.items
  pub counts : ran.waits.items ≡ map (λ number. min (finds_in given.heap given.opening events number) (2 ^ 64 - 1)) (range_with_len 0 given.heap.seats)
  pub patient : (number : ℕ) → number < given.heap.seats
      → IsPaid given.patience (waits_told number ran.history.items) (finds_in given.heap given.opening events number)
