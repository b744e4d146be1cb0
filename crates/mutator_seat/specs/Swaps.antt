-- What a compare and swap tells of the word that it found.
use Rattle.std.specs.Prelude.{◌≡◌, ◌≢◌, ℕ, List}
use Rattle.heap_words.specs.Loaded.{stamp_of}
use Rattle.heap_model.specs.declared.command.Command.{Command}
use Rattle.heap_model.specs.declared.reply.Swapped.{Swapped}
use Rattle.heap_model.specs.declared.reply.Swapped.TheVariants.{Was, Now}
use Rattle.core_machine.specs.calls.FieldReplies.{IsCompared, word_expected}
use Rattle.core_machine.specs.calls.Kept.{Kept, kept_of}
use Rattle.core_machine.specs.declared.step.Step.{Step}
use Rattle.heap_table.specs.Made.{Made, ToldIn, MakesSteps}
use Rattle.heap_table.specs.SeatHeld.{SeatHeld}
use Rattle.mutator_seat.specs.Calls.{begun}

-- the field that was reached had the word of the register's value and seen stamp, and that stamp is shown; or it had another word, whose stamp is shown
abbrev pub FoundBySwap : (Step → ℕ → Type 0) → ℕ → Command → Kept → Swapped → Type 0
FoundBySwap tells number command before (Was stamp) = IsCompared tells number command before (word_expected command before) × (stamp ≡ stamp_of (word_expected command before))
FoundBySwap tells number command before (Now stamp) = (word : ℕ) × IsCompared tells number command before word × (word ≢ word_expected command before) × (stamp ≡ stamp_of word)

-- the compare and swap among the steps that the seat made for the command found it so
pub record FindsBySwap (old new : SeatHeld) (command : Command) (swapped : Swapped) : Type 0 where
  pub made : List Made
  pub makes : MakesSteps (begun old command) new made
  pub found : FoundBySwap (ToldIn old made) old.number command (kept_of old.seat) swapped
