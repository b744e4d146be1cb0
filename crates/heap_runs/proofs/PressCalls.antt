-- What a call of a heap that is played on is to a press, and what a press of such calls comes to.
use Rattle.std.proofs.Common.{◌≡◌, ◌≢◌, ℕ, List, [], ◌∷◌, ◌++◌, inl, inr, refl, ap, ◌∙◌, append_assoc}
use Rattle.std.specs.List.{AllByRecursion}
use Rattle.heap_model.specs.declared.command.Command.{Command}
use Rattle.heap_model.specs.declared.command.Command.TheVariants as commands
use Rattle.heap_model.specs.declared.entry.Entry.{Entry}
use Rattle.heap_model.specs.declared.entry.Entry.TheVariants as entries
use Rattle.heap_model.specs.declared.reply.Reply.{Reply}
use Rattle.press_alloc.specs.Calls.{IsNoReply, MovesNothing, AddsCall}
use Rattle.press_alloc.specs.Presses.{IsPressed}
use Rattle.heap_runs.specs.Play.{ComesFirst, TellsInCollect}
use Rattle.heap_runs.specs.PlayHeap.{PlayState, AnswersCall}
use Rattle.heap_runs.specs.Playing.{NotesCall, NotesCommand}
use Rattle.heap_runs.specs.Pressed.{MakesCommand, PressesCommand}
use Rattle.heap_runs.specs.declared.playing.making.Allocating.{Allocating}
use Rattle.heap_runs.specs.declared.playing.making.Allocating.TheVariants.{Once, Pressed}
use Rattle.core_rule.proofs.runs.LoneEntries.{all_of_implied}
use Rattle.heap_runs.proofs.CallEntries.{all_come_first}
use Rattle.heap_runs.proofs.Told.{tells_call}

-- what is told while a seat collects is no reply, and takes or gives back nothing
no_reply_in_collect : (number : ℕ) (entry : Entry) → TellsInCollect number entry → IsNoReply entry
no_reply_in_collect number (entries.Said other command reply) tells = absurd (cc tells)
no_reply_in_collect number _ tells = tt

nothing_moves_in_collect : (number : ℕ) (entry : Entry) → TellsInCollect number entry → MovesNothing entry
nothing_moves_in_collect number (entries.Takes other count) tells = absurd (cc tells)
nothing_moves_in_collect number (entries.GivesBack other count) tells = absurd (cc tells)
nothing_moves_in_collect number _ tells = tt

-- what comes before the reply to any command is no reply
no_reply_first : (earlier : List Entry) (number : ℕ) (command : Command) (reply : Reply) (before : List Entry) → ComesFirst earlier number command reply before → AllByRecursion IsNoReply before
no_reply_first = all_come_first IsNoReply (λ number count. tt) (λ number count. tt) (λ number p. tt) no_reply_in_collect

-- so a call adds what a call of a press does
pub adds_call_of_play : (old new : PlayState) (number : ℕ) (command : Command) (reply : Reply) → AnswersCall old new number command reply → AddsCall old.entries new.entries number command reply
adds_call_of_play old new number command reply answers =
    let tells = tells_call old new number command reply answers in
    record {
      before = tells.before;
      told = tells.told;
      one_reply = no_reply_first old.entries number command reply tells.before tells.comes;
      moves_nothing = λ is. all_of_implied (TellsInCollect number) MovesNothing tells.before (nothing_moves_in_collect number) (tells.comes.collects is).told;
    }

-- the entries of a press are those that it found, and more
entries_of_press : (old new : List Entry) (number : ℕ) (command : Command) (reply : Reply) → IsPressed AddsCall old new number command reply → (added : List Entry) × (new ≡ old ++ added)
entries_of_press old new number command reply (inl once) = (_, once.0.told)
entries_of_press old new number command reply (inr again) = (
  _,
  again.again.told ∙ ap (λ es. es ++ (again.again.before ++ entries.Said number command reply ∷ [])) (again.collects.told ∙ ap (λ es. es ++ (again.collects.before ++ entries.Said number commands.Collect again.answer ∷ [])) again.first.told)
      ∙ append_assoc (old ++ (again.first.before ++ entries.Said number command again.refusal ∷ [])) (again.collects.before ++ entries.Said number commands.Collect again.answer ∷ []) (again.again.before ++ entries.Said number command reply ∷ [])
      ∙ append_assoc old (again.first.before ++ entries.Said number command again.refusal ∷ []) ((again.collects.before ++ entries.Said number commands.Collect again.answer ∷ []) ++ (again.again.before ++ entries.Said number command reply ∷ [])),
)

pub notes_press : (old new : PlayState) (number : ℕ) (command : Command) (reply : Reply) → IsPressed AddsCall old.entries new.entries number command reply → PressesCommand old new number command reply → NotesCommand PressesCommand old new number command
notes_press old new number command reply adds presses = let more = entries_of_press old.entries new.entries number command reply adds in record { reply = reply; answers = presses; added = more.0; told = more.1 }

-- the command makes neither a record nor an array
pub record MakesNone (command : Command) : Type 0 where
  pub no_record : (d fields : ℕ) → command ≢ commands.New d fields
  pub no_array : (d cells : ℕ) → command ≢ commands.Array d cells

-- a command is made by its one call where that is the way, or where it makes no object
pub notes_one_call : (way : Allocating) (old new : PlayState) (number : ℕ) (command : Command) → (way ≡ Pressed → MakesNone command) → NotesCall old new number command → NotesCommand (MakesCommand way) old new number command
notes_one_call way old new number command none notes = record { reply = notes.reply; answers = by way command none notes.answers; added = notes.added; told = notes.told }
  where
    by : (way : Allocating) (command : Command) → (way ≡ Pressed → MakesNone command) → AnswersCall old new number command notes.reply → MakesCommand way old new number command notes.reply
    by Once command none answers = answers
    by Pressed (commands.New d fields) none answers = absurd ((none refl).no_record d fields refl)
    by Pressed (commands.Array d cells) none answers = absurd ((none refl).no_array d cells refl)
    by Pressed _ none answers = answers

-- what each call of a press did is done where the press is seen otherwise
pub press_seen_as : {Whole Other : Type 0} (seen : Whole → Other) (Calls : Whole → Whole → ℕ → Command → Reply → Type 0) (Does : Other → Other → ℕ → Command → Reply → Type 0)
    → ((old new : Whole) (number : ℕ) (command : Command) (reply : Reply) → Calls old new number command reply → Does (seen old) (seen new) number command reply)
    → (old new : Whole) (number : ℕ) (command : Command) (reply : Reply) → IsPressed Calls old new number command reply → IsPressed Does (seen old) (seen new) number command reply
press_seen_as seen Calls Does does old new number command reply (inl once) = inl (does old new number command reply once.0, once.1)
press_seen_as seen Calls Does does old new number command reply (inr again) = inr (record {
  refusal = again.refusal;
  refused = seen again.refused;
  first = does old again.refused number command again.refusal again.first;
  refuses = again.refuses;
  answer = again.answer;
  collected = seen again.collected;
  collects = does again.refused again.collected number commands.Collect again.answer again.collects;
  again = does again.collected new number command reply again.again;
})

-- it leaves the heap's sizes as they are
pub heap_of_press : (old new : PlayState) (number : ℕ) (command : Command) (reply : Reply) → IsPressed AnswersCall old new number command reply → new.heap ≡ old.heap
heap_of_press old new number command reply (inl once) = (tells_call old new number command reply once.0).heap
heap_of_press old new number command reply (inr again) =
    (tells_call again.collected new number command reply again.again).heap ∙ (tells_call again.refused again.collected number commands.Collect again.answer again.collects).heap
    ∙ (tells_call old again.refused number command again.refusal again.first).heap
