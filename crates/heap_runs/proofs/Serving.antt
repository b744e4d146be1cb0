-- What the turns of a command of the collector told.
use Rattle.std.proofs.Common.{◌≡◌, ℕ, List, [], ◌∷◌, ◌++◌, length, sym, ap, subst, ◌∙◌, append_assoc, length-append, arith}
use Rattle.std.proofs.lemmas.List.{append-nil, append_cancel_left}
use Rattle.heap_model.specs.declared.calls.collector_calls.Turn.{Turn}
use Rattle.heap_model.specs.declared.calls.collector_calls.Turn.TheVariants as turns
use Rattle.heap_model.specs.declared.command.TurnCommand.{TurnCommand}
use Rattle.heap_model.specs.declared.command.TurnCommand.TheVariants as commands
use Rattle.heap_model.specs.declared.entry.Entry.{Entry}
use Rattle.heap_model.specs.declared.entry.Entry.TheVariants as entries
use Rattle.heap_model.specs.declared.reply.TurnReply.{TurnReply}
use Rattle.heap_model.specs.declared.reply.TurnReply.TheVariants as replies
use Rattle.heap_model.specs.account.Phases.{TurnShows}
use Rattle.heap_runs.specs.Play.{AreTurns, AreSteps, TellsTurns}
use Rattle.heap_runs.specs.PlayHeap.{PlayState}
use Rattle.heap_runs.specs.Turning.{AddsTurns, IsNoWait, IsStep, HasComeTo, ServesCommand}
use Rattle.heap_runs.proofs.LastCycle.{steps_are_made}
use Rattle.heap_runs.proofs.TurnFacts.{turn_adds_just_more, turn_adds_nothing, adds_turns_together, turns_add_few_entries, adds_turns_that_came}

module _ (old new : PlayState) (added : List Entry) (told : new.entries ≡ old.entries ++ added) where
  -- what was added is that
  turns_told : AddsTurns old new → AreTurns added
  turns_told adds = subst AreTurns (append_cancel_left old.entries adds.added added (sym adds.told ∙ told)) adds.turned

  -- a turn that waited added nothing
  same_as_now : (Is : Turn → Type 0) (number answer p : ℕ) (reply : TurnReply) → (came : HasComeTo Is old new (turns.Waits number answer p) reply) → new.entries ≡ came.now.entries
  same_as_now Is number answer p reply came =
      came.takes.entries ∙ ap (λ es. came.now.entries ++ es) (turn_adds_nothing came.now new (turns.Waits number answer p) came.takes came.takes.turned.comes_to.0.0) ∙ append-nil came.now.entries

  -- steps before it are all that was added
  steps_told : (number answer p : ℕ) (reply : TurnReply) → HasComeTo IsStep old new (turns.Waits number answer p) reply → AreSteps added
  steps_told number answer p reply came =
      let made = steps_are_made came.earlier old came.now came.turned.taken in
      subst AreSteps (append_cancel_left old.entries made.steps added (sym made.told ∙ sym (same_as_now IsStep number answer p reply came) ∙ told)) made.own

  -- and before the end of a cycle all but that
  end_told : (cycle kept : ℕ) (reply : TurnReply) → HasComeTo IsStep old new (turns.Ended cycle kept) reply → (steps : List Entry) × (last : ℕ) × AreSteps steps × (added ≡ steps ++ entries.Ends cycle last ∷ [])
  end_told cycle kept reply came =
      let made = steps_are_made came.earlier old came.now came.turned.taken in
      let ending : List Entry = entries.Ends cycle kept ∷ [] in
      let is : came.takes.added ≡ ending = turn_adds_just_more came.now new (turns.Ended cycle kept) came.takes ending came.takes.turned.comes_to.0 in (
        made.steps,
        kept,
        made.own,
        append_cancel_left old.entries added (made.steps ++ ending)
            (sym told ∙ came.takes.entries ∙ ap (λ es. came.now.entries ++ es) is ∙ ap (λ es. es ++ ending) made.told ∙ append_assoc old.entries made.steps ending),
      )

  -- so they told what fits the command and its reply
  pub served_turns_are_told : (command : TurnCommand) (reply : TurnReply) → ServesCommand old new command reply → TellsTurns command reply added
  served_turns_are_told (commands.Turns n) replies.Done serves =
      (turns_told (adds_turns_together IsNoWait n old new serves.taken), omega (arith, turns_add_few_entries IsNoWait n old new serves.taken, ap (length {A = Entry}) told, length-append old.entries added))
  served_turns_are_told (commands.Turns n) (replies.Waits number answer p) serves =
      let came = serves.0 in (
        turns_told (adds_turns_that_came IsNoWait old new (turns.Waits number answer p) (replies.Waits number answer p) came),
        omega (
          arith,
          serves.1,
          turns_add_few_entries IsNoWait came.earlier old came.now came.turned.taken,
          ap (length {A = Entry}) (same_as_now IsNoWait number answer p (replies.Waits number answer p) came),
          ap (length {A = Entry}) told,
          length-append old.entries added,
        ),
      )
  served_turns_are_told (commands.Turns n) (replies.Cycle cycle) serves = absurd serves
  served_turns_are_told commands.Cycle replies.Done serves = absurd serves
  served_turns_are_told commands.Cycle (replies.Waits number answer p) serves = steps_told number answer p (replies.Waits number answer p) serves
  served_turns_are_told commands.Cycle (replies.Cycle cycle) serves = end_told cycle serves.0 (replies.Cycle cycle) serves.1

-- what the turns of a command added
pub served_turns_add : (old new : PlayState) (command : TurnCommand) (reply : TurnReply) → ServesCommand old new command reply → AddsTurns old new
served_turns_add old new (commands.Turns n) replies.Done serves = adds_turns_together IsNoWait n old new serves.taken
served_turns_add old new (commands.Turns n) (replies.Waits number answer p) serves = adds_turns_that_came IsNoWait old new _ _ serves.0
served_turns_add old new (commands.Turns n) (replies.Cycle cycle) serves = absurd serves
served_turns_add old new commands.Cycle replies.Done serves = absurd serves
served_turns_add old new commands.Cycle (replies.Waits number answer p) serves = adds_turns_that_came IsStep old new _ _ serves
served_turns_add old new commands.Cycle (replies.Cycle cycle) serves = adds_turns_that_came IsStep old new _ _ serves.1

-- the reply shows what is so
pub served_reply_shows : (old new : PlayState) (command : TurnCommand) (reply : TurnReply) → ServesCommand old new command reply → TurnShows new.heap new.entries reply
served_reply_shows old new (commands.Turns n) replies.Done serves = tt
served_reply_shows old new (commands.Turns n) (replies.Waits number answer p) serves = serves.0.shows
served_reply_shows old new (commands.Turns n) (replies.Cycle cycle) serves = absurd serves
served_reply_shows old new commands.Cycle replies.Done serves = tt
served_reply_shows old new commands.Cycle (replies.Waits number answer p) serves = serves.shows
served_reply_shows old new commands.Cycle (replies.Cycle cycle) serves = serves.1.shows
