-- What a call tells, whichever it is.
use Rattle.std.proofs.Common.{◌≡◌, ◌≢◌, ℕ, List, [], ◌∷◌, ◌++◌, refl, ap, ◌∙◌}
use Rattle.std.specs.List.{AllByRecursion}
use Rattle.std.proofs.lemmas.List.Sums.{fold-append}
use Rattle.heap_model.specs.declared.command.Command.{Command}
use Rattle.heap_model.specs.declared.command.Command.TheVariants as commands
use Rattle.heap_model.specs.declared.entry.Entry.{Entry}
use Rattle.heap_model.specs.declared.entry.Entry.TheVariants as entries
use Rattle.heap_model.specs.declared.reply.Reply.{Reply}
use Rattle.heap_model.specs.graph.Graph.{Graph, opening}
use Rattle.heap_model.specs.graph.Growth.{after_entry, graph_after}
use Rattle.heap_runs.specs.Play.{ComesFirst, TellsInCollect}
use Rattle.heap_runs.specs.PlayHeap.{PlayState, AnswersOnce, AnswersCollect, AnswersCall}
use Rattle.heap_runs.specs.Playing.{NotesCall}

-- before the reply it tells what is due, and no answer to a command of the collector
pub record TellsCall (old new : PlayState) (number : ℕ) (command : Command) (reply : Reply) : Type 0 where
  pub heap : new.heap ≡ old.heap
  pub before : List Entry
  pub told : new.entries ≡ old.entries ++ (before ++ entries.Said number command reply ∷ [])
  pub comes : ComesFirst old.entries number command reply before

tells_once : (old new : PlayState) (number : ℕ) (command : Command) (reply : Reply) → command ≢ commands.Collect → AnswersOnce old new number command reply → TellsCall old new number command reply
tells_once old new number command reply apart answers =
    let adds = answers.adds in
    record {
      heap = adds.heap;
      before = adds.before;
      told = adds.entries;
      comes = record { once = λ _. record { unborn = adds.unborn; had = adds.had; comes = adds.comes }; collects = λ is. absurd (apart is) };
    }

-- what is told in a collect changes no graph
collect_graph : (number : ℕ) (g : Graph) (told : List Entry) → AllByRecursion (TellsInCollect number) told → graph_after g told ≡ g
collect_graph number g [] tells = refl
collect_graph number g (entries.Said other command reply ∷ told) tells = absurd (cc tells.0)
collect_graph number g (entry ∷ told) tells = collect_graph number g told tells.1

pub graph_stays_by_collect : (old new : PlayState) (number : ℕ) (reply : Reply) → AnswersCollect old new number reply → graph_after (opening new.heap) new.entries ≡ graph_after (opening old.heap) old.entries
graph_stays_by_collect old new number reply answers =
    let said : List Entry = entries.Said number commands.Collect reply ∷ [] in
    let first = graph_after (opening old.heap) old.entries in
    ap (λ h. graph_after (opening h) new.entries) answers.heap ∙ ap (graph_after (opening old.heap)) answers.entries ∙ fold-append after_entry (opening old.heap) old.entries (answers.before ++ said)
    ∙ fold-append after_entry first answers.before said ∙ ap (λ (g : Graph). graph_after g said) (collect_graph number first answers.before answers.comes.told) ∙ said_stays first
  where
    said_stays : (g : Graph) → graph_after g (entries.Said number commands.Collect reply ∷ []) ≡ g
    said_stays g = refl

tells_collect : (old new : PlayState) (number : ℕ) (reply : Reply) → AnswersCollect old new number reply → TellsCall old new number commands.Collect reply
tells_collect old new number reply answers =
    record {
      heap = answers.heap;
      before = answers.before;
      told = answers.entries;
      comes = record { once = λ apart. absurd (apart refl); collects = λ _. answers.comes };
    }

-- a call is a collect, or one call of the seat
pub tells_call : (old new : PlayState) (number : ℕ) (command : Command) (reply : Reply) → AnswersCall old new number command reply → TellsCall old new number command reply
tells_call old new number commands.Collect reply answers = tells_collect old new number reply (answers.collects refl)
tells_call old new number command reply answers = tells_once old new number command reply (λ e. cc e) (answers.once (λ e. cc e))

-- it is noted by its entries
pub notes_call_by_entries : (old new : PlayState) (number : ℕ) (command : Command) (reply : Reply) → AnswersCall old new number command reply → NotesCall old new number command
notes_call_by_entries old new number command reply answers =
    let tells = tells_call old new number command reply answers in
    record { reply = reply; answers = answers; added = tells.before ++ entries.Said number command reply ∷ []; told = tells.told }
