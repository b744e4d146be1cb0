-- What a seat's own entries tell of its collects.
use Rattle.std.proofs.Common.{ℕ, List, [], ◌∷◌, ◌++◌}
use Rattle.std.specs.List.{AllByRecursion}
use Rattle.heap_model.specs.declared.calls.collect.CollectReply.{CollectReply}
use Rattle.heap_model.specs.declared.command.Command.TheVariants as commands
use Rattle.heap_model.specs.declared.entry.Entry.{Entry}
use Rattle.heap_model.specs.declared.entry.Entry.TheVariants.{Said, Answers}
use Rattle.core_machine.specs.machine.Calls.{IsBeside}
use Rattle.core_machine.specs.seat.Looks.{noted_reply}
use Rattle.heap_record.proofs.TellsOne.{TellsOne, waits_of, tells_one_of_note}
use Rattle.heap_runs.specs.CollectCall.{IsAnswerOf}

-- answers of a seat stand beside a reply
answers_beside : (number : ℕ) (answers : List Entry) → AllByRecursion (IsAnswerOf number) answers → AllByRecursion (IsBeside number) answers
answers_beside number [] own = tt
answers_beside number (Answers other phase ∷ answers) own = (own.0, answers_beside number answers own.1)
answers_beside number (_ ∷ answers) own = absurd own.0

-- a collect answers its command behind them
pub tells_one_collect : (number : ℕ) (answers : List Entry) (came : CollectReply) → AllByRecursion (IsAnswerOf number) answers
    → TellsOne number commands.Collect (waits_of came) (answers ++ Said number commands.Collect (noted_reply came) ∷ [])
tells_one_collect number answers came own = tells_one_of_note number answers came (answers_beside number answers own)
