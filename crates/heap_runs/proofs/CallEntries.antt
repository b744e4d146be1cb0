-- What comes before the reply to a call takes fragments, gives them back, or answers a phase.
use Rattle.std.proofs.Common.{ℕ, ◌==◌, Bool, true, false, cond, List, [], ◌∷◌, map, inl, inr, refl, sym, subst}
use Rattle.std.specs.List.{AllByRecursion}
use Rattle.heap_model.specs.declared.command.Command.{Command}
use Rattle.heap_model.specs.declared.command.Command.TheVariants as commands
use Rattle.heap_model.specs.declared.entry.Entry.{Entry}
use Rattle.heap_model.specs.declared.entry.Entry.TheVariants as entries
use Rattle.heap_model.specs.declared.reply.Reply.{Reply}
use Rattle.heap_model.specs.declared.reply.Reply.TheVariants as replies
use Rattle.heap_model.specs.Needs.{record_fragments, array_fragments}
use Rattle.heap_model.specs.account.PhaseCounts.{last_answer}
use Rattle.heap_model.specs.calls.SeatCalls.{AnswersBefore, ArrayBefore, ClaimsBefore, ComesBefore, gives_of, last_gives, takes_of}
use Rattle.core_rule.proofs.runs.LoneEntries.{all_of_append, all_of_implied}
use Rattle.heap_runs.specs.Play.{ComesFirst, TellsInCollect}

-- what is told of each count
all_of_counts : (P : Entry → Type 0) (tells : ℕ → Entry) → ((count : ℕ) → P (tells count)) → (counts : List ℕ) → AllByRecursion P (map tells counts)
all_of_counts P tells each [] = tt
all_of_counts P tells each (count ∷ counts) = (each count, all_of_counts P tells each counts)

-- what a seat gives back as it leaves
left_over : (P : Entry → Type 0) (number unborn : ℕ) → P (entries.GivesBack number unborn) → (none : Bool) → AllByRecursion P (cond none [] (entries.GivesBack number unborn ∷ []))
left_over P number unborn gives true = tt
left_over P number unborn gives false = (gives, tt)

pub all_of_last_gives : (P : Entry → Type 0) (number unborn : ℕ) → P (entries.GivesBack number unborn) → AllByRecursion P (last_gives number unborn)
all_of_last_gives P number unborn gives = left_over P number unborn gives (unborn == 0)

module _ (P : Entry → Type 0) (takes : (number count : ℕ) → P (entries.Takes number count)) (gives : (number count : ℕ) → P (entries.GivesBack number count)) (answers : (number p : ℕ) → P (entries.Answers number p))
    (collecting : (number : ℕ) (entry : Entry) → TellsInCollect number entry → P entry) where
  all_of_claims : (number unborn need : ℕ) (reply : Reply) (before : List Entry) → ClaimsBefore number unborn need reply before → AllByRecursion P before
  all_of_claims number unborn need (replies.Made id) before (counts, _, is) = subst (AllByRecursion P) (sym is) (all_of_counts P (entries.Takes number) (takes number) counts)
  all_of_claims number unborn need (replies.Full shown found) before (counts, _, _, is) =
      subst (AllByRecursion P) (sym is) (all_of_append P (takes_of number counts) (gives_of number counts) (all_of_counts P (entries.Takes number) (takes number) counts) (all_of_counts P (entries.GivesBack number) (gives number) counts))
  all_of_claims number unborn need reply before none = absurd none

  all_of_array : (number unborn need : ℕ) (reply : Reply) (before : List Entry) → ArrayBefore number unborn need reply before → AllByRecursion P before
  all_of_array number unborn need (replies.SpineFull shown used) before none = subst (AllByRecursion P) (sym none) tt
  all_of_array number unborn need reply before comes = all_of_claims number unborn need reply before comes

  all_of_answers : (number last : ℕ) (reply : Reply) (before : List Entry) → AnswersBefore number last reply before → AllByRecursion P before
  all_of_answers number last (replies.Phase p) before (inl told) = subst (AllByRecursion P) (sym told.1) tt
  all_of_answers number last (replies.Phase p) before (inr answered) = subst (AllByRecursion P) (sym answered.1) (answers number p, tt)
  all_of_answers number last reply before none = absurd none

  all_before : (number unborn last : ℕ) (command : Command) (reply : Reply) (before : List Entry) → ComesBefore number unborn last command reply before → AllByRecursion P before
  all_before number unborn last (commands.New d fields) reply before comes = all_of_claims number unborn (record_fragments fields) reply before comes
  all_before number unborn last (commands.Array d cells) reply before comes = all_of_array number unborn (array_fragments cells) reply before comes
  all_before number unborn last commands.Poll reply before comes = all_of_answers number last reply before comes
  all_before number unborn last commands.Leave reply before comes = subst (AllByRecursion P) (sym comes) (all_of_last_gives P number unborn (gives number unborn))
  all_before number unborn last commands.Collect reply before comes = absurd comes
  all_before number unborn last command reply before comes = subst (AllByRecursion P) (sym comes) tt

  -- so does what comes before the reply to a collect, but for the turns made then
  pub all_come_first : (earlier : List Entry) (number : ℕ) (command : Command) (reply : Reply) (before : List Entry) → ComesFirst earlier number command reply before → AllByRecursion P before
  all_come_first earlier number commands.Collect reply before comes = all_of_implied (TellsInCollect number) P before (collecting number) (comes.collects refl).told
  all_come_first earlier number command reply before comes = let call = comes.once (λ e. cc e) in all_before number call.unborn (last_answer number earlier) command reply before call.comes
