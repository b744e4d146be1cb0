-- What legal entries gain and lose is within bounds.
use Rattle.std.proofs.Common.{◌+◌, ◌*◌, ◌≤◌, true, List, [], ◌∷◌, ◌++◌, sym, subst, append_assoc, append-nil, arith}
use Rattle.heap_model.specs.declared.heap.Heap.{Heap}
use Rattle.heap_model.specs.Heap.{IsHeap}
use Rattle.heap_model.specs.declared.entry.Entry.{Entry}
use Rattle.heap_model.specs.declared.entry.Entry.TheVariants as entries
use Rattle.heap_model.specs.account.Account.{KeepsSpaceAfter, IsLegal, TakesAndGives}
use Rattle.heap_model.specs.account.Effects.{effect_of}
use Rattle.heap_model.specs.account.Space.{fragments_gained, fragments_lost, words_granted, words_returned}
use Rattle.heap_model.specs.account.Sweep.{Sweeps}
use Rattle.heap_model.proofs.Histories.{total-more}

module _ (heap : Heap) where
  -- no more fragments are gained than there are and were lost
  taken_within : (before : List Entry) (entry : Entry) → TakesAndGives heap before entry → fragments_gained heap before ≤ 16 * heap.groups + fragments_lost before
      → fragments_gained heap before + (effect_of entry).taken ≤ 16 * heap.groups + fragments_lost before
  taken_within before (entries.Takes number count) takes within = takes.1
  taken_within before _ takes within = omega (arith, within)

  gained_after : (before history : List Entry) → KeepsSpaceAfter heap true before history → fragments_gained heap before ≤ 16 * heap.groups + fragments_lost before
      → fragments_gained heap (before ++ history) ≤ 16 * heap.groups + fragments_lost (before ++ history)
  gained_after before [] keeps within = subst (λ es. fragments_gained heap es ≤ 16 * heap.groups + fragments_lost es) (sym (append-nil before)) within
  gained_after before (entry ∷ history) keeps within =
      subst (λ es. fragments_gained heap es ≤ 16 * heap.groups + fragments_lost es) (append_assoc before (entry ∷ []) history)
      (gained_after (before ++ entry ∷ []) history keeps.1 (omega (
        arith,
        taken_within before entry keeps.0.takes within,
        total-more (λ e. e.taken) before entry,
        total-more (λ e. e.given) before entry,
        total-more (λ e. e.freed) before entry,
      )))

  pub gained_within : (history : List Entry) → IsHeap heap → IsLegal heap true history → fragments_gained heap history ≤ 16 * heap.groups + fragments_lost history
  gained_within history limits legal = gained_after [] history legal.space (omega (arith, limits.some_group, limits.board_fits))

  -- no more spine words are returned than were granted
  swept_within : (before : List Entry) (entry : Entry) → Sweeps heap before entry → words_returned before ≤ words_granted before
      → words_returned before + (effect_of entry).returned ≤ words_granted before
  swept_within before (entries.Returns count) sweeps within = sweeps.2
  swept_within before _ sweeps within = omega (arith, within)

  returned_after : (before history : List Entry) → KeepsSpaceAfter heap true before history → words_returned before ≤ words_granted before
      → words_returned (before ++ history) ≤ words_granted (before ++ history)
  returned_after before [] keeps within = subst (λ es. words_returned es ≤ words_granted es) (sym (append-nil before)) within
  returned_after before (entry ∷ history) keeps within =
      subst (λ es. words_returned es ≤ words_granted es) (append_assoc before (entry ∷ []) history)
      (returned_after (before ++ entry ∷ []) history keeps.1 (omega (
        arith,
        swept_within before entry keeps.0.sweeps within,
        total-more (λ e. e.words) before entry,
        total-more (λ e. e.returned) before entry,
      )))

  pub returned_within : (history : List Entry) → IsLegal heap true history → words_returned history ≤ words_granted history
  returned_within history legal = returned_after [] history legal.space (omega arith)
