-- Each end of a cycle in a run leaves little, and one that began after all had left leaves nothing.
use Rattle.std.proofs.Common.{◌≡◌, ℕ, Bool, false, List, [], ◌∷◌, ◌++◌, sym, ◌∙◌, subst, arith}
use Rattle.core_rule.proofs.Terms.{Entry, Ends, Heap, IsLegal, KeepsSpace, KeepsSpaceAfter, fragments_used, words_used, opening, history, EveryRunKeeps}
use Rattle.heap_model.proofs.Histories.{total-more}
use Rattle.core_rule.specs.sweep_exact.SweepLaws.{EachEndLeavesLittle, EachLastCycleEmpties, EachLastCycleBalances}
use Rattle.core_rule.proofs.sweep_exact.AllGone.{accepts_first_section, nothing_is_reached, bound_is_none, no_words_granted_since}
use Rattle.core_rule.proofs.runs.Plays.{keeps_space_of_each_entry}

-- the history of a run is legal, so what stands in it keeps the rules
pub each_end_leaves_little : EveryRunKeeps → EachEndLeavesLittle
each_end_leaves_little runs heap state events before rest cycle kept limits opening run grown =
    let stands = runs heap state events limits opening run in
    let legal : IsLegal heap false (before ++ Ends cycle kept ∷ rest) = subst (IsLegal heap false) (stands.grown ∙ grown) stands.stands.rule.heap_stands.legal in
    (keeps_space_of_each_entry heap false [] before rest (Ends cycle kept) legal.space).ends

-- the first section of what keeps the rules
space_before : (heap : Heap) (play : Bool) (before history later : List Entry) → KeepsSpaceAfter heap play before (history ++ later)
    → KeepsSpaceAfter heap play before history
space_before heap play before [] later kept = tt
space_before heap play before (entry ∷ history) later kept = (kept.0, space_before heap play (before ++ entry ∷ []) history later kept.1)

module _ (heap : Heap) (play : Bool) (before : List Entry) (cycle kept : ℕ) (legal : IsLegal heap play (before ++ Ends cycle kept ∷ [])) where
  keeps : KeepsSpace heap play before (Ends cycle kept)
  keeps = keeps_space_of_each_entry heap play [] before [] (Ends cycle kept) legal.space

  legal_before : IsLegal heap play before
  legal_before = record {
    objects = accepts_first_section (opening heap) before (Ends cycle kept ∷ []) legal.objects;
    space = space_before heap play [] before (Ends cycle kept ∷ []) legal.space;
  }

pub each_last_cycle_empties : EachLastCycleEmpties
each_last_cycle_empties heap play before cycle kept legal left =
    let entry : Entry = Ends cycle kept in
    let keeps = keeps heap play before cycle kept legal in
    let earlier = legal_before heap play before cycle kept legal in
    let within = keeps.ends.1.within [] (nothing_is_reached heap play before earlier left) in
    let none = bound_is_none heap play before earlier left in
    let words = no_words_granted_since heap play before earlier left in (
      omega (arith, within.used, none, total-more (λ e. e.taken) before entry, total-more (λ e. e.given) before entry, total-more (λ e. e.freed) before entry),
      omega (arith, within.spine, words, total-more (λ e. e.words) before entry, total-more (λ e. e.returned) before entry),
    )

-- by the rule no more was lost than gained, and no more words returned than granted
pub each_last_cycle_balances : EachLastCycleBalances
each_last_cycle_balances heap state book before cycle kept rule grown left =
    let legal : IsLegal heap false (before ++ Ends cycle kept ∷ []) = subst (IsLegal heap false) grown rule.heap_stands.legal in
    let none : (fragments_used heap book.history ≡ 0) × (words_used book.history ≡ 0)
    = subst (λ es. (fragments_used heap es ≡ 0) × (words_used es ≡ 0)) (sym grown) (each_last_cycle_empties heap false before cycle kept legal left) in
    (omega (arith, none.0, rule.heap_stands.used), omega (arith, none.1, rule.space.budgets.told))
