-- What is kept of the last cycle that began, with one more entry.
use Rattle.std.proofs.Common.{◌≡◌, ℕ, ◌+◌, ◌≤◌, List, [], ◌∷◌, ◌++◌, inl, inr, true, false, max, sum_by, refl, sym, ap, ◌∙◌, subst, arith}
use Rattle.std.specs.List.{range_with_len}
use Rattle.std.proofs.lemmas.List.Sums.{sum_by-cons}
use Rattle.heap_model.specs.Board.{board_fragments}
use Rattle.heap_model.specs.declared.entry.Entry.{Entry}
use Rattle.heap_model.specs.declared.entry.Entry.TheVariants as entries
use Rattle.heap_model.specs.declared.heap.Heap.{Heap}
use Rattle.heap_model.specs.declared.id.Id.{Id}
use Rattle.heap_model.specs.account.Cycles.{graph_of, bound}
use Rattle.heap_model.specs.account.Effects.{effect_of}
use Rattle.heap_model.specs.account.PhaseCounts.{phase}
use Rattle.heap_model.specs.account.Space.{total, taken_of, fragments_unborn}
use Rattle.heap_model.specs.account.Windows.{begins_cycle, up_to_reply, since_reply, up_to_cycle, since_cycle, after_last}
use Rattle.heap_model.specs.graph.Sizes.{fragments_of_all, HasReach}
use Rattle.heap_model.proofs.Histories.{total-more}
use Rattle.heap_model.proofs.account_lemmas.Windows.{up_to_last-yes, up_to_last-no, after_last-yes, after_last-no}
use Rattle.reply_text.specs.write.Counts.{is_end}
use Rattle.space_plan.specs.declared.planning.begun.BegunCycle.{BegunCycle}
use Rattle.space_plan.specs.plan.Cycles.{cycle_takes, taken_since_replies}
use Rattle.space_plan.specs.plan.Takes.{taken_since_end}
use Rattle.space_plan.specs.plan.Totals.{IsGreatest, IsReached}
use Rattle.space_plan.specs.plan.Seats.{unborn_at_replies}
use Rattle.space_plan.specs.plan.Walking.{BegunTells}
use Rattle.space_plan.proofs.plan_lemmas.Greatest.{IsGreatest-more, IsGreatest-same}
use Rattle.space_plan.proofs.plan_lemmas.MomentLemmas.{IsReached-cases, IsReached-here, IsReached-no, IsReached-stays}

-- a sum of sums
sum_by_of_both : (f g : ℕ → ℕ) (xs : List ℕ) → sum_by (λ x. f x + g x) xs ≡ sum_by f xs + sum_by g xs
sum_by_of_both f g [] = refl
sum_by_of_both f g (x ∷ xs) = omega (arith, sum_by-cons (λ y. f y + g y) x xs, sum_by-cons f x xs, sum_by-cons g x xs, sum_by_of_both f g xs)

-- a sum of zeros
pub sum_of_none : (f : ℕ → ℕ) → ((n : ℕ) → f n ≡ 0) → (xs : List ℕ) → sum_by f xs ≡ 0
sum_of_none f none [] = refl
sum_of_none f none (x ∷ xs) = omega (arith, sum_by-cons f x xs, none x, sum_of_none f none xs)

-- the bound of a cycle is what was reached, the reserves, and what was taken for it
pub bound_is_sum : (heap : Heap) (ids : List Id) (history : List Entry)
    → bound heap ids history ≡ fragments_of_all (graph_of heap (up_to_cycle history)) ids + unborn_at_replies heap (up_to_cycle history) + cycle_takes heap history
bound_is_sum heap ids history =
    let begin = up_to_cycle history in
    omega (arith, sum_by_of_both (λ number. fragments_unborn number (up_to_reply number begin)) (λ number. taken_of number (since_reply number begin)) (range_with_len 0 heap.seats))

-- what was taken for a cycle that begins here
pub cycle_takes-begin : (heap : Heap) (history : List Entry) (entry : Entry) → begins_cycle entry ≡ true → cycle_takes heap (history ++ entry ∷ []) ≡ taken_since_replies heap (history ++ entry ∷ [])
cycle_takes-begin heap history entry begins =
    let all : up_to_cycle (history ++ entry ∷ []) ≡ history ++ entry ∷ [] = up_to_last-yes begins_cycle history entry begins in
    let none : total (λ e. e.taken) (since_cycle (history ++ entry ∷ [])) ≡ 0 = ap (total (λ e. e.taken)) (after_last-yes begins_cycle history entry begins) in
    omega (arith, ap (taken_since_replies heap) all, none)

-- and for one that is under way
pub cycle_takes-more : (heap : Heap) (history : List Entry) (entry : Entry) → begins_cycle entry ≡ false → cycle_takes heap (history ++ entry ∷ []) ≡ cycle_takes heap history + (effect_of entry).taken
cycle_takes-more heap history entry other =
    let same : up_to_cycle (history ++ entry ∷ []) ≡ up_to_cycle history = up_to_last-no begins_cycle history entry other in
    let more : since_cycle (history ++ entry ∷ []) ≡ since_cycle history ++ entry ∷ [] = after_last-no begins_cycle history entry other in
    omega (arith, ap (taken_since_replies heap) same, ap (total (λ e. e.taken)) more, total-more (λ e. e.taken) (since_cycle history) entry)

-- what was taken since the last end
pub taken_since_end-end : (history : List Entry) (entry : Entry) → is_end entry ≡ true → taken_since_end (history ++ entry ∷ []) ≡ 0
taken_since_end-end history entry ends = ap (total (λ e. e.taken)) (after_last-yes is_end history entry ends)

pub taken_since_end-more : (history : List Entry) (entry : Entry) → is_end entry ≡ false → taken_since_end (history ++ entry ∷ []) ≡ taken_since_end history + (effect_of entry).taken
taken_since_end-more history entry other = ap (total (λ e. e.taken)) (after_last-no is_end history entry other) ∙ total-more (λ e. e.taken) (after_last is_end history) entry

-- before the first entry the opening stands for a begin
pub BegunTells-opening : (heap : Heap) (begun : BegunCycle) → HasReach (graph_of heap []) begun.reach → begun.reserves ≡ 0 → begun.since ≡ 0 → begun.most_reach ≡ board_fragments heap → BegunTells heap begun []
BegunTells-opening heap begun reach reserves since most = record {
  reach = reach;
  reserves = reserves ∙ sym (sum_of_none (λ number. fragments_unborn number []) (λ n. refl) (range_with_len 0 heap.seats));
  since = omega (arith, since, sum_of_none (λ number. taken_of number []) (λ n. refl) (range_with_len 0 heap.seats));
  most_reach = record { holds = inl most; most = within };
}
  where
    within : (other : ℕ) → IsReached heap [] other → other ≤ begun.most_reach
    within other (inl board) = omega (arith, board, most)
    within other (inr at) = absurd (omega (arith, at.1.1))

-- where one begins some phase has begun
pub phase-begins : (history : List Entry) (entry : Entry) → begins_cycle entry ≡ true → 1 ≤ phase (history ++ entry ∷ [])
phase-begins history (entries.Advance p) begins = omega (arith, total-more (λ e. e.phases) history (entries.Advance p))
phase-begins history _ begins = absurd (cc begins)

-- a cycle begins with the entry
pub BegunTells-begin : (heap : Heap) (history : List Entry) (entry : Entry) (begun : BegunCycle) → begins_cycle entry ≡ true → HasReach (graph_of heap (up_to_cycle (history ++ entry ∷ []))) begun.reach
    → begun.reserves ≡ unborn_at_replies heap (history ++ entry ∷ []) → begun.since ≡ taken_since_replies heap (history ++ entry ∷ [])
    → (most : ℕ) → begun.most_reach ≡ max most begun.reach → IsGreatest (IsReached heap history) most → BegunTells heap begun (history ++ entry ∷ [])
BegunTells-begin heap history entry begun begins reach reserves since most is greatest =
    let all : up_to_cycle (history ++ entry ∷ []) ≡ history ++ entry ∷ [] = up_to_last-yes begins_cycle history entry begins in
    let here : HasReach (graph_of heap (history ++ entry ∷ [])) begun.reach = subst (λ es. HasReach (graph_of heap es) begun.reach) all reach in
    record {
      reach = reach;
      reserves = reserves ∙ ap (unborn_at_replies heap) (sym all);
      since = since ∙ sym (cycle_takes-begin heap history entry begins);
      most_reach = subst (IsGreatest (IsReached heap (history ++ entry ∷ []))) (sym is)
          (IsGreatest-more (IsReached heap history) (IsReached heap (history ++ entry ∷ [])) most begun.reach (IsReached-stays heap history entry begins)
          (λ k. IsReached-cases heap history entry begins begun.reach k here) (IsReached-here heap history entry begins begun.reach here) greatest);
    }

-- no cycle begins with it
pub BegunTells-more : (heap : Heap) (history : List Entry) (entry : Entry) (begun : BegunCycle) → begins_cycle entry ≡ false → {since : ℕ} → since ≡ begun.since + (effect_of entry).taken
    → BegunTells heap begun history → BegunTells heap (record begun { since = since }) (history ++ entry ∷ [])
BegunTells-more heap history entry begun other {since} more tells =
    let same : up_to_cycle (history ++ entry ∷ []) ≡ up_to_cycle history = up_to_last-no begins_cycle history entry other in
    record {
      reach = subst (λ es. HasReach (graph_of heap es) begun.reach) (sym same) tells.reach;
      reserves = tells.reserves ∙ ap (unborn_at_replies heap) (sym same);
      since = omega (arith, more, tells.since, cycle_takes-more heap history entry other);
      most_reach = IsGreatest-same (IsReached heap history) (IsReached heap (history ++ entry ∷ [])) begun.most_reach (λ k. (IsReached-no heap history entry other k).0) (λ k. (IsReached-no heap history entry other k).1) tells.most_reach;
    }
