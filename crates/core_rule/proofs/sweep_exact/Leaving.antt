-- What ends a cycle by the rules: counts that are right for each list of what was reached when it began.
use Rattle.std.proofs.Common.{◌≡◌, ℕ, ◌+◌, ◌*◌, ◌≤◌, List, AllPairs, Contains}
use Rattle.core_rule.proofs.Terms.{graph_of, bound, spine_bound, IsReachOfBoth, EndsCycle, phase, AllAnswered, fragments_gained, fragments_lost, words_granted, words_returned}
use Rattle.core_rule.proofs.Terms.{up_to_cycle, Entry, Heap, Id, Reaches, IsBefore, IsReach, fragments_of_all, cycle_phases, clearing}
use Rattle.heap_model.specs.declared.entry.Entry.TheVariants as entries
use Rattle.core_rule.proofs.reach.ReachLists.{ordered_by_reach_lists}

-- what is in use, fragments and spine words, and what was counted are within the bounds, and no less was counted than what is reached now and was then
pub record IsCountedRight (heap : Heap) (history : List Entry) (kept : ℕ) (begun : List Id) : Type 0 where
  pub used : fragments_gained heap history ≤ fragments_lost history + bound heap begun history
  pub spine : words_granted history ≤ words_returned history + spine_bound heap begun history
  pub at_most : kept ≤ bound heap begun history
  pub at_least : (both : List Id) → AllPairs IsBefore both → ((id : Id) → Contains both id → Reaches (graph_of heap history) id × Contains begun id)
      → fragments_of_all (graph_of heap history) both ≤ kept

module _ (heap : Heap) (history : List Entry) (cycle kept : ℕ) (in_last : phase history ≡ cycle_phases * cycle + clearing) (answered : AllAnswered heap history)
    (right : (begun : List Id) → IsReach (graph_of heap (up_to_cycle history)) begun → IsCountedRight heap history kept begun) where
  -- there is a list of what was reached then, so what is reached in both was counted
  counted : (both : List Id) → IsReachOfBoth (graph_of heap (up_to_cycle history)) (graph_of heap history) both → fragments_of_all (graph_of heap history) both ≤ kept
  counted both is = ordered_by_reach_lists (graph_of heap (up_to_cycle history)) (fragments_of_all (graph_of heap history) both) kept (λ begun reach.
      (right begun reach).at_least both is.ordered (λ id there. (((is.reached id).0 there).1, (reach.reached id).1 ((is.reached id).0 there).0)))

  pub ends_cycle : EndsCycle heap history (entries.Ends cycle kept)
  ends_cycle = (
    (in_last, answered),
    record {
      within = λ begun reach. record { used = (right begun reach).used; spine = (right begun reach).spine; at_most = (right begun reach).at_most };
      reached = counted;
    },
  )
