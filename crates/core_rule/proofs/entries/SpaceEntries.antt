-- The entries of a claim and a give back: the graph after them, and that they may stand.
use Rattle.std.proofs.Common.{◌≡◌, ℕ, ◌+◌, ◌*◌, ◌≤◌, false, List, [], ◌∷◌, ◌++◌}
use Rattle.core_rule.proofs.Terms.{Entry, Heap, IsLegal, graph_of, IsPresent, fragments_gained, fragments_lost, taken_of, spent_of, opening}
use Rattle.heap_model.specs.declared.entry.Entry.TheVariants as entries
use Rattle.heap_model.proofs.Histories.{graph_after-more}
use Rattle.core_rule.proofs.entries.Legality.{legal_after_entry, keeps_space_of_takes, keeps_space_of_gives}

module _ (heap : Heap) (history : List Entry) (number k : ℕ) where
  -- neither changes the graph
  pub graph_same_after_takes : graph_of heap (history ++ entries.Takes number k ∷ []) ≡ graph_of heap history
  graph_same_after_takes = graph_after-more (opening heap) history (entries.Takes number k)

  pub graph_same_after_gives : graph_of heap (history ++ entries.GivesBack number k ∷ []) ≡ graph_of heap history
  graph_same_after_gives = graph_after-more (opening heap) history (entries.GivesBack number k)

  module _ (legal : IsLegal heap false history) (present : IsPresent (graph_of heap history) number) (some : 1 ≤ k) where
    -- each may stand where there is enough
    pub legal_after_takes : fragments_gained heap history + k ≤ 16 * heap.groups + fragments_lost history → IsLegal heap false (history ++ entries.Takes number k ∷ [])
    legal_after_takes room = legal_after_entry heap false history (entries.Takes number k) legal present (keeps_space_of_takes heap false history number k some room)

    pub legal_after_gives : spent_of number history + k ≤ taken_of number history → IsLegal heap false (history ++ entries.GivesBack number k ∷ [])
    legal_after_gives own = legal_after_entry heap false history (entries.GivesBack number k) legal present (keeps_space_of_gives heap false history number k some own)
