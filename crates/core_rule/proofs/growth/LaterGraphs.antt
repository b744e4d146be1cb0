-- What stays of a graph after an entry, and after a history.
use Rattle.std.proofs.Common.{◌≡◌, ◌⊎◌, inl, inr, List, [], ◌∷◌, ◌++◌, refl, ◌∙◌, subst}
use Rattle.std.proofs.lemmas.List.Sums.{fold-append}
use Rattle.core_rule.proofs.Terms.{graph_of, Entry, Heap, Id, Graph, opening, after_entry, graph_after, Accepts, AcceptsAll, IsObjectLegal, IsMade, Reaches, fragments_at}
use Rattle.core_rule.specs.growth.GraphLaws.{UnreachedStaysSo, EachObjectStays}
use Rattle.core_rule.proofs.growth.EntryGrowth.{grows_by_entry}
use Rattle.core_rule.proofs.growth.Growing.{reached_before_or_unmade, made_stays, fragments_stay}

module _ (g : Graph) (entry : Entry) (accepts : Accepts g entry) where
  -- what is reached after it was reached before, or is new
  pub reach_after : (id : Id) → Reaches (after_entry g entry) id → Reaches g id ⊎ ¬ IsMade g id
  reach_after = reached_before_or_unmade g (after_entry g entry) (grows_by_entry g entry accepts)

  -- what was made stays so, with its fragments
  pub made_stays_after_entry : (id : Id) → IsMade g id → IsMade (after_entry g entry) id
  made_stays_after_entry = made_stays g (after_entry g entry) (grows_by_entry g entry accepts)

  pub fragments_after : (id : Id) → IsMade g id → fragments_at (after_entry g entry) id ≡ fragments_at g id
  fragments_after = fragments_stay g (after_entry g entry) (grows_by_entry g entry accepts)

-- so after a history
pub made_after_all : (g : Graph) (history : List Entry) → AcceptsAll g history → (id : Id) → IsMade g id → IsMade (graph_after g history) id
made_after_all g [] accepts id made = made
made_after_all g (entry ∷ history) accepts id made = made_after_all (after_entry g entry) history accepts.1 id (made_stays_after_entry g entry accepts.0 id made)

pub fragments_after_all : (g : Graph) (history : List Entry) → AcceptsAll g history → (id : Id) → IsMade g id → fragments_at (graph_after g history) id ≡ fragments_at g id
fragments_after_all g [] accepts id made = refl
fragments_after_all g (entry ∷ history) accepts id made =
    fragments_after_all (after_entry g entry) history accepts.1 id (made_stays_after_entry g entry accepts.0 id made) ∙ fragments_after g entry accepts.0 id made

pub reach_after_all : (g : Graph) (history : List Entry) → AcceptsAll g history → (id : Id) → IsMade g id → Reaches (graph_after g history) id → Reaches g id
reach_after_all g [] accepts id made reached = reached
reach_after_all g (entry ∷ history) accepts id made reached =
    elim (reach_after g entry accepts.0 id (reach_after_all (after_entry g entry) history accepts.1 id (made_stays_after_entry g entry accepts.0 id made) reached)) [
      | inl before ↦ before
      | inr unmade ↦ absurd (unmade made)
    ]

-- the graph accepts the later section of a history after the earlier one
pub accepts_later : (g : Graph) (history later : List Entry) → AcceptsAll g (history ++ later) → AcceptsAll (graph_after g history) later
accepts_later g [] later accepts = accepts
accepts_later g (entry ∷ history) later accepts = accepts_later (after_entry g entry) history later accepts.1

module _ (heap : Heap) (history later : List Entry) (id : Id) (legal : IsObjectLegal heap (history ++ later)) (made : IsMade (graph_of heap history) id) where
  grown : graph_of heap (history ++ later) ≡ graph_after (graph_of heap history) later
  grown = fold-append after_entry (opening heap) history later

  accepts : AcceptsAll (graph_of heap history) later
  accepts = accepts_later (opening heap) history later legal

  reached_before : Reaches (graph_of heap (history ++ later)) id → Reaches (graph_of heap history) id
  reached_before reached = reach_after_all (graph_of heap history) later accepts id made (subst (λ g. Reaches g id) grown reached)

  as_large : IsMade (graph_of heap (history ++ later)) id × (fragments_at (graph_of heap (history ++ later)) id ≡ fragments_at (graph_of heap history) id)
  as_large = rw grown (made_after_all (graph_of heap history) later accepts id made, fragments_after_all (graph_of heap history) later accepts id made)

pub unreached_stays_so : UnreachedStaysSo
unreached_stays_so = reached_before

pub each_object_stays : EachObjectStays
each_object_stays = as_large
