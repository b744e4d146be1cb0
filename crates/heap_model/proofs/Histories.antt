-- A history with one more entry.
use Rattle.std.proofs.Common.{◌≡◌, ℕ, ◌+◌, List, [], ◌∷◌, ◌++◌, sym, ap, ◌∙◌, subst, append_assoc, zero-add, Bool, cond}
use Rattle.std.proofs.lemmas.List.Sums.{sum_by-append, fold-append}
use Rattle.std.proofs.lemmas.List.{append-nil}
use Rattle.heap_model.specs.declared.heap.Heap.{Heap}
use Rattle.heap_model.specs.declared.entry.Entry.{Entry}
use Rattle.heap_model.specs.graph.Graph.{Graph}
use Rattle.heap_model.specs.graph.Growth.{after_entry, graph_after}
use Rattle.heap_model.specs.graph.Legal.{Accepts, AcceptsAll}
use Rattle.heap_model.specs.declared.account.effect.Effect.{Effect}
use Rattle.heap_model.specs.account.Space.{total, total_of}
use Rattle.heap_model.specs.account.Effects.{effect_of, is_of}
use Rattle.heap_model.specs.account.Account.{KeepsSpace, KeepsSpaceAfter}

-- the graph grows by the entry
pub graph_after-more : (g : Graph) (history : List Entry) (entry : Entry) → graph_after g (history ++ entry ∷ []) ≡ after_entry (graph_after g history) entry
graph_after-more g history entry = fold-append after_entry g history (entry ∷ [])

-- an entry that the graph accepts may stand there
pub AcceptsAll-more : (g : Graph) (history : List Entry) (entry : Entry) → AcceptsAll g history → Accepts (graph_after g history) entry → AcceptsAll g (history ++ entry ∷ [])
AcceptsAll-more g [] entry legal accepts = (accepts, tt)
AcceptsAll-more g (first ∷ history) entry legal accepts = (legal.0, AcceptsAll-more (after_entry g first) history entry legal.1 accepts)

-- an entry that keeps the rules of space may stand there
pub KeepsSpaceAfter-more : (heap : Heap) {play : Bool} (before history : List Entry) (entry : Entry) → KeepsSpaceAfter heap play before history → KeepsSpace heap play (before ++ history) entry → KeepsSpaceAfter heap play before (history ++ entry ∷ [])
KeepsSpaceAfter-more heap {play} before [] entry kept keeps = (subst (λ b. KeepsSpace heap play b entry) (append-nil before) keeps, tt)
KeepsSpaceAfter-more heap {play} before (first ∷ history) entry kept keeps =
    (kept.0, KeepsSpaceAfter-more heap (before ++ first ∷ []) history entry kept.1 (subst (λ b. KeepsSpace heap play b entry) (sym (append_assoc before (first ∷ []) history)) keeps))

-- the sums grow by what the entry does
pub total-more : (summand : Effect → ℕ) (history : List Entry) (entry : Entry) → total summand (history ++ entry ∷ []) ≡ total summand history + summand (effect_of entry)
total-more summand history entry = sum_by-append (λ e. summand (effect_of e)) history (entry ∷ []) ∙ ap (λ n. total summand history + n) (zero-add (summand (effect_of entry)))

pub total_of-more : (number : ℕ) (summand : Effect → ℕ) (history : List Entry) (entry : Entry) → total_of number summand (history ++ entry ∷ []) ≡ total_of number summand history + cond (is_of number entry) (summand (effect_of entry)) 0
total_of-more number summand history entry = sum_by-append (λ e. cond (is_of number e) (summand (effect_of e)) 0) history (entry ∷ []) ∙ ap (λ n. total_of number summand history + n) (zero-add (cond (is_of number entry) (summand (effect_of entry)) 0))
