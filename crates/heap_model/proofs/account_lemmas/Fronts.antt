-- What is so of a legal history is so of each front of it, and each entry keeps the rules after those before it.
use Rattle.std.proofs.Common.{Bool, List, [], ◌∷◌, ◌++◌, sym, subst, append_assoc}
use Rattle.std.proofs.lemmas.List.{append-nil}
use Rattle.heap_model.specs.declared.entry.Entry.{Entry}
use Rattle.heap_model.specs.declared.heap.Heap.{Heap}
use Rattle.heap_model.specs.account.Account.{IsLegal, KeepsSpace, KeepsSpaceAfter}
use Rattle.heap_model.specs.account.Cycles.{graph_of}
use Rattle.heap_model.specs.graph.Graph.{Graph, opening}
use Rattle.heap_model.specs.graph.Growth.{after_entry, graph_after}
use Rattle.heap_model.specs.graph.Legal.{Accepts, AcceptsAll}

-- a graph that accepts a history accepts its front, and what comes behind that
front_is_accepted : (g : Graph) (front back : List Entry) → AcceptsAll g (front ++ back) → AcceptsAll g front
front_is_accepted g [] back accepts = tt
front_is_accepted g (entry ∷ front) back accepts = (accepts.0, front_is_accepted (after_entry g entry) front back accepts.1)

back_is_accepted : (g : Graph) (front back : List Entry) → AcceptsAll g (front ++ back) → AcceptsAll (graph_after g front) back
back_is_accepted g [] back accepts = accepts
back_is_accepted g (entry ∷ front) back accepts = back_is_accepted (after_entry g entry) front back accepts.1

module _ (heap : Heap) (play : Bool) where
  -- a front of entries that keep the rules keeps them, and so does what comes behind it
  pub front_keeps_rules : (before front back : List Entry) → KeepsSpaceAfter heap play before (front ++ back) → KeepsSpaceAfter heap play before front
  front_keeps_rules before [] back keeps = tt
  front_keeps_rules before (entry ∷ front) back keeps = (keeps.0, front_keeps_rules (before ++ entry ∷ []) front back keeps.1)

  pub back_keeps_rules : (before front back : List Entry) → KeepsSpaceAfter heap play before (front ++ back) → KeepsSpaceAfter heap play (before ++ front) back
  back_keeps_rules before [] back keeps = subst (λ es. KeepsSpaceAfter heap play es back) (sym (append-nil before)) keeps
  back_keeps_rules before (entry ∷ front) back keeps =
      subst (λ es. KeepsSpaceAfter heap play es back) (append_assoc before (entry ∷ []) front) (back_keeps_rules (before ++ entry ∷ []) front back keeps.1)

  pub front_is_legal : (front back : List Entry) → IsLegal heap play (front ++ back) → IsLegal heap play front
  front_is_legal front back legal = record {
    objects = front_is_accepted (opening heap) front back legal.objects;
    space = front_keeps_rules [] front back legal.space;
  }

  module _ (front rest : List Entry) (entry : Entry) (legal : IsLegal heap play (front ++ entry ∷ rest)) where
    -- the graph of the entries before it accepts each entry
    pub entry_is_accepted : Accepts (graph_of heap front) entry
    entry_is_accepted = (back_is_accepted (opening heap) front (entry ∷ rest) legal.objects).0

    -- and after these it keeps the rules of space and phases
    pub entry_keeps_rules : KeepsSpace heap play front entry
    entry_keeps_rules = (back_keeps_rules [] front (entry ∷ rest) legal.space).0
