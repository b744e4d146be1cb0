-- Where the graph stays, no object is new, and what is kept was so.
use Rattle.std.proofs.Common.{◌≡◌, ℕ, ◌<◌, inl, inr, length, sym, ap, ◌∙◌, subst, arith}
use Rattle.std.proofs.lemmas.Bool.{cases_lt}
use Rattle.core_rule.proofs.Terms.{Heap, graph_of, IsMade, State, Book, id_at, object_number, Kept, Rule}
use Rattle.core_rule.proofs.book.BookGoing.{BookGoesOn}
use Rattle.core_rule.proofs.footprint.StaysInside.{kept_before_or_new}

module _ (heap : Heap) (state new : State) (book now : Book) (rule : Rule heap state book) (after : Rule heap new now) (goes : BookGoesOn heap state book now) (graph : graph_of heap now.history ≡ graph_of heap book.history) where
  -- no object is new
  made_before : (i : ℕ) → i < length now.made → i < length book.made
  made_before i below =
      let there : IsMade (graph_of heap book.history) (id_at now.made i) = subst (λ g. IsMade g (id_at now.made i)) graph (after.heap_stands.ids.in_graph i below) in
      let numbered = rule.heap_stands.ids.numbered (id_at now.made i) there in
      let j : ℕ = object_number book.made (id_at now.made i) in
      elim (cases_lt i (length book.made)) [
        | inl before ↦ before
        | inr above ↦
            let same : id_at now.made j ≡ id_at now.made i = goes.made j numbered.0 ∙ numbered.1 in
            let one : object_number now.made (id_at now.made j) ≡ j = after.heap_stands.ids.distinct j (omega (arith, numbered.0, above, below)) in
            let other : object_number now.made (id_at now.made i) ≡ i = after.heap_stands.ids.distinct i below in
            let both : j ≡ i = sym one ∙ ap (object_number now.made) same ∙ other in
            absurd (omega (arith, both, numbered.0, above))
      ]

  -- what is kept was kept as the same object's
  pub kept_was_kept : (f i k : ℕ) → now.owner f ≡ Kept i k → (i < length book.made) × (book.owner f ≡ Kept i k)
  kept_was_kept f i k owned =
      let below : i < length book.made = made_before i (after.heap_stands.objects.back f i k owned).0 in
      elim (kept_before_or_new (length book.made) (book.owner f) (now.owner f) i k (goes.owners.each f) owned) [
        | inl same ↦ (below, same)
        | inr above ↦ absurd (omega (arith, below, above))
      ]
