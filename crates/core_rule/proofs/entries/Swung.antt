-- An array that has swung was made.
use Rattle.std.proofs.Common.{◌≡◌, ℕ, zero, suc, ◌<◌, true, false, List, [], ◌∷◌, ◌++◌, length, Contains, Option, Some, None, IsSome, slice_index_or, refl, sym, subst, arith}
use Rattle.std.specs.Option.{IsSomeAnd}
use Rattle.std.proofs.lemmas.List.{append_assoc}
use Rattle.std.proofs.lemmas.List.Elements.{Contains-append_right}
use Rattle.core_rule.proofs.Terms.{Entry, Swings, Heap, Id, IsLegal, KeepsSpaceAfter, graph_of, after_last, begins_phase, up_to_last, Graph, Node, IsObjectLegal, node, IsMade}
use Rattle.heap_model.specs.account.Sweep.{IsArray, HasSwung, Sweeps}
use Rattle.heap_model.proofs.account_lemmas.Windows.{window_sections_make_whole}
use Rattle.core_rule.proofs.growth.LaterGraphs.{each_object_stays}

array_made : (g : Graph) (id : Id) → IsArray g id → IsMade g id
array_made g id = by (node g id)
  where
    by : (o : Option Node) → IsSomeAnd o (λ object. object.array ≡ true) → IsSome o
    by None is = absurd is
    by (Some object) is = refl

-- an entry by which it swings may stand where it was made alone, and what was made stays
module _ (heap : Heap) (id : Id) where
  swings_at : (before rest : List Entry) → KeepsSpaceAfter heap false before rest → IsObjectLegal heap (before ++ rest) → (k : ℕ) → k < length rest → slice_index_or rest k (Swings id) ≡ Swings id
      → IsMade (graph_of heap (before ++ rest)) id
  swings_at before [] keeps legal k less is = absurd (omega (arith, less))
  swings_at before (entry ∷ rest) keeps legal zero less is =
      let sweeps : Sweeps heap before (Swings id) = subst (Sweeps heap before) is keeps.0.sweeps in
      (each_object_stays heap before (entry ∷ rest) id legal (array_made (graph_of heap before) id sweeps.1)).0
  swings_at before (entry ∷ rest) keeps legal (suc k) less is =
      subst (λ es. IsMade (graph_of heap es) id) (append_assoc before (entry ∷ []) rest)
      (swings_at (before ++ entry ∷ []) rest keeps.1 (subst (IsObjectLegal heap) (sym (append_assoc before (entry ∷ []) rest)) legal) k (omega (arith, less)) is)

  pub swung_is_made : (history : List Entry) → IsLegal heap false history → HasSwung id history → IsMade (graph_of heap history) id
  swung_is_made history legal swung =
      let there : Contains history (Swings id)
      = subst (λ es. Contains es (Swings id)) (window_sections_make_whole begins_phase history) (Contains-append_right (up_to_last begins_phase history) (after_last begins_phase history) (Swings id) swung) in
      swings_at [] history legal.space legal.objects there.0 there.1 there.2
