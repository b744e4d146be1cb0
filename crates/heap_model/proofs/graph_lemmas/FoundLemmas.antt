-- What a search has found: the marked ids, each once.
use Rattle.std.proofs.Common.{◌≡◌, ◌≢◌, ℕ, zero, suc, ◌⊎◌, inl, inr, Bool, true, false, List, [], ◌∷◌, ◌++◌, length, get_or, set, slice_get, Some, Contains, sym, ap, ◌∙◌, subst, arith}
use Rattle.std.proofs.lemmas.Bool.{cases_eq, cases_lt}
use Rattle.std.proofs.lemmas.List.{get_or-set_same, get_or-set_other, set_past}
use Rattle.std.proofs.lemmas.List.Elements.{Contains-append_left, Contains-push, Contains-push_cases, Contains-get_or}
use Rattle.std.proofs.lemmas.List.Quantifiers.{all_pairs_push}
use Rattle.heap_model.specs.declared.id.Id.{Id}
use Rattle.heap_model.specs.declared.id.Id.TheVariants.{Board, Made}
use Rattle.heap_model.specs.graph.Graph.{Graph}
use Rattle.heap_model.specs.graph.Reach.{AreReached}
use Rattle.heap_model.specs.graph.Search.{Search, AreMarked, IsSearch}
use Rattle.heap_model.specs.graph.Marking.{Marking, marks_of, mark_of, with_mark, HasMark, no_marks}
use Rattle.heap_model.proofs.graph_lemmas.MarkLemmas.{with_mark-here, with_mark-other, IsMarked-no_marks}
use Rattle.heap_model.proofs.graph_lemmas.SearchLemmas.{IsMarked-reached}

-- nothing is found where nothing is marked
pub AreMarked-none : (counts : List ℕ) → AreMarked (no_marks counts) []
AreMarked-none counts = record {
  once = λ i j d lt within. absurd (omega (arith, within));
  marked = λ id. (λ held. absurd (omega (arith, held.1)), λ marked. absurd (IsMarked-no_marks counts id marked));
}

-- what is marked now is found as well
pub AreMarked-more : (m : Marking) (id : Id) (ids : List Id) → mark_of m id ≡ Some false → AreMarked m ids → AreMarked (with_mark m id) (ids ++ id ∷ [])
AreMarked-more m id ids fresh are = record {
  once = all_pairs_push (λ one later. one ≢ later) ids id are.once (λ k d within same. apart (subst (HasMark m) same ((are.marked (get_or ids k d)).0 (Contains-get_or ids k d within))));
  marked = λ other. (
    λ held. elim (Contains-push_cases ids id other held) [ inl old ↦ still other ((are.marked other).0 old) | inr here ↦ subst (HasMark (with_mark m id)) here (with_mark-here m id fresh) ],
    λ marked. elim (with_mark-other m id other fresh) [
      | inl stays ↦ Contains-append_left ids (id ∷ []) other ((are.marked other).1 (sym stays ∙ marked))
      | inr here ↦ subst (Contains (ids ++ id ∷ [])) here (Contains-push ids id)
    ],
  );
}
  where
    apart : HasMark m id → ⊥
    apart marked = cc (fresh, marked)

    still : (other : Id) → HasMark m other → HasMark (with_mark m id) other
    still other marked = elim (with_mark-other m id other fresh) [ inl stays ↦ stays ∙ marked | inr here ↦ subst (HasMark (with_mark m id)) here (with_mark-here m id fresh) ]

-- one more mark that isn't set
abbrev pub added : Marking → ℕ → Marking
added m number = record m { seats = set m.seats number (marks_of m number ++ false ∷ []) }

row_more : (row : List Bool) (count : ℕ) → slice_get row count ≡ Some true → slice_get (row ++ false ∷ []) count ≡ Some true
row_more [] count h = cc h
row_more (b ∷ row) zero h = h
row_more (b ∷ row) (suc count) h = row_more row count h

row_less : (row : List Bool) (count : ℕ) → slice_get (row ++ false ∷ []) count ≡ Some true → slice_get row count ≡ Some true
row_less [] zero h = cc h
row_less [] (suc count) h = cc h
row_less (b ∷ row) zero h = h
row_less (b ∷ row) (suc count) h = row_less row count h

-- the marks of a seat are as before, or there is one more
marks_of-added : (m : Marking) (number other : ℕ) → (marks_of (added m number) other ≡ marks_of m other) ⊎ (marks_of (added m number) other ≡ marks_of m other ++ false ∷ [])
marks_of-added m number other = elim (cases_eq other number) [
  | inr elsewhere ↦ inl (get_or-set_other m.seats number other (marks_of m number ++ false ∷ []) [] elsewhere)
  | inl here ↦ elim (cases_lt number (length m.seats)) [
    | inl within ↦ inr (subst (λ n. marks_of (added m number) n ≡ marks_of m n ++ false ∷ []) (sym here) (get_or-set_same m.seats number (marks_of m number ++ false ∷ []) [] within))
    | inr past ↦ inl (ap (λ rows. get_or rows other []) (set_past m.seats number (marks_of m number ++ false ∷ []) past))
  ]
]

HasMark-added : (m : Marking) (number : ℕ) (id : Id) → (HasMark m id → HasMark (added m number) id) × (HasMark (added m number) id → HasMark m id)
HasMark-added m number Board = (λ h. h, λ h. h)
HasMark-added m number (Made other count) = elim (marks_of-added m number other) [
  | inl same ↦ (λ h. ap (λ row. slice_get row count) same ∙ h, λ h. sym (ap (λ row. slice_get row count) same) ∙ h)
  | inr more ↦ (
    λ h. ap (λ row. slice_get row count) more ∙ row_more (marks_of m other) count h,
    λ h. row_less (marks_of m other) count (sym (ap (λ row. slice_get row count) more) ∙ h),
  )
]

-- it changes nothing of what is found
pub AreMarked-added : (m : Marking) (number : ℕ) (ids : List Id) → AreMarked m ids → AreMarked (added m number) ids
AreMarked-added m number ids are = record {
  once = are.once;
  marked = λ id. (λ held. (HasMark-added m number id).0 ((are.marked id).0 held), λ marked. (are.marked id).1 ((HasMark-added m number id).1 marked));
}

-- at the end of a search what is found is what is reached
pub AreReached-found : (g : Graph) (walk : Search) (ids : List Id) → IsSearch g walk → walk.waiting ≡ [] → AreMarked walk.marks ids → AreReached g ids
AreReached-found g walk ids search none are = record {
  once = are.once;
  reached = λ id. (λ held. search.reached id ((are.marked id).0 held), λ reaches. (are.marked id).1 (IsMarked-reached g walk search none id reaches));
}
