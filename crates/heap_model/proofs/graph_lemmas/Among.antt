-- Lists of ids in their order, and which of the ids a search has marked.
use Rattle.std.proofs.Common.{◌≡◌, ◌≢◌, ◌⊎◌, inl, inr, List, [], ◌∷◌, AllPairs, Contains, refl, sym, ap, ◌∙◌, subst, arith, Bool, true, false, Option, Some, None, filter, unwrap_or}
use Rattle.std.proofs.lemmas.Bool.{cases_Bool, cond-true, cond-false, both_ways}
use Rattle.std.proofs.lemmas.List.Elements.{All-filter, filter_passes, Contains-get_or}
use Rattle.std.proofs.lemmas.List.Kept.{AllPairs-filter}
use Rattle.heap_model.specs.declared.id.Id.{Id}
use Rattle.heap_model.specs.declared.id.Id.TheVariants.{Board, Made}
use Rattle.heap_model.specs.graph.Graph.{Graph}
use Rattle.heap_model.specs.graph.Search.{Search, IsSearch}
use Rattle.heap_model.specs.graph.Marking.{mark_of, is_marked}
use Rattle.heap_model.specs.graph.Reach.{IsBefore, AreReachedAmong}
use Rattle.heap_model.proofs.graph_lemmas.Heads.{contains_cases, contains_head, contains_tail, pairs_tail, pairs_head}
use Rattle.heap_model.proofs.graph_lemmas.SearchLemmas.{IsMarked-reached}

-- no id is before itself, nor before one that is before it
not_around : (a b : Id) → IsBefore a b → IsBefore b a → ⊥
not_around Board Board x y = x
not_around Board (Made t m) x y = y
not_around (Made number n) Board x y = x
not_around (Made number n) (Made t m) (inl x) (inl y) = omega (arith, x, y)
not_around (Made number n) (Made t m) (inl x) (inr y) = omega (arith, x, y.0)
not_around (Made number n) (Made t m) (inr x) (inl y) = omega (arith, x.0, y)
not_around (Made number n) (Made t m) (inr x) (inr y) = omega (arith, x.1, y.1)

-- lists in order with the same ids are equal
pub ordered_same_ids_equal : (xs ys : List Id) → AllPairs IsBefore xs → AllPairs IsBefore ys → ((id : Id) → Contains xs id → Contains ys id) → ((id : Id) → Contains ys id → Contains xs id) → xs ≡ ys
ordered_same_ids_equal [] [] p other there back = refl
ordered_same_ids_equal [] (y ∷ ys) p other there back = absurd (let h = back y (contains_head y ys) in omega (arith, h.1))
ordered_same_ids_equal (x ∷ xs) [] p other there back = absurd (let h = there x (contains_head x xs) in omega (arith, h.1))
ordered_same_ids_equal (x ∷ xs) (y ∷ ys) p other there back =
    let head : x ≡ y = heads (contains_cases y ys x (there x (contains_head x xs))) (contains_cases x xs y (back y (contains_head y ys))) in
    let tail : xs ≡ ys = ordered_same_ids_equal xs ys (pairs_tail IsBefore x xs p) (pairs_tail IsBefore y ys other)
    (λ id h. onward id h (contains_cases y ys id (there id (contains_tail x xs id h))) head) (λ id h. backward id h (contains_cases x xs id (back id (contains_tail y ys id h))) head) in
    cc (head, tail)
  where
    heads : (y ≡ x) ⊎ Contains ys x → (x ≡ y) ⊎ Contains xs y → x ≡ y
    heads (inl e) o = sym e
    heads (inr c) (inl e) = e
    heads (inr c) (inr d) = absurd (not_around x y (pairs_head IsBefore x xs y p d) (pairs_head IsBefore y ys x other c))

    onward : (id : Id) → Contains xs id → (y ≡ id) ⊎ Contains ys id → x ≡ y → Contains ys id
    onward id h (inr c) e = c
    onward id h (inl same) e = absurd (let before = subst (λ z. IsBefore x z) (sym (e ∙ same)) (pairs_head IsBefore x xs id p h) in not_around x x before before)

    backward : (id : Id) → Contains ys id → (x ≡ id) ⊎ Contains xs id → x ≡ y → Contains xs id
    backward id h (inr c) e = c
    backward id h (inl same) e = absurd (let before = subst (λ z. IsBefore y z) (sym (sym e ∙ same)) (pairs_head IsBefore y ys id other h) in not_around y y before before)

-- a filter keeps what passes
kept_passes : {A : Type 0} (p : A → Bool) (xs : List A) (x : A) → Contains (filter p xs) x → Contains xs x × (p x ≡ true)
kept_passes p xs x c =
    (subst (Contains xs) c.2 (All-filter p (Contains xs) xs (λ k d lt. Contains-get_or xs k d lt) c.0 x c.1), subst (λ y. p y ≡ true) c.2 (filter_passes p xs c.0 x c.1))

passes_kept : {A : Type 0} (p : A → Bool) (xs : List A) (x : A) → Contains xs x → p x ≡ true → Contains (filter p xs) x
passes_kept p [] x c fits = absurd (omega (arith, c.1))
passes_kept p (y ∷ ys) x c fits = elim (cases_Bool (p y)) [
  | inl passes ↦ subst (λ zs. Contains zs x) (sym (cond-true (p y) (y ∷ filter p ys) (filter p ys) passes)) (elim (contains_cases y ys x c) [
    | inl same ↦ subst (Contains (y ∷ filter p ys)) same (contains_head y (filter p ys))
    | inr later ↦ contains_tail y (filter p ys) x (passes_kept p ys x later fits)
  ])
  | inr fails ↦ subst (λ zs. Contains zs x) (sym (cond-false (p y) (y ∷ filter p ys) (filter p ys) fails)) (elim (contains_cases y ys x c) [
    | inl same ↦ absurd (both_ways (p y) fails (ap p same ∙ fits))
    | inr later ↦ passes_kept p ys x later fits
  ])
]

-- a mark is set exactly where its test says so
is_set : (set : Option Bool) → unwrap_or set false ≡ true → set ≡ Some true
is_set None h = cc h
is_set (Some b) h = ap Some h

-- at the end of a search the marked ones of the ids are the reached ones
pub marked_are_reached_among : (g : Graph) (walk : Search) (ids : List Id) → IsSearch g walk → walk.waiting ≡ [] → AreReachedAmong g ids (filter (is_marked walk.marks) ids)
marked_are_reached_among g walk ids search none = record {
  once = AllPairs-filter (λ id later. id ≢ later) (is_marked walk.marks) ids;
  reached = λ id. (
    λ c. let kept = kept_passes (is_marked walk.marks) ids id c in (kept.0, search.reached id (is_set (mark_of walk.marks id) kept.1)),
    λ c. passes_kept (is_marked walk.marks) ids id c.0 (ap (λ o. unwrap_or o false) (IsMarked-reached g walk search none id c.1)),
  );
}
