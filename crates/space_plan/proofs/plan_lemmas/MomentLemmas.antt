-- The moments of a history that goes on.
use Rattle.std.proofs.Common.{◌≡◌, ℕ, ◌⊎◌, inl, inr, Bool, true, false, cond, List, [], ◌∷◌, ◌++◌, filter, Contains, append_assoc, refl, sym, ap, ◌∙◌, subst}
use Rattle.std.specs.List.{AllZip}
use Rattle.std.proofs.lemmas.Bool.{cond-true}
use Rattle.std.proofs.lemmas.List.{append-nil}
use Rattle.std.proofs.lemmas.List.Elements.{filter-append, Contains-append_left, Contains-append_right, Contains-push, Contains-push_cases}
use Rattle.heap_model.specs.declared.entry.Entry.{Entry}
use Rattle.heap_model.specs.declared.entry.Entry.TheVariants as entries
use Rattle.heap_model.specs.declared.heap.Heap.{Heap}
use Rattle.heap_model.specs.Board.{board_fragments}
use Rattle.heap_model.specs.account.Cycles.{graph_of}
use Rattle.heap_model.specs.account.Windows.{begins_cycle}
use Rattle.heap_model.specs.graph.Graph.{Graph}
use Rattle.heap_model.specs.graph.Sizes.{fragments_of_all}
use Rattle.heap_model.proofs.graph_lemmas.Heads.{contains_head}
use Rattle.heap_model.proofs.graph_lemmas.Among.{ordered_same_ids_equal}
use Rattle.reply_text.specs.write.Counts.{is_end}
use Rattle.heap_model.specs.graph.Sizes.{HasReach}
use Rattle.space_plan.specs.plan.Moments.{Moment, moments_behind, moments_of, begins_of, ends_of}
use Rattle.space_plan.specs.plan.Totals.{IsReached}

-- the moments of one part of a history, and those of the other behind it
pub moments-append : (before xs ys : List Entry) → moments_behind before (xs ++ ys) ≡ moments_behind before xs ++ moments_behind (before ++ xs) ys
moments-append before [] ys = ap (λ b. moments_behind b ys) (sym (append-nil before))
moments-append before (x ∷ xs) ys =
    let here : Moment = record { before = before; entry = x } in
    ap (λ ms. here ∷ ms) (moments-append (before ++ x ∷ []) xs ys ∙ ap (λ b. moments_behind (before ++ x ∷ []) xs ++ moments_behind b ys) (append_assoc before (x ∷ []) xs))

-- the moments that pass a test, with one more entry
passing-more : (test : Entry → Bool) (history : List Entry) (entry : Entry)
    → filter (λ (at : Moment). test at.entry) (moments_of (history ++ entry ∷ [])) ≡ filter (λ (at : Moment). test at.entry) (moments_of history) ++ cond (test entry) (record { before = history; entry = entry } ∷ []) []
passing-more test history entry = ap (filter (λ (at : Moment). test at.entry)) (moments-append [] history (entry ∷ [])) ∙ filter-append (λ (at : Moment). test at.entry) (moments_of history) (record { before = history; entry = entry } ∷ [])

-- one more end
pub ends_of-yes : (history : List Entry) (entry : Entry) → is_end entry ≡ true → ends_of (history ++ entry ∷ []) ≡ ends_of history ++ record { before = history; entry = entry } ∷ []
ends_of-yes history entry ends = passing-more is_end history entry ∙ ap (λ b. ends_of history ++ cond b (record { before = history; entry = entry } ∷ []) []) ends

-- no more end
pub ends_of-no : (history : List Entry) (entry : Entry) → is_end entry ≡ false → ends_of (history ++ entry ∷ []) ≡ ends_of history
ends_of-no history entry other =
    passing-more is_end history entry ∙ ap (λ b. ends_of history ++ cond b (record { before = history; entry = entry } ∷ []) []) other ∙ append-nil (ends_of history)

begins_of-yes : (history : List Entry) (entry : Entry) → begins_cycle entry ≡ true → begins_of (history ++ entry ∷ []) ≡ begins_of history ++ record { before = history; entry = entry } ∷ []
begins_of-yes history entry begins = passing-more begins_cycle history entry ∙ ap (λ b. begins_of history ++ cond b (record { before = history; entry = entry } ∷ []) []) begins

begins_of-no : (history : List Entry) (entry : Entry) → begins_cycle entry ≡ false → begins_of (history ++ entry ∷ []) ≡ begins_of history
begins_of-no history entry other =
    passing-more begins_cycle history entry ∙ ap (λ b. begins_of history ++ cond b (record { before = history; entry = entry } ∷ []) []) other ∙ append-nil (begins_of history)

-- an entry that passes a test makes a moment that does
pub passing_stands : (test : Entry → Bool) (before : List Entry) (entry : Entry) (rest : List Entry) → test entry ≡ true
    → Contains (filter (λ (at : Moment). test at.entry) (moments_of (before ++ entry ∷ rest))) (record { before = before; entry = entry })
passing_stands test before entry rest passes =
    let here : Moment = record { before = before; entry = entry } in
    let pass : List Moment → List Moment = filter (λ (at : Moment). test at.entry) in
    let later = moments_behind (before ++ entry ∷ []) rest in
    let parted : pass (moments_of (before ++ entry ∷ rest)) ≡ pass (moments_of before) ++ here ∷ pass later =
    ap pass (moments-append [] before (entry ∷ rest)) ∙ filter-append (λ (at : Moment). test at.entry) (moments_of before) (here ∷ later)
    ∙ ap (λ ms. pass (moments_of before) ++ ms) (cond-true (test entry) (here ∷ pass later) (pass later) passes) in
    subst (λ ms. Contains ms here) (sym parted) (Contains-append_right (pass (moments_of before)) (here ∷ pass later) here (contains_head here (pass later)))

-- what is reached has one number of fragments
pub HasReach-unique : (g : Graph) (n m : ℕ) → HasReach g n → HasReach g m → n ≡ m
HasReach-unique g n m one other =
    one.counted
    ∙ ap (fragments_of_all g) (ordered_same_ids_equal one.ids other.ids one.reached.ordered other.reached.ordered (λ id held. (other.reached.reached id).1 ((one.reached.reached id).0 held)) (λ id held. (one.reached.reached id).1 ((other.reached.reached id).0 held)))
    ∙ sym other.counted

-- where no cycle begins the same is reached at begins
pub IsReached-no : (heap : Heap) (history : List Entry) (entry : Entry) → begins_cycle entry ≡ false → (n : ℕ) → (IsReached heap history n → IsReached heap (history ++ entry ∷ []) n) × (IsReached heap (history ++ entry ∷ []) n → IsReached heap history n)
IsReached-no heap history entry other n =
    let same = begins_of-no history entry other in
    (subst (λ begins. (n ≡ board_fragments heap) ⊎ ((at : Moment) × Contains begins at × HasReach (graph_of heap (at.before ++ at.entry ∷ [])) n)) (sym same), subst (λ begins. (n ≡ board_fragments heap) ⊎ ((at : Moment) × Contains begins at × HasReach (graph_of heap (at.before ++ at.entry ∷ [])) n)) same)

-- where one begins, what is reached there is reached at a begin as well
pub IsReached-stays : (heap : Heap) (history : List Entry) (entry : Entry) → begins_cycle entry ≡ true → (n : ℕ) → IsReached heap history n → IsReached heap (history ++ entry ∷ []) n
IsReached-stays heap history entry begins n (inl board) = inl board
IsReached-stays heap history entry begins n (inr at) =
    inr (at.0, subst (λ ms. Contains ms at.0) (sym (begins_of-yes history entry begins)) (Contains-append_left (begins_of history) _ at.0 at.1), at.2)

pub IsReached-here : (heap : Heap) (history : List Entry) (entry : Entry) → begins_cycle entry ≡ true → (n : ℕ) → HasReach (graph_of heap (history ++ entry ∷ [])) n → IsReached heap (history ++ entry ∷ []) n
IsReached-here heap history entry begins n reach =
    let here : Moment = record { before = history; entry = entry } in
    inr (here, subst (λ ms. Contains ms here) (sym (begins_of-yes history entry begins)) (Contains-push (begins_of history) here), reach)

pub IsReached-cases : (heap : Heap) (history : List Entry) (entry : Entry) → begins_cycle entry ≡ true → (n k : ℕ) → HasReach (graph_of heap (history ++ entry ∷ [])) n
    → IsReached heap (history ++ entry ∷ []) k → IsReached heap history k ⊎ (k ≡ n)
IsReached-cases heap history entry begins n k here (inl board) = inl (inl board)
IsReached-cases heap history entry begins n k here (inr at) =
    elim (Contains-push_cases (begins_of history) (record { before = history; entry = entry }) at.0 (subst (λ ms. Contains ms at.0) (begins_of-yes history entry begins) at.1)) [
      | inl old ↦ inl (inr (at.0, old, at.2))
      | inr new ↦ inr (HasReach-unique _ k n (subst (λ (m : Moment). HasReach (graph_of heap (m.before ++ m.entry ∷ [])) k) (sym new) at.2) here)
    ]

-- an entry that isn't an end
pub is_no_end : (entry : Entry) → ((cycle kept : ℕ) → entry ≡ entries.Ends cycle kept → ⊥) → is_end entry ≡ false
is_no_end (entries.Ends cycle kept) other = absurd (other cycle kept refl)
is_no_end entry other = refl

-- one more of each beside one another
pub zip_push : {A B : Type 0} (R : A → B → Type 0) (xs : List A) (ys : List B) (x : A) (y : B) → AllZip R xs ys → R x y → AllZip R (xs ++ x ∷ []) (ys ++ y ∷ [])
zip_push R [] [] x y each here = (here, tt)
zip_push R [] (b ∷ ys) x y each here = absurd each
zip_push R (a ∷ xs) [] x y each here = absurd each
zip_push R (a ∷ xs) (b ∷ ys) x y each here = (each.0, zip_push R xs ys x y each.1 here)
