-- What is kept of a cycle.
use Rattle.std.proofs.Common.{◌≡◌, ℕ, zero, suc, ◌+◌, ◌-◌, ◌≤◌, List, [], ap, sym, ◌∙◌, arith, AllPairs, Contains, ◌≢◌, ◌↔◌, sum_by, add-zero, zero-add, add-one}
use Rattle.std.proofs.lemmas.List.Sums.{sum_by-cons}
use Rattle.std.specs.List.{range_with_len}
use Rattle.std.specs.List.Sorted.{IsPermutation}
use Rattle.std.proofs.lemmas.List.Sorted.{IsPermutation-sym, Contains-permutation, sum_by-IsPermutation}
use Rattle.heap_model.specs.declared.id.Id.{Id}
use Rattle.heap_model.specs.declared.entry.Entry.{Entry}
use Rattle.heap_model.specs.graph.Graph.{Graph}
use Rattle.heap_model.specs.graph.Reach.{IsBefore, Reaches, IsReach, AreReached, AreReachedAmong}
use Rattle.heap_model.specs.graph.Sizes.{fragments_at, fragments_of_all, spine_words_at, spine_words_of_all, HasReach}
use Rattle.heap_model.specs.account.Space.{total, words_granted}
use Rattle.heap_model.specs.account.Effects.{effect_of}
use Rattle.heap_model.specs.account.Windows.{begins_cycle, up_to_cycle, since_cycle}
use Rattle.heap_model.specs.account.Cycles.{graph_of, IsReachOfBoth, LeavesWithinBounds, KeepsReached}
use Rattle.heap_model.specs.account.Books.{Books, Tells, TellsCycle}
use Rattle.heap_model.specs.account.Preparing.{IsWithinBy}
use Rattle.heap_model.proofs.account_lemmas.Windows.{sum_of_window_sections}
use Rattle.heap_model.proofs.graph_lemmas.Among.{ordered_same_ids_equal}
use Rattle.heap_model.proofs.graph_lemmas.InOrder.{ids_can_be_ordered}

-- a sum over one more number
sum-range-suc : (f : ℕ → ℕ) (a n : ℕ) → sum_by f (range_with_len a (suc n)) ≡ sum_by f (range_with_len a n) + f (a + n)
sum-range-suc f a zero = omega (arith, sum_by-cons f a [], ap f (add-zero a))
sum-range-suc f a (suc n) =
    omega (arith, sum_by-cons f a (range_with_len (a + 1) (suc n)), sum_by-cons f a (range_with_len (a + 1) n), sum-range-suc f (a + 1) n, ap f (along a n))
  where
    along : (a n : ℕ) → a + 1 + n ≡ a + suc n
    along a n = omega arith

pub sum-range-more : (f : ℕ → ℕ) (n : ℕ) → sum_by f (range_with_len 0 (n + 1)) ≡ sum_by f (range_with_len 0 n) + f n
sum-range-more f n = ap (λ k. sum_by f (range_with_len 0 k)) (add-one n) ∙ sum-range-suc f 0 n ∙ ap (λ k. sum_by f (range_with_len 0 n) + f k) (zero-add n)

-- there is one list of the reached ids in their order
same_reach : (g : Graph) (xs ys : List Id) → IsReach g xs → IsReach g ys → xs ≡ ys
same_reach g xs ys x y = ordered_same_ids_equal xs ys x.ordered y.ordered (λ id h. (y.reached id).1 ((x.reached id).0 h)) (λ id h. (x.reached id).1 ((y.reached id).0 h))

same_both : (g h : Graph) (xs ys : List Id) → IsReachOfBoth g h xs → IsReachOfBoth g h ys → xs ≡ ys
same_both g h xs ys x y = ordered_same_ids_equal xs ys x.ordered y.ordered (λ id c. (y.reached id).1 ((x.reached id).0 c)) (λ id c. (x.reached id).1 ((y.reached id).0 c))

-- ids that are each there once can be put in their order
put_in_order : (ids : List Id) → AllPairs (λ id later. id ≢ later) ids
    → (ordered : List Id) × IsPermutation ids ordered × AllPairs IsBefore ordered × ((id : Id) → Contains ordered id ↔ Contains ids id)
put_in_order ids once =
    let put = ids_can_be_ordered ids once in
    (put.0, put.1, put.2, λ id. (Contains-permutation put.0 ids id (IsPermutation-sym ids put.0 put.1), Contains-permutation ids put.0 id put.1))

-- so can the reached ids
reach_in_order : (g : Graph) (ids : List Id) → AreReached g ids → (ordered : List Id) × IsPermutation ids ordered × IsReach g ordered
reach_in_order g ids are =
    let put = put_in_order ids are.once in
    (put.0, put.1, record { ordered = put.2; reached = λ id. (λ held. (are.reached id).0 ((put.3 id).0 held), λ reaches. (put.3 id).1 ((are.reached id).1 reaches)) })

-- and so can those that are reached in both graphs
both_in_order : (g h : Graph) (reached both : List Id) → AreReached g reached → AreReachedAmong h reached both → (ordered : List Id) × IsPermutation both ordered × IsReachOfBoth g h ordered
both_in_order g h reached both are among =
    let put = put_in_order both (among.once are.once) in
    let reached : (id : Id) → Contains put.0 id ↔ Reaches g id × Reaches h id = λ id. (
      λ held. let kept = (among.reached id).0 ((put.3 id).0 held) in ((are.reached id).0 kept.0, kept.1),
      λ reaches. (put.3 id).1 ((among.reached id).1 ((are.reached id).1 reaches.0, reaches.1)),
    ) in
    (put.0, put.1, record { ordered = put.2; reached = reached })

-- sums over the reached ids are the same in whatever order
sum_of_reach : (f : Id → ℕ) (g : Graph) (ids ordered : List Id) → AreReached g ids → IsReach g ordered → sum_by f ordered ≡ sum_by f ids
sum_of_reach f g ids ordered are reach =
    let put = reach_in_order g ids are in
    ap (sum_by f) (same_reach g ordered put.0 reach put.2) ∙ sum_by-IsPermutation f ids put.0 put.1

sum_of_both : (f : Id → ℕ) (g h : Graph) (reached both ordered : List Id) → AreReached g reached → AreReachedAmong h reached both → IsReachOfBoth g h ordered → sum_by f ordered ≡ sum_by f both
sum_of_both f g h reached both ordered are among reach =
    let put = both_in_order g h reached both are among in
    ap (sum_by f) (same_both g h ordered put.0 reach put.2) ∙ sum_by-IsPermutation f both put.0 put.1

-- what was reached at the begin has as many fragments as the account keeps
pub has_reach_by_books : (books : Books) (history : List Entry) → Tells books history → 1 ≤ books.all.phases → HasReach (graph_of books.heap (up_to_cycle history)) books.cycle.frags
has_reach_by_books books history t some =
    let told : TellsCycle books.heap books.cycle history = t.cycle some in
    let g = graph_of books.heap (up_to_cycle history) in
    let put = reach_in_order g books.cycle.reached.items told.reached in
    record {
      ids = put.0;
      reached = put.2;
      counted = told.frags ∙ sym (sum_of_reach (fragments_at g) g books.cycle.reached.items put.0 told.reached put.2);
    }

-- so little is in use and kept as by what the account keeps
pub within_bounds_by_books : (books : Books) (history : List Entry) (kept : ℕ) → Tells books history → 1 ≤ books.all.phases
    → (IsWithinBy books kept → LeavesWithinBounds books.heap history kept) × (LeavesWithinBounds books.heap history kept → IsWithinBy books kept)
within_bounds_by_books books history kept t some = (to, from)
  where
    told : TellsCycle books.heap books.cycle history
    told = t.cycle some

    g : Graph
    g = graph_of books.heap (up_to_cycle history)

    frags : (begun : List Id) → IsReach g begun → fragments_of_all g begun ≡ books.cycle.frags
    frags begun reach = sum_of_reach (fragments_at g) g books.cycle.reached.items begun told.reached reach ∙ sym told.frags

    spines : (begun : List Id) → IsReach g begun → spine_words_of_all g begun ≡ books.cycle.words
    spines begun reach = sum_of_reach (spine_words_at g) g books.cycle.reached.items begun told.reached reach ∙ sym told.words

    taken : total (λ e. e.taken) (since_cycle history) ≡ books.all.taken - books.cycle.taken_then
    taken = omega (arith, sum_of_window_sections begins_cycle (λ e. (effect_of e).taken) history, told.taken, t.all.taken)

    words : words_granted (since_cycle history) ≡ books.all.words - books.cycle.words_then
    words = omega (arith, sum_of_window_sections begins_cycle (λ e. (effect_of e).words) history, told.granted, t.all.words)

    to : IsWithinBy books kept → LeavesWithinBounds books.heap history kept
    to within begun reach = record {
      used = omega (arith, within.0, frags begun reach, told.brought, taken, t.all.taken, t.all.given, t.all.freed);
      spine = omega (arith, within.1, spines begun reach, words, t.all.words, t.all.returned);
      at_most = omega (arith, within.2, frags begun reach, told.brought, taken);
    }

    from : LeavesWithinBounds books.heap history kept → IsWithinBy books kept
    from leaves =
        let put = reach_in_order g books.cycle.reached.items told.reached in
        let within = leaves put.0 put.2 in (
          omega (arith, within.used, frags put.0 put.2, told.brought, taken, t.all.taken, t.all.given, t.all.freed),
          omega (arith, within.spine, spines put.0 put.2, words, t.all.words, t.all.returned),
          omega (arith, within.at_most, frags put.0 put.2, told.brought, taken),
        )

-- what is reached now among what was reached when the cycle began is what is reached at both
pub keeps_reached_by_both : (books : Books) (history : List Entry) (kept : ℕ) (both : List Id) → Tells books history → 1 ≤ books.all.phases
    → AreReachedAmong (graph_of books.heap history) books.cycle.reached.items both
    → (fragments_of_all (graph_of books.heap history) both ≤ kept → KeepsReached books.heap history kept)
    × (KeepsReached books.heap history kept → fragments_of_all (graph_of books.heap history) both ≤ kept)
keeps_reached_by_both books history kept both t some among =
    let g = graph_of books.heap (up_to_cycle history) in
    let h = graph_of books.heap history in
    let told : TellsCycle books.heap books.cycle history = t.cycle some in
    let same = sum_of_both (fragments_at h) g h books.cycle.reached.items both in (
      λ few ordered reach. omega (arith, few, same ordered told.reached among reach),
      λ keeps. let put = both_in_order g h books.cycle.reached.items both told.reached among in omega (arith, keeps put.0 put.2, same put.0 told.reached among put.2),
    )
