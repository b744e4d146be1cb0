-- Two object-legal histories with the same logs.
use Rattle.std.proofs.Common.{◌≡◌, ℕ, zero, suc, ◌+◌, ◌<◌, ◌≤◌, ◌==◌, ◌⊎◌, true, false, List, [], ◌∷◌, ◌++◌, length, map, filter, Some, inl, inr, refl, sym, ap, subst, ◌∙◌, arith}
use Rattle.std.specs.Prelude.{slice_index_or, IfSome}
use Rattle.std.specs.List.{AllByRecursion, range_with_len, sum_by}
use Rattle.std.proofs.lemmas.Bool.{cases_lt, eq-eqb, ne_eqb}
use Rattle.std.proofs.lemmas.List.{length-replicate}
use Rattle.std.proofs.lemmas.List.FromFn.{get_or-map-range_with_len}
use Rattle.std.proofs.lemmas.List.Sums.{sum_by-cons}
use Rattle.heap_model.specs.Logs.{logs_of, KeepsLogs}
use Rattle.heap_model.specs.declared.account.effect.Effect.{Effect}
use Rattle.heap_model.specs.declared.entry.Entry.{Entry}
use Rattle.heap_model.specs.declared.entry.Entry.TheVariants as entries
use Rattle.heap_model.specs.declared.heap.Heap.{Heap}
use Rattle.heap_model.specs.account.Effects.{effect_of, is_of}
use Rattle.heap_model.specs.account.Noting.{seat_of, is_collectors, IsSeatBelow}
use Rattle.heap_model.specs.account.Space.{total}
use Rattle.heap_model.specs.graph.Graph.{Graph, opening, opening_graph_seat}
use Rattle.heap_model.specs.graph.Growth.{after_entry}
use Rattle.heap_model.specs.graph.Legal.{Accepts, AcceptsAll, IsObjectLegal}
use Rattle.log_merge.proofs.merge_lemmas.Counting.{sum_grows_at_one, sum_of_same_parts}
use Rattle.log_merge.proofs.merge_lemmas.Finding.{present_seat_is_there}
use Rattle.log_merge.proofs.merge_lemmas.Parts.{filter-yes, filter-no}
use Rattle.log_merge.proofs.merge_lemmas.Changes.{seat_count_after_entry}

-- an accepted entry that has a seat has one of the graph's
seat_there : (g : Graph) (e : Entry) → Accepts g e → IsSeatBelow (length g.seats) e
seat_there g (entries.Said number command reply) accepts = present_seat_is_there g number accepts.0
seat_there g (entries.Takes number count) accepts = present_seat_is_there g number accepts
seat_there g (entries.GivesBack number count) accepts = present_seat_is_there g number accepts
seat_there g (entries.Answers number phase) accepts = present_seat_is_there g number accepts
seat_there g _ accepts = tt

seats_there : (g : Graph) (es : List Entry) → AcceptsAll g es → AllByRecursion (IsSeatBelow (length g.seats)) es
seats_there g [] all = tt
seats_there g (e ∷ es) all = (seat_there g e all.0, subst (λ n. AllByRecursion (IsSeatBelow n) es) (seat_count_after_entry g e) (seats_there (after_entry g e) es all.1))

-- so each entry of a legal history has one of the heap's
pub seats_below : (heap : Heap) (es : List Entry) → IsObjectLegal heap es → AllByRecursion (IsSeatBelow heap.seats) es
seats_below heap es legal = subst (λ n. AllByRecursion (IsSeatBelow n) es) (length-replicate heap.seats opening_graph_seat) (seats_there (opening heap) es legal)

-- the entry is the collector's and no seat's, or one seat's
abbrev IsOneOf : Entry → Type 0
IsOneOf e = ((is_collectors e ≡ true) × ((n : ℕ) → is_of n e ≡ false)) ⊎ ((m : ℕ) × (seat_of e ≡ Some m) × (is_collectors e ≡ false) × ((n : ℕ) → is_of n e ≡ (m == n)))

one_of : (e : Entry) → IsOneOf e
one_of (entries.Said number command reply) = inr (number, refl, refl, λ n. refl)
one_of (entries.Takes number count) = inr (number, refl, refl, λ n. refl)
one_of (entries.GivesBack number count) = inr (number, refl, refl, λ n. refl)
one_of (entries.Answers number phase) = inr (number, refl, refl, λ n. refl)
one_of _ = inl (refl, λ n. refl)

-- of a seat that the heap doesn't have there is no entry
none_of : (seats : ℕ) (es : List Entry) (n : ℕ) → seats ≤ n → AllByRecursion (IsSeatBelow seats) es → filter (is_of n) es ≡ []
none_of seats [] n past below = refl
none_of seats (e ∷ es) n past below = filter-no (is_of n) e es (other (one_of e) below.0) ∙ none_of seats es n past below.1
  where
    other : IsOneOf e → IsSeatBelow seats e → is_of n e ≡ false
    other (inl collectors) within = collectors.1 n
    other (inr seats_own) within =
        let m = seats_own.0 in
        let less : m < seats = subst (λ o. IfSome o (λ number. number < seats)) seats_own.1 within in
        seats_own.3 n ∙ ne_eqb m n (λ same. absurd (omega (arith, same, less, past)))

module _ (part : Effect → ℕ) where
  abbrev of_seat : List Entry → ℕ → ℕ
  of_seat es n = total part (filter (is_of n) es)

  nothing : (seats from : ℕ) → sum_by (of_seat []) (range_with_len from seats) ≡ 0
  nothing zero from = refl
  nothing (suc seats) from = omega (arith, sum_by-cons (of_seat []) from (range_with_len (from + 1) seats), nothing seats (from + 1))

  -- what the entries come to is what the logs come to
  by_logs : (seats : ℕ) (es : List Entry) → AllByRecursion (IsSeatBelow seats) es → total part es ≡ total part (filter is_collectors es) + sum_by (of_seat es) (range_with_len 0 seats)
  by_logs seats [] below = omega (arith, nothing seats 0)
  by_logs seats (e ∷ es) below = by (one_of e) below.0 (by_logs seats es below.1)
    where
      value : ℕ
      value = part (effect_of e)

      whole : total part (e ∷ es) ≡ value + total part es
      whole = sum_by-cons (λ x. part (effect_of x)) e es

      by : IsOneOf e → IsSeatBelow seats e → total part es ≡ total part (filter is_collectors es) + sum_by (of_seat es) (range_with_len 0 seats)
          → total part (e ∷ es) ≡ total part (filter is_collectors (e ∷ es)) + sum_by (of_seat (e ∷ es)) (range_with_len 0 seats)
      by (inl collectors) within rest =
          let mine = ap (total part) (filter-yes is_collectors e es collectors.0) ∙ sum_by-cons (λ x. part (effect_of x)) e (filter is_collectors es) in
          let same = sum_of_same_parts (of_seat es) (of_seat (e ∷ es)) 0 seats (λ n above under. ap (total part) (filter-no (is_of n) e es (collectors.1 n))) in
          omega (arith, whole, rest, mine, same)
      by (inr own) within rest =
          let m = own.0 in
          let less : m < seats = subst (λ o. IfSome o (λ number. number < seats)) own.1 within in
          let none = ap (total part) (filter-no is_collectors e es own.2) in
          let here : of_seat (e ∷ es) m ≡ of_seat es m + value
          = ap (total part) (filter-yes (is_of m) e es (own.3 m ∙ eq-eqb m m refl)) ∙ sum_by-cons (λ x. part (effect_of x)) e (filter (is_of m) es) ∙ omega arith in
          let more = sum_grows_at_one (of_seat es) (of_seat (e ∷ es)) 0 seats m value (λ n under apart. ap (total part) (filter-no (is_of n) e es (own.3 n ∙ ne_eqb m n (λ same. apart (sym same))))) here (omega arith) (omega (arith, less)) in
          omega (arith, whole, rest, none, more)

-- lists that are the same with one element more are the same, and so is the element
pub snoc_is_injective : {X : Type 0} → (xs ys : List X) (x y : X) → xs ++ x ∷ [] ≡ ys ++ y ∷ [] → (xs ≡ ys) × (x ≡ y)
snoc_is_injective [] [] x y same = (refl, cc same)
snoc_is_injective [] (b ∷ []) x y same = absurd (cc same)
snoc_is_injective [] (b ∷ (c ∷ ys)) x y same = absurd (cc same)
snoc_is_injective (a ∷ []) [] x y same = absurd (cc same)
snoc_is_injective (a ∷ (c ∷ xs)) [] x y same = absurd (cc same)
snoc_is_injective (a ∷ xs) (b ∷ ys) x y same =
    let rest = snoc_is_injective xs ys x y (cc same) in
    let first : a ≡ b = cc same in
    (ap (λ z. z ∷ xs) first ∙ ap (λ l. b ∷ l) rest.0, rest.1)

module _ (heap : Heap) (one other : List Entry) (legal : IsObjectLegal heap one) (legal_too : IsObjectLegal heap other) (same : logs_of heap one ≡ logs_of heap other) where
  abbrev logs : List Entry → List (List Entry)
  logs es = map (λ n. filter (is_of n) es) (range_with_len 0 heap.seats)

  apart : (logs one ≡ logs other) × (filter is_collectors one ≡ filter is_collectors other)
  apart = snoc_is_injective (logs one) (logs other) (filter is_collectors one) (filter is_collectors other) same

  seat_same : (n : ℕ) → filter (is_of n) one ≡ filter (is_of n) other
  seat_same n = elim (cases_lt n heap.seats) [
    | inl within ↦ sym (get_or-map-range_with_len (λ k. filter (is_of k) one) 0 heap.seats n n [] within (omega arith)) ∙ ap (λ l. slice_index_or l n []) apart.0
        ∙ get_or-map-range_with_len (λ k. filter (is_of k) other) 0 heap.seats n n [] within (omega arith)
    | inr past ↦ none_of heap.seats one n past (seats_below heap one legal) ∙ sym (none_of heap.seats other n past (seats_below heap other legal_too))
  ]

  -- they keep each other's logs
  pub keep_each_others_logs : KeepsLogs one other
  keep_each_others_logs = record { seats = λ n. sym (seat_same n); collector = sym apart.1 }

  -- and come to the same
  pub same_totals : (part : Effect → ℕ) → total part one ≡ total part other
  same_totals part =
      by_logs part heap.seats one (seats_below heap one legal)
      ∙ omega (arith, ap (total part) apart.1, sum_of_same_parts (of_seat part other) (of_seat part one) 0 heap.seats (λ n above under. ap (total part) (seat_same n)))
      ∙ sym (by_logs part heap.seats other (seats_below heap other legal_too))
