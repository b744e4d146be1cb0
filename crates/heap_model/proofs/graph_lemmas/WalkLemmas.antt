-- Marks by the numbers of walks: which are set, and that none is on the next walk.
use Rattle.std.proofs.Common.{◌≡◌, ℕ, zero, suc, ◌+◌, ◌<◌, ◌≤◌, Bool, true, false, cond, eqb, List, [], ◌∷◌, ◌++◌, length, get_or, set, map, replicate, All, refl, sym, ap, ◌∙◌, arith}
use Rattle.std.specs.List.{AllByRecursion}
use Rattle.std.proofs.Math.ListN.{get_or-map}
use Rattle.std.proofs.lemmas.Bool.{ne_eqb, eq-eqb}
use Rattle.std.proofs.lemmas.List.{length-map, map-append, map-set, set-get_or, set_past}
use Rattle.std.proofs.lemmas.List.Elements.{recursion_from_All, All-from_recursion}
use Rattle.heap_model.specs.declared.id.Id.TheVariants.{Made}
use Rattle.heap_model.specs.graph.Marking.{Marking, mark_counts, no_marks, marks_of, with_mark}
use Rattle.heap_model.specs.graph.Walks.{marks_by, marking_by, AreOfWalks}
use Rattle.heap_model.proofs.graph_lemmas.FoundLemmas.{added}

-- a mark of an earlier walk isn't set
row_unset : (walk next : ℕ) (row : List ℕ) → walk < next → AllByRecursion (λ n. n ≤ walk) row → marks_by next row ≡ replicate (length row) false
row_unset walk next [] later earlier = refl
row_unset walk next (n ∷ row) later earlier = cc (ne_eqb n next (λ h. omega (arith, h, later, earlier.0)), row_unset walk next row later earlier.1)

rows_unset : (walk next : ℕ) (rows : List (List ℕ)) → walk < next → AllByRecursion (All (λ n. n ≤ walk)) rows → map (marks_by next) rows ≡ map (λ n. replicate n false) (map length rows)
rows_unset walk next [] later earlier = refl
rows_unset walk next (row ∷ rows) later earlier =
    cc (row_unset walk next row later (recursion_from_All (λ n. n ≤ walk) row earlier.0), rows_unset walk next rows later earlier.1)

-- there are as many marks as numbers
counts_by : (walk : ℕ) (rows : List (List ℕ)) → map length (map (marks_by walk) rows) ≡ map length rows
counts_by walk [] = refl
counts_by walk (row ∷ rows) = cc (length-map row (λ n. eqb n walk), counts_by walk rows)

-- so none is set on the next walk
pub next_walk_has_no_marks : (walk mark : ℕ) (rows : List (List ℕ)) → AreOfWalks walk mark rows → marking_by (walk + 1) mark rows ≡ no_marks (mark_counts (marking_by walk mark rows))
next_walk_has_no_marks walk mark rows are = cc (
  ne_eqb mark (walk + 1) (λ h. omega (arith, h, are.board)),
  rows_unset walk (walk + 1) rows (omega arith) (recursion_from_All (All (λ n. n ≤ walk)) rows are.seats),
  counts_by walk rows,
)

-- marks of no walk
abbrev pub zeros : List ℕ → List ℕ
zeros row = replicate (length row) 0

row_earlier : (n : ℕ) → AllByRecursion (λ n. n ≤ 1) (replicate n 0)
row_earlier zero = tt
row_earlier (suc n) = (omega arith, row_earlier n)

rows_earlier : {A : Type 0} (f : A → ℕ) (xs : List A) → AllByRecursion (All (λ n. n ≤ 1)) (map (λ x. replicate (f x) 0) xs)
rows_earlier f [] = tt
rows_earlier f (x ∷ xs) = (All-from_recursion (λ n. n ≤ 1) (replicate (f x) 0) (row_earlier (f x)), rows_earlier f xs)

-- they are of no walk to come
pub AreOfWalks-zeros : {A : Type 0} (f : A → ℕ) (xs : List A) → AreOfWalks 1 0 (map (λ x. replicate (f x) 0) xs)
AreOfWalks-zeros f xs = record { begun = omega arith; board = omega arith; seats = All-from_recursion (All (λ n. n ≤ 1)) _ (rows_earlier f xs) }

row_of_zeros : (n : ℕ) → marks_by 1 (replicate n 0) ≡ replicate n false
row_of_zeros zero = refl
row_of_zeros (suc n) = ap (λ marks. false ∷ marks) (row_of_zeros n)

rows_of_zeros : {A : Type 0} (f : A → ℕ) (xs : List A) → map (marks_by 1) (map (λ x. replicate (f x) 0) xs) ≡ map (λ n. replicate n false) (map f xs)
rows_of_zeros f [] = refl
rows_of_zeros f (x ∷ xs) = cc (row_of_zeros (f x), rows_of_zeros f xs)

-- and none of them is set
pub zeros_are_no_marks : {A : Type 0} (f : A → ℕ) (xs : List A) → marking_by 1 0 (map (λ x. replicate (f x) 0) xs) ≡ no_marks (map f xs)
zeros_are_no_marks f xs = ap (λ rows. record { board = false; seats = rows }) (rows_of_zeros f xs)

pub anew_has_no_marks : (walk mark : ℕ) (rows : List (List ℕ)) → marking_by 1 0 (map zeros rows) ≡ no_marks (mark_counts (marking_by walk mark rows))
anew_has_no_marks walk mark rows = zeros_are_no_marks length rows ∙ ap no_marks (sym (counts_by walk rows))

-- one more mark of no walk is one more that isn't set
pub marking_by-added : (walk mark : ℕ) (rows : List (List ℕ)) (number : ℕ) → 1 ≤ walk → marking_by walk mark (set rows number (get_or rows number [] ++ 0 ∷ [])) ≡ added (marking_by walk mark rows) number
marking_by-added walk mark rows number begun =
    cc (
      map-set (marks_by walk) rows number (get_or rows number [] ++ 0 ∷ []),
      map-append (λ n. eqb n walk) (get_or rows number []) (0 ∷ []),
      ne_eqb 0 walk (λ h. omega (arith, h, begun)),
      get_or-map (marks_by walk) rows number [],
    )

-- where there is no such seat, nothing is more
pub added_past_seats_same : (m : Marking) (number : ℕ) → length m.seats ≤ number → added m number ≡ m
added_past_seats_same m number past = ap (λ rows. record m { seats = rows }) (set_past m.seats number (marks_of m number ++ false ∷ []) past)

-- a mark that this walk sets is set
marking_by-marked : (walk mark : ℕ) (rows : List (List ℕ)) (number count : ℕ) → marking_by walk mark (set rows number (set (get_or rows number []) count walk)) ≡ with_mark (marking_by walk mark rows) (Made number count)
marking_by-marked walk mark rows number count =
    cc (
      map-set (marks_by walk) rows number (set (get_or rows number []) count walk),
      map-set (λ n. eqb n walk) (get_or rows number []) count walk,
      eq-eqb walk walk refl,
      get_or-map (marks_by walk) rows number [],
    )

pub marking_by-mark : (walk mark : ℕ) (rows : List (List ℕ)) (number count : ℕ) (fresh : Bool) (row new : List ℕ) → row ≡ get_or rows number [] → new ≡ cond fresh (set row count walk) row
    → marking_by walk mark (set rows number new) ≡ cond fresh (with_mark (marking_by walk mark rows) (Made number count)) (marking_by walk mark rows)
marking_by-mark walk mark rows number count true row new is marks =
    ap (λ x. marking_by walk mark (set rows number x)) (marks ∙ ap (λ x. set x count walk) is) ∙ marking_by-marked walk mark rows number count
marking_by-mark walk mark rows number count false row new is marks =
    ap (λ x. marking_by walk mark (set rows number x)) (marks ∙ is) ∙ ap (marking_by walk mark) (set-get_or rows number [])
