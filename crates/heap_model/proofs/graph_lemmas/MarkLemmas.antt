-- The marks of objects: how many there are, and what setting one of them changes.
use Rattle.std.proofs.Common.{◌≡◌, ℕ, zero, suc, ◌+◌, ◌<◌, ◌≤◌, ◌⊎◌, inl, inr, Bool, true, false, not, cond, List, [], ◌∷◌, ◌++◌, length, get_or, set, slice_get, sum_by, count_by, replicate, Some, is_some, refl, sym, ap, ◌∙◌, subst, arith, length-append, length-set}
use Rattle.std.proofs.lemmas.Bool.{cases_eq, cases_lt}
use Rattle.std.proofs.lemmas.Option.{slice_get-get_or, slice_get_past, slice_get_within, get_or_from_slice_get, none-some}
use Rattle.std.proofs.Math.ListN.{get_or-map}
use Rattle.std.proofs.Math.Seq.{map-set_same}
use Rattle.std.proofs.lemmas.List.{get_or-set_same, get_or-set_other, get_or_past, length-replicate, map-set}
use Rattle.std.proofs.lemmas.List.Sums.{sum_by-set}
use Rattle.heap_model.specs.declared.id.Id.{Id}
use Rattle.heap_model.specs.declared.id.Id.TheVariants.{Board, Made}
use Rattle.heap_model.specs.graph.Objects.{graph_seat, node, absent_graph_seat}
use Rattle.heap_model.specs.graph.Graph.{Graph, GraphSeat}
use Rattle.heap_model.specs.graph.Marking.{Marking, marks_of, mark_of, with_mark, unmarked, mark_counts, HasMark, no_marks, HasMarks}

-- an element that is put in place of another is found there
slice_get-set_same : {A : Type 0} (xs : List A) (i : ℕ) (x : A) → i < length xs → slice_get (set xs i x) i ≡ Some x
slice_get-set_same xs i x within =
    let there : i < length (set xs i x) = simp length-set within in
    slice_get-get_or (set xs i x) i x there ∙ ap Some (get_or-set_same xs i x x within)

-- and all others stay
slice_get-set_other : {A : Type 0} (xs : List A) (i j : ℕ) (x : A) → (j ≡ i → ⊥) → slice_get (set xs i x) j ≡ slice_get xs j
slice_get-set_other xs i j x other =
    elim (cases_lt j (length xs)) [
      | inl within ↦ (let there : j < length (set xs i x) = simp length-set within in
          slice_get-get_or (set xs i x) j x there ∙ ap Some (get_or-set_other xs i j x x other) ∙ sym (slice_get-get_or xs j x within))
      | inr past ↦ (let there : length (set xs i x) ≤ j = simp length-set past in
          slice_get_past (set xs i x) j there ∙ sym (slice_get_past xs j past))
    ]

-- a seat of which an object has a mark is there
seat_within : (rows : List (List Bool)) (number count : ℕ) (b : Bool) → slice_get (get_or rows number []) count ≡ Some b → number < length rows
seat_within rows number count b h =
    elim (cases_lt number (length rows)) [
      | inl within ↦ within
      | inr past ↦ absurd (none-some b (subst (λ row. slice_get row count ≡ Some b) (get_or_past rows number [] past) h))
    ]

-- the marks of a seat with one more
pub marks_of-with_mark : (m : Marking) (number count : ℕ) → mark_of m (Made number count) ≡ Some false → marks_of (with_mark m (Made number count)) number ≡ set (marks_of m number) count true
marks_of-with_mark m number count h = get_or-set_same m.seats number (set (marks_of m number) count true) [] (seat_within m.seats number count false h)

-- the mark that is set is set
pub with_mark-here : (m : Marking) (id : Id) → mark_of m id ≡ Some false → HasMark (with_mark m id) id
with_mark-here m Board h = refl
with_mark-here m (Made number count) h =
    rw (marks_of-with_mark m number count h) (slice_get-set_same (marks_of m number) count true (slice_get_within (marks_of m number) count false h))

-- each other mark stays
pub with_mark-other : (m : Marking) (id other : Id) → mark_of m id ≡ Some false → (mark_of (with_mark m id) other ≡ mark_of m other) ⊎ (id ≡ other)
with_mark-other m Board Board h = inr refl
with_mark-other m Board (Made t later) h = inl refl
with_mark-other m (Made number count) Board h = inl refl
with_mark-other m (Made number count) (Made t later) h =
    elim (cases_eq t number) [
      | inr elsewhere ↦ inl (ap (λ row. slice_get row later) (get_or-set_other m.seats number t (set (marks_of m number) count true) [] elsewhere))
      | inl here ↦ elim (cases_eq later count) [
        | inl same ↦ inr (ap (λ x. Made x count) (sym here) ∙ ap (λ x. Made t x) (sym same))
        | inr another ↦ inl (subst (λ x. slice_get (marks_of (with_mark m (Made number count)) x) later ≡ slice_get (marks_of m x) later) (sym here)
            (rw (marks_of-with_mark m number count h) (slice_get-set_other (marks_of m number) count later true another)))
      ]
    ]

unmarked_row : (row : List Bool) (count : ℕ) → slice_get row count ≡ Some false → count_by not (set row count true) + 1 ≡ count_by not row
unmarked_row row count h =
    let e : count_by not (set row count true) + 1 ≡ count_by not row + 0 =
    subst (λ b. count_by not (set row count true) + cond (not b) 1 0 ≡ count_by not row + 0) (get_or_from_slice_get row count false false h)
    (sum_by-set (λ x. cond (not x) 1 0) row count true false (slice_get_within row count false h)) in
    omega arith

unmarked_rows : (rows : List (List Bool)) (number : ℕ) (row : List Bool) → number < length rows → count_by not row + 1 ≡ count_by not (get_or rows number []) → sum_by (λ marks. count_by not marks) (set rows number row) + 1 ≡ sum_by (λ marks. count_by not marks) rows
unmarked_rows rows number row within less = omega (arith, less, sum_by-set (λ marks. count_by not marks) rows number row [] within)

-- one object less is unmarked
pub unmarked-with_mark : (m : Marking) (id : Id) → mark_of m id ≡ Some false → unmarked (with_mark m id) + 1 ≡ unmarked m
unmarked-with_mark m Board h = grind arith
unmarked-with_mark m (Made number count) h =
    let rows = unmarked_rows m.seats number (set (marks_of m number) count true) (seat_within m.seats number count false h) (unmarked_row (marks_of m number) count h) in
    omega (arith, rows)

-- one more mark of a seat
pub mark_counts-added : (m : Marking) (number : ℕ) → mark_counts (record m { seats = set m.seats number (marks_of m number ++ false ∷ []) }) ≡ set (mark_counts m) number (get_or (mark_counts m) number 0 + 1)
mark_counts-added m number =
    map-set length m.seats number (marks_of m number ++ false ∷ [])
    ∙ ap (set (mark_counts m) number) (length-append (marks_of m number) (false ∷ []) ∙ ap (λ n. n + 1) (sym (get_or-map length m.seats number [])))

-- whether a mark is set or not, there are as many
pub mark_counts-with_mark : (m : Marking) (id : Id) → mark_counts (with_mark m id) ≡ mark_counts m
mark_counts-with_mark m Board = refl
mark_counts-with_mark m (Made number count) = map-set_same length m.seats number (set (marks_of m number) count true) [] (length-set (marks_of m number) count true)

-- lists of one length have elements at the same positions
there_by_length : {A B : Type 0} (xs : List A) (ys : List B) (i : ℕ) → length xs ≡ length ys → is_some (slice_get xs i) ≡ is_some (slice_get ys i)
there_by_length [] [] i same = refl
there_by_length [] (y ∷ ys) i same = absurd (omega (arith, same))
there_by_length (x ∷ xs) [] i same = absurd (omega (arith, same))
there_by_length (x ∷ xs) (y ∷ ys) zero same = refl
there_by_length (x ∷ xs) (y ∷ ys) (suc i) same = there_by_length xs ys i (omega (arith, same))

-- marks that are as many stand at the same ids
pub equal_counts_same_marks : (old new : Marking) → mark_counts new ≡ mark_counts old → (id : Id) → is_some (mark_of new id) ≡ is_some (mark_of old id)
equal_counts_same_marks old new same Board = refl
equal_counts_same_marks old new same (Made number count) =
    there_by_length (marks_of new number) (marks_of old number) count (sym (get_or-map length new.seats number []) ∙ ap (λ counts. get_or counts number 0) same ∙ get_or-map length old.seats number [])

-- where there is a mark for each object, there is one for the object of each id
pub mark_stands_where_node : (g : Graph) (m : Marking) → HasMarks g m → (id : Id) → is_some (mark_of m id) ≡ is_some (node g id)
mark_stands_where_node g m same Board = refl
mark_stands_where_node g m same (Made number count) =
    there_by_length (marks_of m number) (graph_seat g number).objects count
    (sym (get_or-map length m.seats number []) ∙ ap (λ counts. get_or counts number 0) same ∙ get_or-map (λ (seat : GraphSeat). length seat.objects) g.seats number absent_graph_seat)

-- none of the marks is set at first
pub mark_counts-no_marks : (counts : List ℕ) → mark_counts (no_marks counts) ≡ counts
mark_counts-no_marks [] = refl
mark_counts-no_marks (n ∷ counts) = cc (length-replicate n false, mark_counts-no_marks counts)

slice_get-replicate-unset : (n i : ℕ) → slice_get (replicate n false) i ≡ Some true → ⊥
slice_get-replicate-unset zero i h = none-some true h
slice_get-replicate-unset (suc n) zero h = cc
slice_get-replicate-unset (suc n) (suc i) h = slice_get-replicate-unset n i h

pub IsMarked-no_marks : (counts : List ℕ) (id : Id) → HasMark (no_marks counts) id → ⊥
IsMarked-no_marks counts Board h = cc
IsMarked-no_marks counts (Made number count) h =
    slice_get-replicate-unset (get_or counts number 0) count (subst (λ row. slice_get row count ≡ Some true) (get_or-map (λ n. replicate n false) counts number 0) h)
