-- A search has a position for each object that it may find.
use Rattle.std.proofs.Common.{◌≡◌, ℕ, ◌+◌, ◌<◌, ◌≤◌, inl, inr, Bool, true, false, not, cond, List, [], ◌∷◌, ◌++◌, length, sum, sum_by, count_by, Some, sym, ap, subst, arith, length-append}
use Rattle.std.proofs.lemmas.Bool.{cases_lt}
use Rattle.std.proofs.lemmas.List.{set_past}
use Rattle.std.proofs.lemmas.List.Sums.{sum-map, sum_by-set, sum_by_push, sum_by-le-sum_by, count_by-le-length}
use Rattle.heap_model.specs.declared.id.Id.{Id}
use Rattle.heap_model.specs.graph.Marking.{Marking, marks_of, mark_of, with_mark, unmarked, all_marks, mark_counts}
use Rattle.heap_model.specs.graph.Search.{HasPositions}
use Rattle.heap_model.proofs.graph_lemmas.FoundLemmas.{added}
use Rattle.heap_model.proofs.graph_lemmas.MarkLemmas.{unmarked-with_mark, mark_counts-with_mark}

-- a position is left for an object that is marked now
pub marking_leaves_a_position : (m : Marking) (id : Id) (waiting positions capacity : ℕ) → mark_of m id ≡ Some false → HasPositions m waiting positions capacity → waiting < capacity
marking_leaves_a_position m id waiting positions capacity fresh has = omega (arith, unmarked-with_mark m id fresh, has.left, has.room)

-- there are as many marks as the counts say
all_by_counts : (old new : Marking) → mark_counts new ≡ mark_counts old → all_marks new ≡ all_marks old
all_by_counts old new same = omega (arith, sum-map length new.seats, sum-map length old.seats, ap sum same)

-- which then takes it
pub HasPositions-marked : (m new : Marking) (id : Id) (waiting positions capacity waiting_then capacity_then : ℕ) → mark_of m id ≡ Some false → new ≡ with_mark m id → waiting_then ≡ waiting + 1
    → capacity ≤ capacity_then → HasPositions m waiting positions capacity → HasPositions new waiting_then positions capacity_then
HasPositions-marked m new id waiting positions capacity waiting_then capacity_then fresh marked more grown has =
    subst (λ marks. HasPositions marks waiting_then positions capacity_then) (sym marked) record {
      counted = omega (arith, all_by_counts m (with_mark m id) (mark_counts-with_mark m id), has.counted);
      room = omega (arith, has.room, grown);
      left = omega (arith, unmarked-with_mark m id fresh, has.left, more);
    }

-- there are no more objects to mark than there are marks
unmarked-few : (m : Marking) → unmarked m ≤ all_marks m
unmarked-few m =
    let seats = sum_by-le-sum_by (λ marks. count_by not marks) length m.seats (λ marks. count_by-le-length not marks) in
    omega (arith, seats, board m.board)
  where
    board : (b : Bool) → cond b 0 1 ≤ 1
    board true = omega arith
    board false = omega arith

-- there are positions enough where nothing was found yet
pub HasPositions-new : (m : Marking) (positions capacity : ℕ) → all_marks m ≤ positions → positions ≤ capacity → HasPositions m 0 positions capacity
HasPositions-new m positions capacity enough room = record { counted = enough; room = room; left = omega (arith, unmarked-few m, enough) }

-- for as many marks as were made
pub HasPositions-made : (m : Marking) (counts : List ℕ) (positions capacity : ℕ) → mark_counts m ≡ counts → 1 + sum counts ≤ positions → positions ≤ capacity → HasPositions m 0 positions capacity
HasPositions-made m counts positions capacity made enough = HasPositions-new m positions capacity (omega (arith, sum-map length m.seats, ap sum made, enough))

-- and for as many as before
pub HasPositions-anew : (m new : Marking) (found positions capacity capacity_then : ℕ) → mark_counts new ≡ mark_counts m → capacity ≤ capacity_then → HasPositions m found positions capacity → HasPositions new 0 positions capacity_then
HasPositions-anew m new found positions capacity capacity_then same grown has =
    HasPositions-new new positions capacity_then (omega (arith, all_by_counts m new same, has.counted)) (omega (arith, has.room, grown))

-- what is counted of a seat is at most one more with one more mark
sum-added : (f : List Bool → ℕ) (m : Marking) (number : ℕ) → f (marks_of m number ++ false ∷ []) ≤ f (marks_of m number) + 1 → sum_by f (added m number).seats ≤ sum_by f m.seats + 1
sum-added f m number one = elim (cases_lt number (length m.seats)) [
  | inl within ↦ omega (arith, sum_by-set f m.seats number (marks_of m number ++ false ∷ []) [] within, one)
  | inr past ↦ omega (arith, ap (sum_by f) (set_past m.seats number (marks_of m number ++ false ∷ []) past))
]

-- one more position serves one more mark
pub HasPositions-added : (m : Marking) (number found positions capacity capacity_then : ℕ) → positions + 1 ≤ capacity_then → HasPositions m found positions capacity → HasPositions (added m number) found (positions + 1) capacity_then
HasPositions-added m number found positions capacity capacity_then grown has =
    let row = marks_of m number in record {
      counted = omega (arith, sum-added length m number (omega (arith, length-append row (false ∷ []))), has.counted);
      room = grown;
      left = omega (arith, sum-added (λ marks. count_by not marks) m number (omega (arith, sum_by_push (λ b. cond (not b) 1 0) row false)), has.left);
    }
