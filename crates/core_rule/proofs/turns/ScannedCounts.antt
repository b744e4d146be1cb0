-- How many fragments are scanned, by the colours.
use Rattle.std.proofs.Common.{◌≡◌, ℕ, ◌+◌, ◌*◌, ◌<◌, ◌≤◌, List, inl, inr, refl, ap, arith}
use Rattle.std.proofs.lemmas.Bool.Decides.{eqb_tells}
use Rattle.core_rule.proofs.Terms.{Heap, sum_upto, Colour, White, Grey, Black, Marks, scanned_bit}
use Rattle.core_machine.proofs.table_lemmas.Free.{sum_of_same_functions, sum_but_one_number}
use Rattle.core_rule.specs.turns.TurnsLeft.{scanned_count}
use Rattle.core_rule.proofs.colours.BlackenColours.{with_scan, scanned_is_black, scan_keeps_other_colour}
use Rattle.core_rule.proofs.colours.ShadeColours.{with_mark, marked, mark_marks_colour, mark_keeps_other_colour}
use Rattle.core_rule.proofs.lists.SumLemmas.{sum_le, sum_ones}

-- how many of the first fragments are black
abbrev pub black_count : ℕ → (ℕ → Colour) → ℕ
black_count n colour = sum_upto n (λ f. scanned_bit (colour f))

-- these are the scanned ones
pub scanned_count_is_black_count : (heap : Heap) (words : List ℕ) (colour : ℕ → Colour) → Marks heap words colour → scanned_count heap words ≡ black_count (16 * heap.groups) colour
scanned_count_is_black_count heap words colour marks = sum_of_same_functions (16 * heap.groups) _ _ marks.scanned

at_most_one : (c : Colour) → scanned_bit c ≤ 1
at_most_one White = omega arith
at_most_one Grey = omega arith
at_most_one Black = omega arith

mark_scans_none : (c : Colour) → scanned_bit (marked c) ≡ scanned_bit c
mark_scans_none White = refl
mark_scans_none Grey = refl
mark_scans_none Black = refl

module _ (n : ℕ) (colour : ℕ → Colour) where
  black_few : black_count n colour ≤ n
  black_few =
      let fewer = sum_le n (λ f. scanned_bit (colour f)) (λ f. 1) (λ f below. at_most_one (colour f)) in
      omega (arith, fewer, sum_ones n (λ f. 1) (λ f below. refl))

  -- a shade makes none black
  pub black_count_same_after_shade : (m : ℕ) → black_count n (with_mark colour m) ≡ black_count n colour
  black_count_same_after_shade m = sum_of_same_functions n _ _ (λ x below. elim (eqb_tells x m) as (λ _. scanned_bit (with_mark colour m x) ≡ scanned_bit (colour x)) [
    | inl same ↦ rw (same.1, mark_marks_colour colour m) (mark_scans_none (colour m))
    | inr other ↦ ap scanned_bit (mark_keeps_other_colour colour m x other.1)
  ])

  -- a grey fragment that is scanned makes one more
  pub black_count_grows_by_scan : (f : ℕ) → f < n → colour f ≡ Grey → black_count n (with_scan colour f) ≡ black_count n colour + 1
  black_count_grows_by_scan f below grey =
      let change = sum_but_one_number n (λ x. scanned_bit (with_scan colour f x)) (λ x. scanned_bit (colour x)) f below (λ x less apart. ap scanned_bit (scan_keeps_other_colour colour f x apart)) in
      let was : scanned_bit (colour f) ≡ 0 = ap scanned_bit grey in
      let is : scanned_bit (with_scan colour f f) ≡ 1 = ap scanned_bit (scanned_is_black colour f) in
      omega (arith, change, was, is)

-- while a fragment is grey not all are black
pub grey_leaves_black_fewer : (n : ℕ) (colour : ℕ → Colour) (f : ℕ) → f < n → colour f ≡ Grey → black_count n colour < n
grey_leaves_black_fewer n colour f below grey = omega (arith, black_count_grows_by_scan n colour f below grey, black_few n (with_scan colour f))
