-- What is kept of the seats together.
use Rattle.std.proofs.Common.{◌≡◌, ℕ, ◌+◌, ◌*◌, ◌≤◌, ◌^◌, List, get_or, sum_by, sym, ap, ◌∙◌, arith}
use Rattle.std.specs.List.{range_with_len}
use Rattle.std.proofs.lemmas.List.FromFn.{length-range_with_len}
use Rattle.std.proofs.lemmas.List.Sums.{sum_by-le}
use Rattle.std.proofs.lemmas.Nat.{mul-le}
use Rattle.heap_model.specs.declared.entry.Entry.{Entry}
use Rattle.heap_model.specs.declared.heap.Heap.{Heap}
use Rattle.heap_model.specs.account.Space.{taken_of, fragments_unborn}
use Rattle.heap_model.specs.account.Windows.{up_to_reply, since_reply}
use Rattle.heap_model.proofs.account_lemmas.CycleLemmas.{sum-range-more}
use Rattle.log_merge.proofs.merge_lemmas.Counting.{sum_of_same_parts}
use Rattle.space_plan.specs.declared.planning.seat_space.SeatSpace.{SeatSpace}
use Rattle.space_plan.specs.declared.planning.seat_spaces.SeatSpaces.{SeatSpaces}
use Rattle.space_plan.specs.plan.Cycles.{taken_since_replies}
use Rattle.space_plan.specs.plan.Seats.{SeatsFit, SeatsTell, reserve_of, since_of, space_at, unborn_at_replies}
use Rattle.space_plan.proofs.plan_lemmas.SeatSpaces.{taken_since_is_rest}

-- the sum of what is kept of so many seats
abbrev pub sum_below : (SeatSpace → ℕ) → List SeatSpace → ℕ → ℕ
sum_below of spaces count = sum_by (λ number. of (space_at spaces number)) (range_with_len 0 count)

abbrev pub reserves_below : List SeatSpace → ℕ → ℕ
reserves_below spaces count = sum_below reserve_of spaces count

abbrev pub since_below : List SeatSpace → ℕ → ℕ
since_below spaces count = sum_below since_of spaces count

-- with one seat more it is what is kept of that one more
pub sum_below-more : (of : SeatSpace → ℕ) (spaces : List SeatSpace) (count sum part : ℕ) → sum ≡ sum_below of spaces count → part ≡ of (space_at spaces count) → sum + part ≡ sum_below of spaces (count + 1)
sum_below-more of spaces count sum part is here = ap (λ n. n + part) is ∙ ap (λ n. sum_below of spaces count + n) here ∙ sym (sum-range-more (λ number. of (space_at spaces number)) count)

-- the reserves that are kept are those of the history
pub reserves_are_told : (heap : Heap) (seats : SeatSpaces) (history : List Entry) (count : ℕ) → count ≡ heap.seats → SeatsTell heap seats history
    → reserves_below seats.spaces count ≡ unborn_at_replies heap history
reserves_are_told heap seats history count is tells =
    ap (reserves_below seats.spaces) is
    ∙ sum_of_same_parts (λ number. fragments_unborn number (up_to_reply number history)) (λ number. reserve_of (space_at seats.spaces number)) 0 heap.seats
    (λ n above under. let told = tells n (omega (arith, under)) in omega (arith, told.taken_then, told.spent_then))

-- and so is what was taken since the replies
pub since_is_told : (heap : Heap) (seats : SeatSpaces) (history : List Entry) (count : ℕ) → count ≡ heap.seats → SeatsTell heap seats history
    → since_below seats.spaces count ≡ taken_since_replies heap history
since_is_told heap seats history count is tells =
    ap (since_below seats.spaces) is
    ∙ sum_of_same_parts (λ number. taken_of number (since_reply number history)) (λ number. since_of (space_at seats.spaces number)) 0 heap.seats
    (λ n above under. omega (arith, taken_since_is_rest n history (space_at seats.spaces n) (tells n (omega (arith, under)))))

-- sixteen numbers have sixteen times the most of one
sum_is_small : (f : ℕ → ℕ) (most count : ℕ) → count ≤ 16 → ((n : ℕ) → f n ≤ most) → sum_by f (range_with_len 0 count) ≤ 16 * most
sum_is_small f most count few each =
    omega (arith, sum_by-le f most (range_with_len 0 count) (λ k d within. each (get_or (range_with_len 0 count) k d)), ap (λ n. n * most) (length-range_with_len 0 count), mul-le count most 16 most few (omega arith))

pub reserves_fit : (seats : SeatSpaces) (n count : ℕ) → count ≤ 16 → SeatsFit n seats → reserves_below seats.spaces count ≤ 2 ^ 36 * n
reserves_fit seats n count few fits =
    omega (arith, sum_is_small (λ number. reserve_of (space_at seats.spaces number)) (2 ^ 32 * n) count few (λ k. omega (arith, (fits k).taken_then)))

pub since_fits : (seats : SeatSpaces) (n count : ℕ) → count ≤ 16 → SeatsFit n seats → since_below seats.spaces count ≤ 2 ^ 36 * n
since_fits seats n count few fits =
    omega (arith, sum_is_small (λ number. since_of (space_at seats.spaces number)) (2 ^ 32 * n) count few (λ k. omega (arith, (fits k).taken)))
