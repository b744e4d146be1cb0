-- Lists with the same measures, and which numbers stand at which positions.
use Rattle.std.proofs.Common.{◌≡◌, ℕ, suc, ◌+◌, ◌-◌, ◌<◌, ◌≤◌, List, [], ◌∷◌, ◌++◌, map, length, refl, sym, ap, ◌∙◌, subst, ⊎_elim, get_or, lt_of_not-le, eq-or-lt_of_le, zero-add, arith}
use Rattle.std.specs.Prelude.{IsPermutation, slice_index, sum_by}
use Rattle.std.specs.List.{range_with_len}
use Rattle.std.specs.List.Sorted.{IsNonDecreasing, IsNonDecreasingBy, IsStrictlyIncreasing}
use Rattle.std.proofs.lemmas.List.{length-map, get_or-map}
use Rattle.std.proofs.lemmas.List.FromFn.{fill_by_all, length-range_with_len, get_or-range_with_len, map-range_with_len_more}
use Rattle.std.proofs.lemmas.List.Kept.{AllPairs-from_increasing}
use Rattle.std.proofs.lemmas.List.Sorted.{IsNonDecreasingBy-drop, IsNonDecreasingBy-from_default, IsPermutation-map, sum_by-IsPermutation}
use Rattle.std.proofs.lemmas.List.Sums.{sum_by-cons, sum_by-le, sum_by_push}
use Rattle.script_crew.specs.declared.job.Job.{Job}
use Rattle.script_crew.specs.declared.job.JobRun.{JobRun}
use Rattle.script_crew.specs.declared.position_rule.Tally.{Tally}
use Rattle.script_crew.specs.Jobs.{positions_of}
use Rattle.script_crew.specs.Positions.{HasPopped}
use Rattle.script_crew.specs.Runs.{job_numbers, run_numbers}
use Rattle.script_crew.specs.Working.{numbers_at}

-- where a list doesn't fall, its first number is at most each that a list with the same measures has first
first_is_least : (x y : ℕ) (xs ys : List ℕ) → IsNonDecreasing (y ∷ ys) → ((measure : ℕ → ℕ) → sum_by measure (x ∷ xs) ≡ sum_by measure (y ∷ ys)) → y < suc x
first_is_least x y xs ys up same = lt_of_not-le (λ over.
    let below : ℕ → ℕ = λ z. suc x - z in
    let none = sum_by-le below 0 (y ∷ ys) (λ k d few. let least = up 0 k d (omega arith) few in omega (arith, over, least)) in
    omega (arith, none, same below, sum_by-cons below x xs))

pub same_list : (xs ys : List ℕ) → IsNonDecreasing xs → IsNonDecreasing ys → ((measure : ℕ → ℕ) → sum_by measure xs ≡ sum_by measure ys) → xs ≡ ys
same_list [] [] up up' same = refl
same_list [] (y ∷ ys) up up' same = let one : ℕ → ℕ = λ _. 1 in absurd (omega (arith, same one, sum_by-cons one y ys))
same_list (x ∷ xs) [] up up' same = let one : ℕ → ℕ = λ _. 1 in absurd (omega (arith, same one, sum_by-cons one x xs))
same_list (x ∷ xs) (y ∷ ys) up up' same =
    let first : x ≡ y = omega (arith, first_is_least x y xs ys up' same, first_is_least y x ys xs up (λ measure. sym (same measure))) in
    let rest = same_list xs ys (IsNonDecreasingBy-drop (λ z. z) 1 (x ∷ xs) up) (IsNonDecreasingBy-drop (λ z. z) 1 (y ∷ ys) up')
    (λ measure. omega (arith, same measure, sum_by-cons measure x xs, sum_by-cons measure y ys, ap measure first)) in
    λ i. first i ∷ rest i

-- a measure of what a function gives
pub sum_by-map : {X : Type 0} (measure : ℕ → ℕ) (f : X → ℕ) (xs : List X) → sum_by measure (map f xs) ≡ sum_by (λ x. measure (f x)) xs
sum_by-map measure f [] = refl
sum_by-map measure f (x ∷ xs) = omega (arith, sum_by-cons measure (f x) (map f xs), sum_by-cons (λ y. measure (f y)) x xs, sum_by-map measure f xs)

-- the numbers at all positions are the jobs' numbers
numbers_at_all : (jobs : List Job) → numbers_at jobs (positions_of jobs) ≡ job_numbers jobs
numbers_at_all jobs = sym (fill_by_all (λ position. slice_index (job_numbers jobs) position) (job_numbers jobs) (length jobs) 0 (length-map jobs (λ job. job.number)) (λ k few. refl))

rising_is_no_fall : (xs : List ℕ) → IsStrictlyIncreasing xs → IsNonDecreasing xs
rising_is_no_fall xs rising i j d le few =
    ⊎_elim (λ (same : i ≡ j). subst (λ k. slice_index_of i d ≤ slice_index_of k d) same (omega arith)) (λ (less : i < j). let step = AllPairs-from_increasing xs rising i j d less few in omega (arith, step)) (eq-or-lt_of_le le)
  where
    slice_index_of : ℕ → ℕ → ℕ
    slice_index_of k e = get_or xs k e

sorted_numbers : (runs : List JobRun) → IsNonDecreasingBy (λ run. run.job) runs → IsNonDecreasing (run_numbers runs)
sorted_numbers runs up =
    let none : JobRun = record { job = 0; seat = 0; from = 0; to = 0 } in
    let number : JobRun → ℕ = λ run. run.job in
    IsNonDecreasingBy-from_default (λ z. z) (run_numbers runs) 0 (λ i j le few.
    let short : j < length runs = omega (arith, few, length-map runs number) in
    omega (arith, get_or-map number runs i none 0 (omega (arith, le, short)), get_or-map number runs j none 0 short, up i j none le short))

-- runs of the jobs at positions that are all positions, each once, are in the order of the jobs once they are sorted
pub in_order : (jobs : List Job) (runs sorted : List JobRun) (positions : List ℕ) → run_numbers runs ≡ numbers_at jobs positions
    → ((measure : ℕ → ℕ) → sum_by measure positions ≡ sum_by measure (positions_of jobs)) → IsPermutation runs sorted → IsNonDecreasingBy (λ run. run.job) sorted
    → IsStrictlyIncreasing (job_numbers jobs) → run_numbers sorted ≡ job_numbers jobs
in_order jobs runs sorted positions numbers all moved up rising =
    same_list (run_numbers sorted) (job_numbers jobs) (sorted_numbers sorted up) (rising_is_no_fall (job_numbers jobs) rising) (λ measure.
    let number : JobRun → ℕ = λ run. run.job in
    let at : ℕ → ℕ = λ position. slice_index (job_numbers jobs) position in
    sum_by-IsPermutation measure (run_numbers runs) (run_numbers sorted) (IsPermutation-map number runs sorted moved)
    ∙ (ap (sum_by measure) numbers
    ∙ (sum_by-map measure at positions
    ∙ (all (λ position. measure (at position))
    ∙ (sym (sum_by-map measure at (positions_of jobs)) ∙ ap (sum_by measure) (numbers_at_all jobs))))))

-- a position that was popped is that of a job
pub position_has_job : (jobs : List Job) (old new : Tally) (position : ℕ) → old.known ≡ positions_of jobs → HasPopped old position new → position < length jobs
position_has_job jobs old new position known_is popped =
    let n = length jobs in
    let beyond : ℕ → ℕ = λ z. suc z - n in
    let none = sum_by-le beyond 0 (positions_of jobs) (λ k d few.
    let short : k < n = omega (arith, few, length-range_with_len 0 n) in
    omega (arith, get_or-range_with_len 0 n k d short, short)) in
    omega (arith, popped.within beyond, ap (λ (one : Tally). sum_by beyond one.popped) popped.one_more, ap (sum_by beyond) known_is, sum_by_push beyond old.popped position, none)

-- the number of the job at a position
pub number_at : (jobs : List Job) (position : ℕ) (job : Job) → position < length jobs → job ≡ get_or jobs position job → job.number ≡ slice_index (job_numbers jobs) position
number_at jobs position job few is = let number : Job → ℕ = λ one. one.number in ap number is ∙ sym (get_or-map number jobs position job 0 few)

-- the positions below a number, and that number, are those below the next
pub range-push : (n : ℕ) → range_with_len 0 n ++ n ∷ [] ≡ range_with_len 0 (n + 1)
range-push n = ap (λ xs. xs ++ n ∷ []) (sym (as_map n)) ∙ (sym (map-range_with_len_more (λ z. z) 0 n n (zero-add n)) ∙ as_map (n + 1))
  where
    as_map : (k : ℕ) → map (λ (z : ℕ). z) (range_with_len 0 k) ≡ range_with_len 0 k
    as_map k = sym (fill_by_all (λ z. z) (range_with_len 0 k) k 0 (length-range_with_len 0 k) (λ i few. omega (arith, get_or-range_with_len 0 k i 0 few)))
