-- The jobs that lines tell are not more, and have not more commands, than the lines allow.
use Rattle.std.proofs.Common.{◌≡◌, ◌==◌, ℕ, zero, suc, ◌+◌, ◌≤◌, List, [], ◌∷◌, ◌++◌, Bool, true, false, cond, filter, length, map, nat_lt, All, refl, sym, ap, subst, arith}
use Rattle.std.specs.List.{count_by, range_with_len, sum_by}
use Rattle.std.specs.List.Sorted.{IsStrictlyIncreasing}
use Rattle.std.proofs.lemmas.Bool.{eqb-false, eqb-true, le-ltb, lt-ltb, ltb-false, ltb-true}
use Rattle.std.proofs.lemmas.List.Elements.{All-cons, All-filter, All-map, All-nil}
use Rattle.std.proofs.lemmas.List.FromFn.{filter_of_map_range_with_len_more, length-map-range_with_len, get_or-range_with_len, length-range_with_len}
use Rattle.std.proofs.lemmas.List.Kept.{IsStrictlyIncreasing-filter}
use Rattle.std.proofs.lemmas.List.Sums.{count_by-le-length, length-filter, sum_by-append, sum_by-cons}
use Rattle.heap_model.specs.declared.command.Command.{Command}
use Rattle.script_crew.specs.declared.job_line.JobLine.{JobLine}
use Rattle.script_crew.specs.Parting.{commands_of, has_commands, jobs_below}

-- there are not more than numbers
pub few_jobs : (limit : ℕ) (lines : List JobLine) → length (jobs_below limit lines) ≤ limit
unfolding jobs_below
few_jobs limit lines =
    let all : List (ℕ × List Command) = map (λ job. (job, commands_of job lines)) (range_with_len 0 limit) in
    omega (arith, length-filter has_commands all, count_by-le-length has_commands all, length-map-range_with_len {X = ℕ × List Command} (λ job. (job, commands_of job lines)) 0 limit)

-- the lines of numbers below the next are those below this one, and its own
counted_lines : (limit : ℕ) (lines : List JobLine) → count_by (λ line. nat_lt line.job (limit + 1)) lines ≡ count_by (λ line. nat_lt line.job limit) lines + length (commands_of limit lines)
counted_lines limit [] = refl
counted_lines limit (line ∷ lines) =
    let one_below : (n : ℕ) → count_by (λ one. nat_lt one.job n) (line ∷ lines) ≡ cond (nat_lt line.job n) 1 0 + count_by (λ one. nat_lt one.job n) lines =
    λ n. sum_by-cons (λ (one : JobLine). cond (nat_lt one.job n) 1 0) line lines in
    omega (arith, one_below (limit + 1), one_below limit, by (counted_lines limit lines) (line.job == limit) refl (nat_lt line.job limit) refl) where
      by : count_by (λ one. nat_lt one.job (limit + 1)) lines ≡ count_by (λ one. nat_lt one.job limit) lines + length (commands_of limit lines) → (own : Bool) → (line.job == limit) ≡ own → (below : Bool) → nat_lt line.job limit ≡ below →
          cond (nat_lt line.job (limit + 1)) 1 0 + count_by (λ one. nat_lt one.job (limit + 1)) lines
          ≡ (cond (nat_lt line.job limit) 1 0 + count_by (λ one. nat_lt one.job limit) lines) + length (map (λ (one : JobLine). one.command) (cond (line.job == limit) (line ∷ filter (λ one. one.job == limit) lines) (filter (λ one. one.job == limit) lines)))
      by before true is below low =
          let there : line.job ≡ limit = eqb-true line.job limit is in
          let next : nat_lt line.job (limit + 1) ≡ true = lt-ltb line.job (limit + 1) (omega (arith, there)) in
          let not_below : nat_lt line.job limit ≡ false = le-ltb line.job limit (omega (arith, there)) in
          rw (is, next, not_below) (omega (arith, before))
      by before false is true low =
          let next : nat_lt line.job (limit + 1) ≡ true = lt-ltb line.job (limit + 1) (omega (arith, ltb-true line.job limit low)) in
          rw (is, next, low) (omega (arith, before))
      by before false is false low =
          let other : line.job ≡ limit → ⊥ = eqb-false line.job limit is in
          let next : nat_lt line.job (limit + 1) ≡ false = le-ltb line.job (limit + 1) (omega (arith, ltb-false line.job limit low, other)) in
          rw (is, next, low) (omega (arith, before))

-- the commands of one job more are at most its lines
one_more : (own : Bool) (job : ℕ × List Command) → sum_by (λ told. length told.1) (cond own (job ∷ []) []) ≤ length job.1
one_more true job = omega arith
one_more false job = omega arith

commands_next : (limit : ℕ) (lines : List JobLine) → sum_by (λ told. length told.1) (jobs_below limit lines) ≤ count_by (λ line. nat_lt line.job limit) lines →
    sum_by (λ told. length told.1) (jobs_below (limit + 1) lines) ≤ count_by (λ line. nat_lt line.job (limit + 1)) lines
unfolding jobs_below
commands_next limit lines before =
    let job : ℕ × List Command = (limit, commands_of limit lines) in
    let more : jobs_below (limit + 1) lines ≡ jobs_below limit lines ++ cond (has_commands job) (job ∷ []) [] =
    filter_of_map_range_with_len_more has_commands (λ job. (job, commands_of job lines)) 0 limit limit (omega arith) in
    omega (
      arith,
      before,
      counted_lines limit lines,
      one_more (has_commands job) job,
      ap (λ told. sum_by (λ (one : ℕ × List Command). length one.1) told) more,
      sum_by-append (λ (one : ℕ × List Command). length one.1) (jobs_below limit lines) (cond (has_commands job) (job ∷ []) []),
    )

none_below : (lines : List JobLine) → sum_by (λ told. length told.1) (jobs_below 0 lines) ≤ count_by (λ line. nat_lt line.job 0) lines
unfolding jobs_below
none_below lines = omega arith

-- so all of them have not more commands than there are lines of these numbers
commands_below : (limit : ℕ) (lines : List JobLine) → sum_by (λ told. length told.1) (jobs_below limit lines) ≤ count_by (λ line. nat_lt line.job limit) lines
commands_below zero lines = none_below lines
commands_below (suc limit) lines = subst (λ n. sum_by (λ told. length told.1) (jobs_below n lines) ≤ count_by (λ line. nat_lt line.job n) lines) next (commands_next limit lines (commands_below limit lines)) where
  next : limit + 1 ≡ suc limit
  next = omega arith

pub few_commands : (limit : ℕ) (lines : List JobLine) → sum_by (λ told. length told.1) (jobs_below limit lines) ≤ length lines
few_commands limit lines = omega (arith, commands_below limit lines, count_by-le-length (λ line. nat_lt line.job limit) lines)

-- what each line's command is, each command of a job is
pub each_command : (P : Command → Type 0) (limit : ℕ) (lines : List JobLine) → All (λ line. P line.command) lines → All (λ told. All P told.1) (jobs_below limit lines)
unfolding jobs_below
each_command P limit lines all =
    All-filter has_commands (λ told. All P told.1) (map (λ job. (job, commands_of job lines)) (range_with_len 0 limit))
    (All-map (λ told. All P told.1) (λ job. (job, commands_of job lines)) (range_with_len 0 limit) (each (range_with_len 0 limit))) where
      each : (jobs : List ℕ) → All (λ job. All P (commands_of job lines)) jobs
      each [] = All-nil (λ job. All P (commands_of job lines))
      each (job ∷ jobs) = All-cons (λ job. All P (commands_of job lines)) job jobs
          (All-map P (λ line. line.command) (filter (λ line. line.job == job) lines) (All-filter (λ line. line.job == job) (λ line. P line.command) lines all)) (each jobs)

-- numbers that go on one by one rise
range_rises : (limit : ℕ) → IsStrictlyIncreasing (range_with_len 0 limit)
range_rises limit = λ k low.
    let n = length-range_with_len 0 limit in
    omega (arith, get_or-range_with_len 0 limit k 0 (omega (arith, low, n)), get_or-range_with_len 0 limit (k + 1) 0 (omega (arith, low, n)))

-- the first parts of the pairs that a test lets through
firsts_filtered : (f : ℕ → List Command) (jobs : List ℕ) → map (λ (told : ℕ × List Command). told.0) (filter has_commands (map (λ job. (job, f job)) jobs)) ≡ filter (λ job. has_commands (job, f job)) jobs
firsts_filtered f [] = refl
firsts_filtered f (job ∷ jobs) = by (has_commands (job, f job)) (firsts_filtered f jobs) where
  by : (b : Bool) → map (λ (told : ℕ × List Command). told.0) (filter has_commands (map (λ job. (job, f job)) jobs)) ≡ filter (λ job. has_commands (job, f job)) jobs →
      map (λ (told : ℕ × List Command). told.0) (cond b ((job, f job) ∷ filter has_commands (map (λ job. (job, f job)) jobs)) (filter has_commands (map (λ job. (job, f job)) jobs)))
      ≡ cond b (job ∷ filter (λ job. has_commands (job, f job)) jobs) (filter (λ job. has_commands (job, f job)) jobs)
  by true same = ap (λ numbers. job ∷ numbers) same
  by false same = same

-- and so do the numbers of the jobs
pub numbers_rise : (limit : ℕ) (lines : List JobLine) → IsStrictlyIncreasing (map (λ (told : ℕ × List Command). told.0) (jobs_below limit lines))
unfolding jobs_below
numbers_rise limit lines =
    subst IsStrictlyIncreasing (sym (firsts_filtered (λ job. commands_of job lines) (range_with_len 0 limit)))
    (IsStrictlyIncreasing-filter (λ job. has_commands (job, commands_of job lines)) (range_with_len 0 limit) (range_rises limit))
