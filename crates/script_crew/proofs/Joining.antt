-- What several seats have run is joined, and comes to whole runs.
use Rattle.std.proofs.Common.{◌≡◌, ℕ, zero, suc, ◌+◌, ◌<◌, ◌≤◌, List, [], ◌∷◌, ◌++◌, length, map, get_or, set, take, refl, sym, ap, ◌∙◌, subst, append-nil, add-zero, zero-add, arith}
use Rattle.std.specs.Prelude.{All, IfOk, IsPermutation, Ok, Option, Result, Some, slice_get, slice_index, sum_by}
use Rattle.std.specs.List.{concat, range_with_len, AllPairs}
use Rattle.std.specs.List.Sorted.{IsNonDecreasingBy, IsStrictlyIncreasing}
use Rattle.std.proofs.lemmas.List.{length-append, length-map, length-take-le, map-append, get_or-map, get_or_default, take_more}
use Rattle.std.proofs.lemmas.List.Elements.{All-weaker, All-append, All-nil, All-push, All-get_or, Contains-append_left, Contains-push}
use Rattle.std.proofs.lemmas.List.FromFn.{length-range_with_len, get_or-range_with_len}
use Rattle.std.proofs.lemmas.List.Sorted.{All-permutation}
use Rattle.std.proofs.lemmas.Option.{slice_get-get_or}
use Rattle.std.proofs.lemmas.List.Sums.{sum_by-append}
use Rattle.atomic_table.specs.Seated.{TableId}
use Rattle.heap_model.specs.declared.command.Command.{Command}
use Rattle.heap_model.specs.declared.fault.Memory.{Memory}
use Rattle.heap_model.specs.declared.heap.Heap.{Heap}
use Rattle.heap_table.specs.SeatHeld.{SeatHeld}
use Rattle.heap_runs.specs.SeatWork.{HasMade}
use Rattle.crossbeam_queue.specs.declared.array_queue.Doing.{Doing}
use Rattle.crossbeam_queue.specs.declared.array_queue.Slotted.{Slotted}
use Rattle.crossbeam_queue.specs.Passes.{view}
use Rattle.script_crew.specs.declared.gathering.Crew.{Crew}
use Rattle.script_crew.specs.declared.job.Job.{Job}
use Rattle.script_crew.specs.declared.job.JobRun.{JobRun}
use Rattle.script_crew.specs.declared.position_rule.Tally.{Tally}
use Rattle.script_crew.specs.declared.worker.Worked.{Worked}
use Rattle.script_crew.specs.Jobs.{HasUsed, calls_at, positions_of, scripts_at}
use Rattle.script_crew.specs.Portions.{HaveMadeScripts}
use Rattle.script_crew.specs.Positions.{tally}
use Rattle.script_crew.specs.Runs.{job_numbers, run_numbers, seat_numbers, EndsBefore, IsRunOn, IsRunAmong, AreWhole}
use Rattle.script_crew.specs.Working.{numbers_at, IsAtWork, HasRun, HaveRun, HasWorked, HaveEnded}
use Rattle.script_crew.proofs.Portions.{concat_push, length_of_scripts, seat_by_seat_push}
use Rattle.script_crew.proofs.Running.{ends_within, run_stays, stays_of_table}
use Rattle.script_crew.proofs.SameLists.{in_order, range-push}
use Rattle.script_crew.proofs.Turns.{AllPairs-append, apart-from_in_turn}

-- where seats are numbered by their positions, the seat at a position has its number
pub number_is_position : (seats : List SeatHeld) (n : ℕ) → seat_numbers seats ≡ range_with_len 0 n → (k : ℕ) (seat : SeatHeld) → k < length seats → get_or seats k seat ≡ seat → (seat.number ≡ k) × (k < n)
number_is_position seats n numbered k seat few here =
    let number : SeatHeld → ℕ = λ one. one.number in
    let below : k < n = omega (arith, few, ap (λ xs. length xs) numbered, length-map seats number, length-range_with_len 0 n) in (
      ap number (sym here) ∙ (sym (get_or-map number seats k seat 0 few) ∙ (ap (λ xs. get_or xs k 0) numbered ∙ (get_or-range_with_len 0 n k 0 below ∙ zero-add k))),
      below,
    )

seat_is_below : (jobs : List Job) (seats : List SeatHeld) (n : ℕ) → seat_numbers seats ≡ range_with_len 0 n → (run : JobRun) → IsRunAmong jobs seats run → run.seat < n
seat_is_below jobs seats n numbered run ran =
    let at = number_is_position seats n numbered ran.of_seats.0 ran.seat ran.of_seats.1 ran.of_seats.2 in
    omega (arith, ran.on_seat.of_job.seat_is, at.0, at.1)

among_more : (jobs : List Job) (seats : List SeatHeld) (seat : SeatHeld) (run : JobRun) → IsRunAmong jobs seats run → IsRunAmong jobs (seats ++ seat ∷ []) run
among_more jobs seats seat run ran = record {
  seat = ran.seat;
  of_seats = Contains-append_left seats (seat ∷ []) ran.seat ran.of_seats;
  on_seat = ran.on_seat;
}

-- what suffices for some positions suffices for more
uses_of_more : (jobs : List Job) (positions more : List ℕ) (seat : SeatHeld) → HasUsed jobs positions seat → HasUsed jobs (positions ++ more) seat
uses_of_more jobs positions more seat used =
    let both = sum_by-append (calls_at jobs) positions more in
    record { objects = omega (arith, both, used.objects); sets = omega (arith, both, used.sets) }

works_on : (jobs : List Job) (table : TableId) (heap : Heap) (positions more : List ℕ) (seat : SeatHeld) → IsAtWork jobs table heap positions seat → IsAtWork jobs table heap (positions ++ more) seat
works_on jobs table heap positions more seat work = record { of_table = work.of_table; present = work.present; used = uses_of_more jobs positions more seat work.used }

-- a seat that was fresh is at work behind what it has run, and what others have
worked_so : (jobs : List Job) (table : TableId) (heap : Heap) (one new : Tally) (positions : List ℕ) (before seat : SeatHeld) (runs : List JobRun) → IsAtWork jobs table heap [] before
    → (ran : HasRun jobs one new before seat runs) → IsAtWork jobs table heap (positions ++ ran.positions) seat
worked_so jobs table heap one new positions before seat runs fresh ran =
    let both = sum_by-append (calls_at jobs) positions ran.positions in
    record {
      of_table = stays_of_table table heap before seat (scripts_at jobs ran.positions) fresh.of_table ran.goes_on;
      present = ran.goes_on.present;
      used = record {
        objects = omega (arith, both, fresh.used.objects, ran.goes_on.objects, length_of_scripts jobs ran.positions);
        sets = omega (arith, both, fresh.used.sets, ran.goes_on.sets, length_of_scripts jobs ran.positions);
      };
    }

-- no worker was joined yet
pub none_joined : (jobs : List Job) (table : TableId) (heap : Heap) (one : Tally) (crew : Crew) → one.popped ≡ [] → crew.seats.items ≡ [] → crew.runs.items ≡ [] → HaveRun jobs table heap [] one one crew
none_joined jobs table heap one crew none seats_are runs_are = record {
  portions = [];
  popped = λ i. tally (sym (add-zero one.shares) i) one.pushed (none i) one.known;
  made = subst (HaveMadeScripts jobs [] []) (sym seats_are) tt;
  numbers = ap run_numbers runs_are;
  count = ap (λ xs. length xs) seats_are;
  numbered = ap seat_numbers seats_are;
  at_work = subst (All (IsAtWork jobs table heap [])) (sym seats_are) (All-nil (IsAtWork jobs table heap []));
  each = subst (All (IsRunAmong jobs crew.seats.items)) (sym runs_are) (All-nil (IsRunAmong jobs crew.seats.items));
  in_turn = subst (AllPairs EndsBefore) (sym runs_are) (λ i j d less few. absurd (omega (arith, few)));
}

-- one worker more was joined
pub one_more_joined : (jobs : List Job) (table : TableId) (heap : Heap) (olds : List SeatHeld) (first old new both : Tally) (crew later : Crew) (before seat : SeatHeld) (runs : List JobRun)
    → HaveRun jobs table heap olds first old crew → before.number ≡ length olds → IsAtWork jobs table heap [] before → HasRun jobs (tally 1 [] [] (positions_of jobs)) new before seat runs → both ≡ tally (old.shares + new.shares) (old.pushed ++ new.pushed) (old.popped ++ new.popped) old.known
    → later.seats.items ≡ crew.seats.items ++ seat ∷ [] → later.runs.items ≡ crew.runs.items ++ runs → HaveRun jobs table heap (olds ++ before ∷ []) first both later
one_more_joined jobs table heap olds first old new both crew later before seat runs had number_is fresh ran both_is seats_are runs_are = record {
  portions = had.portions ++ ran.positions ∷ [];
  popped = both_is ∙ ((λ i. tally (shares i) (pushed i) ((had.popped i).popped ++ (ran.popped i).popped) (had.popped i).known)
      ∙ ap (λ positions. tally (first.shares + length (olds ++ before ∷ [])) first.pushed positions first.known) (sym grown));
  made = subst (HaveMadeScripts jobs (olds ++ before ∷ []) (had.portions ++ ran.positions ∷ [])) (sym seats_are)
      (seat_by_seat_push (λ one portion other. HasMade 1 one other (scripts_at jobs portion)) olds had.portions crew.seats.items before ran.positions seat had.made ran.goes_on.made);
  numbers = ap run_numbers runs_are ∙ (map-append (λ run. run.job) crew.runs.items runs
      ∙ ((λ i. had.numbers i ++ ran.numbers i) ∙ (sym (map-append (λ position. slice_index (job_numbers jobs) position) (concat had.portions) ran.positions) ∙ ap (numbers_at jobs) (sym grown))));
  count = omega (arith, ap (λ xs. length xs) seats_are, length-append crew.seats.items (seat ∷ []), had.count, longer);
  numbered = ap seat_numbers seats_are ∙ (map-append (λ one. one.number) crew.seats.items (seat ∷ []) ∙ ((λ i. had.numbered i ++ number i ∷ []) ∙ (range-push (length olds) ∙ ap (range_with_len 0) (sym longer))));
  at_work = subst (λ positions. All (IsAtWork jobs table heap positions) later.seats.items) (sym grown) (subst (All (IsAtWork jobs table heap (concat had.portions ++ ran.positions))) (sym seats_are)
      (All-push (IsAtWork jobs table heap (concat had.portions ++ ran.positions)) crew.seats.items seat
      (All-weaker (IsAtWork jobs table heap (concat had.portions)) (IsAtWork jobs table heap (concat had.portions ++ ran.positions)) (works_on jobs table heap (concat had.portions) ran.positions) crew.seats.items had.at_work)
      (worked_so jobs table heap (tally 1 [] [] (positions_of jobs)) new (concat had.portions) before seat runs fresh ran)));
  each = subst (λ seats. All (IsRunAmong jobs seats) later.runs.items) (sym seats_are) (subst (All (IsRunAmong jobs (crew.seats.items ++ seat ∷ []))) (sym runs_are)
      (All-append (IsRunAmong jobs (crew.seats.items ++ seat ∷ [])) crew.runs.items runs earlier own));
  in_turn = subst (AllPairs EndsBefore) (sym runs_are) (AllPairs-append EndsBefore crew.runs.items runs had.in_turn ran.in_turn across);
}
  where
    number : seat.number ≡ length olds
    number = ran.goes_on.made.number_stays ∙ number_is

    longer : length (olds ++ before ∷ []) ≡ length olds + 1
    longer = length-append olds (before ∷ [])

    grown : concat (had.portions ++ ran.positions ∷ []) ≡ concat had.portions ++ ran.positions
    grown = concat_push had.portions ran.positions

    shares : old.shares + new.shares ≡ first.shares + length (olds ++ before ∷ [])
    shares = omega (arith, ap (λ (one : Tally). one.shares) had.popped, ap (λ (one : Tally). one.shares) ran.popped, longer)

    pushed : old.pushed ++ new.pushed ≡ first.pushed
    pushed = (λ i. (had.popped i).pushed ++ (ran.popped i).pushed) ∙ append-nil first.pushed

    earlier : All (IsRunAmong jobs (crew.seats.items ++ seat ∷ [])) crew.runs.items
    earlier = All-weaker (IsRunAmong jobs crew.seats.items) (IsRunAmong jobs (crew.seats.items ++ seat ∷ [])) (among_more jobs crew.seats.items seat) crew.runs.items had.each

    own : All (IsRunAmong jobs (crew.seats.items ++ seat ∷ [])) runs
    own = All-weaker (IsRunOn jobs seat) (IsRunAmong jobs (crew.seats.items ++ seat ∷ [])) (λ run on. record { seat = seat; of_seats = Contains-push crew.seats.items seat; on_seat = on }) runs ran.on_seat

    across : All (λ one. All (EndsBefore one) runs) crew.runs.items
    across k d few j e short same =
        let below = seat_is_below jobs crew.seats.items (length olds) had.numbered (get_or crew.runs.items k d) (All-get_or (IsRunAmong jobs crew.seats.items) crew.runs.items k d few had.each) in
        let on = All-get_or (IsRunOn jobs seat) runs j e short ran.on_seat in
        absurd (omega (arith, below, same, on.of_job.seat_is, number))

-- the first seat has gone on
first_goes_on : (jobs : List Job) (seats : List SeatHeld) (old new : SeatHeld) (commands : List Command) (run : JobRun) → 0 < length seats → old ≡ get_or seats 0 old → HasMade 1 old new commands → IsRunAmong jobs seats run → IsRunAmong jobs (set seats 0 new) run
first_goes_on jobs [] old new commands run some is on ran = absurd (omega (arith, some))
first_goes_on jobs (x ∷ xs) old new commands run some is on ran = at ran.of_seats.0 ran.seat ran.of_seats.1 ran.of_seats.2 ran.on_seat
  where
    at : (k : ℕ) (seat : SeatHeld) → k < length (x ∷ xs) → get_or (x ∷ xs) k seat ≡ seat → IsRunOn jobs seat run → IsRunAmong jobs (new ∷ xs) run
    at zero seat few here ran = record { seat = new; of_seats = (0, omega arith, refl); on_seat = run_stays jobs old new commands on run (subst (λ s. IsRunOn jobs s run) (sym (is ∙ here)) ran) }
    at (suc k) seat few here ran = record { seat = seat; of_seats = (suc k, few, here); on_seat = ran }

-- a run of the first seat ends within that seat's log
first_ends : (jobs : List Job) (seats : List SeatHeld) (n : ℕ) (old : SeatHeld) (run : JobRun) → seat_numbers seats ≡ range_with_len 0 n → 0 < length seats → old ≡ get_or seats 0 old
    → IsRunAmong jobs seats run → run.seat ≡ old.number → run.to ≤ length old.seat.mine
first_ends jobs [] n old run numbered some is ran same = absurd (omega (arith, some))
first_ends jobs (x ∷ xs) n old run numbered some is ran same = at ran.of_seats.0 ran.seat ran.of_seats.1 ran.of_seats.2 ran.on_seat
  where
    at : (k : ℕ) (seat : SeatHeld) → k < length (x ∷ xs) → get_or (x ∷ xs) k seat ≡ seat → IsRunOn jobs seat run → run.to ≤ length old.seat.mine
    at zero seat few here ran = subst (λ s. run.to ≤ length s.seat.mine) (sym (is ∙ here)) (ends_within jobs seat run ran)
    at (suc k) seat few here ran =
        let own = number_is_position (x ∷ xs) n numbered (suc k) seat few here in
        let first = number_is_position (x ∷ xs) n numbered 0 old (omega arith) (sym is) in
        absurd (omega (arith, ran.of_job.seat_is, own.0, first.0, same))

on_first : (jobs : List Job) (seats : List SeatHeld) (seat : SeatHeld) (run : JobRun) → 0 < length seats → IsRunOn jobs seat run → IsRunAmong jobs (set seats 0 seat) run
on_first jobs [] seat run some one = absurd (omega (arith, some))
on_first jobs (x ∷ xs) seat run some one = record { seat = seat; of_seats = (0, omega arith, refl); on_seat = one }

-- where the first seat is replaced by one of its number, the numbers stay
pub numbers_stay : (seats : List SeatHeld) (old new : SeatHeld) → 0 < length seats → old ≡ get_or seats 0 old → new.number ≡ old.number → seat_numbers (set seats 0 new) ≡ seat_numbers seats
numbers_stay [] old new some is same = refl
numbers_stay (x ∷ xs) old new some is same = λ i. (same ∙ ap (λ (seat : SeatHeld). seat.number) is) i ∷ seat_numbers xs

-- once the queue was empty for the pass that has every share, the positions are those of the jobs
pub all_are_run : (jobs : List Job) (table : TableId) (heap : Heap) (olds : List SeatHeld) (first old new : Tally) (crew : Crew) (before after : SeatHeld) (rest : List JobRun)
    → first.pushed ≡ positions_of jobs → (had : HaveRun jobs table heap olds first old crew) → (ran : HasRun jobs old new before after rest)
    → ((measure : ℕ → ℕ) → sum_by measure new.popped ≡ sum_by measure new.pushed) → (measure : ℕ → ℕ) → sum_by measure (concat had.portions ++ ran.positions) ≡ sum_by measure (positions_of jobs)
all_are_run jobs table heap olds first old new crew before after rest pushed had ran popped measure =
    let popped_is : new.popped ≡ concat had.portions ++ ran.positions = (λ i. (ran.popped i).popped) ∙ (λ i. (had.popped i).popped ++ ran.positions) in
    let pushed_is : new.pushed ≡ positions_of jobs = (λ i. (ran.popped i).pushed) ∙ ((λ i. (had.popped i).pushed) ∙ pushed) in
    ap (sum_by measure) (sym popped_is) ∙ (popped measure ∙ ap (sum_by measure) pushed_is)

-- and the runs are whole
pub runs_are_whole : (jobs : List Job) (table : TableId) (heap : Heap) (olds : List SeatHeld) (first old new : Tally) (crew : Crew) (before after : SeatHeld) (rest sorted : List JobRun)
    → first.pushed ≡ positions_of jobs → HaveRun jobs table heap olds first old crew → 0 < length crew.seats.items → before ≡ get_or crew.seats.items 0 before → HasRun jobs old new before after rest
    → ((measure : ℕ → ℕ) → sum_by measure new.popped ≡ sum_by measure new.pushed) → IsPermutation (crew.runs.items ++ rest) sorted → IsNonDecreasingBy (λ run. run.job) sorted
    → IsStrictlyIncreasing (job_numbers jobs) → AreWhole jobs (set crew.seats.items 0 after) sorted
runs_are_whole jobs table heap olds first old new crew before after rest sorted pushed had some is ran popped moved up rising = record {
  once = in_order jobs (crew.runs.items ++ rest) sorted (concat had.portions ++ ran.positions) numbers (all_are_run jobs table heap olds first old new crew before after rest pushed had ran popped) moved up rising;
  each = All-permutation (IsRunAmong jobs (set crew.seats.items 0 after)) (crew.runs.items ++ rest) sorted moved
      (All-append (IsRunAmong jobs (set crew.seats.items 0 after)) crew.runs.items rest earlier later);
  apart = apart-from_in_turn (crew.runs.items ++ rest) sorted (AllPairs-append EndsBefore crew.runs.items rest had.in_turn ran.in_turn across) moved;
}
  where
    numbers : run_numbers (crew.runs.items ++ rest) ≡ numbers_at jobs (concat had.portions ++ ran.positions)
    numbers = map-append (λ run. run.job) crew.runs.items rest ∙ ((λ i. had.numbers i ++ ran.numbers i) ∙ sym (map-append (λ position. slice_index (job_numbers jobs) position) (concat had.portions) ran.positions))

    earlier : All (IsRunAmong jobs (set crew.seats.items 0 after)) crew.runs.items
    earlier = All-weaker (IsRunAmong jobs crew.seats.items) (IsRunAmong jobs (set crew.seats.items 0 after)) (λ run one. first_goes_on jobs crew.seats.items before after (scripts_at jobs ran.positions) run some is ran.goes_on.made one) crew.runs.items had.each

    later : All (IsRunAmong jobs (set crew.seats.items 0 after)) rest
    later = All-weaker (IsRunOn jobs after) (IsRunAmong jobs (set crew.seats.items 0 after)) (λ run one. on_first jobs crew.seats.items after run some one) rest ran.on_seat

    across : All (λ one. All (EndsBefore one) rest) crew.runs.items
    across k d few j e short same =
        let on = All-get_or (IsRunOn jobs after) rest j e short ran.on_seat in
        let among = All-get_or (IsRunAmong jobs crew.seats.items) crew.runs.items k d few had.each in
        let begins = ran.begin j e short in
        let ends = first_ends jobs crew.seats.items (length olds) before (get_or crew.runs.items k d) had.numbered some is among (same ∙ (on.of_job.seat_is ∙ ran.goes_on.made.number_stays)) in
        omega (arith, ends, begins)

-- what stands behind so many others
slice_get_middle : {X : Type 0} (xs : List X) (x : X) (ys : List X) → slice_get (xs ++ x ∷ ys) (length xs) ≡ Some x
slice_get_middle [] x ys = refl
slice_get_middle (z ∷ zs) x ys = slice_get_middle zs x ys

module _ {Q A : Type 0} (queue : Slotted (Option ℕ) (Doing ℕ Tally) Q A) (jobs : List Job) (table : TableId) (heap : Heap) (olds : List SeatHeld) (ends before behind : List (Result Worked Memory))
    (end : Result Worked Memory) (worked : Worked) (have : HaveEnded queue jobs table heap olds ends) (all : before ++ end ∷ behind ≡ ends) (is : end ≡ Ok worked) where
  -- the seat of the worker that comes next
  abbrev pub next_seat : SeatHeld
  next_seat = get_or olds (length before) worked.worker.seat

  next_is_there : length before < length olds
  next_is_there = omega (arith, have.each_once, ap (λ xs. length xs) all, length-append before (end ∷ behind))

  -- it has worked on its seat
  pub next_has_worked : HasWorked queue jobs table heap next_seat worked
  next_has_worked =
      subst (λ (one : Result Worked Memory). IfOk one (HasWorked queue jobs table heap next_seat)) is
      (have.worked (length before) next_seat end (slice_get-get_or olds (length before) worked.worker.seat next_is_there) (ap (λ xs. slice_get xs (length before)) (sym all) ∙ slice_get_middle before end behind))

  -- once it is joined too, the seats of one worker more are
  pub next_joined : (first old both : Tally) (crew later : Crew) → HaveRun jobs table heap (take (length before) olds) first old crew
      → both ≡ tally (old.shares + (view worked.worker.pass).shares) (old.pushed ++ (view worked.worker.pass).pushed) (old.popped ++ (view worked.worker.pass).popped) old.known
      → later.seats.items ≡ crew.seats.items ++ worked.worker.seat ∷ [] → later.runs.items ≡ crew.runs.items ++ worked.runs.items → HaveRun jobs table heap (take (length (before ++ end ∷ [])) olds) first both later
  next_joined first old both crew later had both_is seats_are runs_are =
      let k = length before in
      let own = number_is_position olds (length olds) have.numbered k next_seat next_is_there (get_or_default olds k next_seat worked.worker.seat next_is_there) in
      let so_many : length (take k olds) ≡ k = length-take-le k olds (omega (arith, next_is_there)) in
      subst (λ seats. HaveRun jobs table heap seats first both later) (sym (ap (λ n. take n olds) (length-append before (end ∷ [])) ∙ take_more olds k worked.worker.seat next_is_there))
      (one_more_joined jobs table heap (take k olds) first old (view worked.worker.pass) both crew later next_seat worked.worker.seat worked.runs.items had (own.0 ∙ sym so_many) next_has_worked.at_work next_has_worked.ran
      both_is seats_are runs_are)
