-- A crew begins with fresh seats, and ends with whole runs.
use Rattle.std.proofs.Common.{◌≡◌, ℕ, ◌+◌, ◌<◌, List, [], ◌∷◌, ◌++◌, length, map, get_or, set, sym, ap, subst, ◌∙◌, arith}
use Rattle.std.specs.Prelude.{All, IsPermutation, Option, sum_by}
use Rattle.std.specs.List.{concat, range_with_len}
use Rattle.std.specs.List.Sorted.{IsNonDecreasingBy, IsStrictlyIncreasing}
use Rattle.std.proofs.lemmas.List.{length-map, get_or-map}
use Rattle.std.proofs.lemmas.List.FromFn.{length-range_with_len}
use Rattle.std.proofs.lemmas.List.Sums.{sum_by-append}
use Rattle.std.proofs.lemmas.List.Elements.{All-cons, All-tail, All-weaker, All-get_or}
use Rattle.atomic_table.specs.Seated.{TableId}
use Rattle.heap_model.specs.Limits.{stamp_limit}
use Rattle.heap_model.specs.declared.heap.Heap.{Heap}
use Rattle.crossbeam_queue.specs.declared.array_queue.Doing.{Doing}
use Rattle.crossbeam_queue.specs.declared.array_queue.Slotted.{Slotted}
use Rattle.heap_table.specs.SeatHeld.{SeatHeld}
use Rattle.heap_runs.specs.CollectCall.{IsPresent}
use Rattle.heap_runs.specs.SeatWork.{HasMade, IsOfTable}
use Rattle.script_crew.specs.declared.gathering.Crew.{Crew}
use Rattle.script_crew.specs.declared.job.Job.{Job}
use Rattle.script_crew.specs.declared.job.JobRun.{JobRun}
use Rattle.script_crew.specs.declared.position_rule.Tally.{Tally}
use Rattle.script_crew.specs.declared.worker.Worker.{Worker}
use Rattle.script_crew.specs.Crews.{IsFreshSeat}
use Rattle.script_crew.specs.Jobs.{calls_at, positions_of, scripts_at, AreJobs, HasFewSets}
use Rattle.script_crew.specs.Portions.{HaveMadeScripts}
use Rattle.script_crew.specs.Runs.{job_numbers, seat_numbers, AreWhole}
use Rattle.script_crew.specs.Working.{HasFreshPass, HasRun, HasRunAll, HaveRun, IsAtWork, IsFresh}
use Rattle.script_crew.proofs.Calls.{few_calls}
use Rattle.script_crew.proofs.Joining.{all_are_run, numbers_stay, runs_are_whole}
use Rattle.script_crew.proofs.Portions.{as_many_portions, first_made_more, first_with, length_of_scripts, sum_first_with}
use Rattle.script_crew.proofs.Running.{stays_of_table}
use Rattle.script_crew.proofs.SameMeasures.{permutation_from_measures}

-- a fresh seat has used nothing
fresh_at_work : (jobs : List Job) (table : TableId) (heap : Heap) (seat : SeatHeld) → IsFreshSeat table heap seat → IsAtWork jobs table heap [] seat
fresh_at_work jobs table heap seat fresh = record {
  of_table = fresh.of_table;
  present = fresh.present;
  used = record { objects = omega (arith, fresh.no_objects); sets = omega (arith, fresh.no_sets) };
}

-- the seat of a worker
abbrev seat_of : Worker → SeatHeld
seat_of worker = worker.seat

-- where each seat has its worker there are as many
pub as_many : (workers : List Worker) (seats : List SeatHeld) → map (λ worker. worker.seat) workers ≡ seats → length workers ≡ length seats
as_many workers seats are = sym (length-map workers seat_of) ∙ ap (λ xs. length xs) are

-- there are as many seats as are numbered
pub seats_of_all : (seats : List SeatHeld) (n : ℕ) → seat_numbers seats ≡ range_with_len 0 n → length seats ≡ n
seats_of_all seats n numbered = sym (length-map seats (λ (seat : SeatHeld). seat.number)) ∙ (ap (λ xs. length xs) numbered ∙ length-range_with_len 0 n)

-- each worker is as fresh as its seat
pub workers_are_fresh : {Q A : Type 0} (queue : Slotted (Option ℕ) (Doing ℕ Tally) Q A) (jobs : List Job) (table : TableId) (heap : Heap) (workers : List Worker) (seats : List SeatHeld)
    → All (HasFreshPass queue (positions_of jobs)) workers → map (λ worker. worker.seat) workers ≡ seats → All (IsFreshSeat table heap) seats → All (IsFresh queue jobs table heap) workers
workers_are_fresh queue jobs table heap workers seats passes are fresh k d few =
    let worker = get_or workers k d in
    let at : get_or seats k (seat_of d) ≡ worker.seat = ap (λ xs. get_or xs k (seat_of d)) (sym are) ∙ get_or-map seat_of workers k d (seat_of d) few in
    let own = subst (IsFreshSeat table heap) at (All-get_or (IsFreshSeat table heap) seats k (seat_of d) (omega (arith, few, as_many workers seats are)) fresh) in
    record { pass = All-get_or (HasFreshPass queue (positions_of jobs)) workers k d few passes; at_work = fresh_at_work jobs table heap worker.seat own }

numbers_of : (workers : List Worker) → map (λ worker. worker.seat.number) workers ≡ seat_numbers (map (λ worker. worker.seat) workers)
numbers_of [] = λ _. []
numbers_of (worker ∷ workers) = ap (λ ns. worker.seat.number ∷ ns) (numbers_of workers)

-- the seats of workers that are numbered by their places stand in the order of their numbers
pub seats_are_numbered : (workers : List Worker) (n : ℕ) → n ≡ length workers → map (λ worker. worker.seat.number) workers ≡ range_with_len 0 n
    → seat_numbers (map (λ worker. worker.seat) workers) ≡ range_with_len 0 (length (map (λ worker. worker.seat) workers))
seats_are_numbered workers n many numbered = sym (numbers_of workers) ∙ (numbered ∙ ap (range_with_len 0) (many ∙ sym (length-map workers seat_of)))

-- and has its number
pub workers_are_numbered : (workers : List Worker) (seats : List SeatHeld) (n m : ℕ) → map (λ worker. worker.seat) workers ≡ seats → seat_numbers seats ≡ range_with_len 0 n → n ≡ m
    → map (λ worker. worker.seat.number) workers ≡ range_with_len 0 m
workers_are_numbered workers seats n m are numbered same = numbers_of workers ∙ (ap seat_numbers are ∙ (numbered ∙ ap (range_with_len 0) same))

module _ (jobs : List Job) (table : TableId) (heap : Heap) (olds : List SeatHeld) (first old : Tally) (crew : Crew) (before : SeatHeld) (had : HaveRun jobs table heap olds first old crew) (some : 0 < length crew.seats.items)
    (is : before ≡ get_or crew.seats.items 0 before) where
  -- the first seat of the crew may go on
  pub first_at_work : IsAtWork jobs table heap old.popped before
  first_at_work = subst (λ positions. IsAtWork jobs table heap positions before) (sym (ap (λ (one : Tally). one.popped) had.popped))
      (subst (IsAtWork jobs table heap (concat had.portions)) (sym is) (All-get_or (IsAtWork jobs table heap (concat had.portions)) crew.seats.items 0 before some had.at_work))

  module _ (new : Tally) (after : SeatHeld) (rest : List JobRun) (ran : HasRun jobs old new before after rest) where
    -- what is so of each seat is so once the first has gone on
    set_first : (P : SeatHeld → Type 0) (seats : List SeatHeld) → All P seats → P after → All P (set seats 0 after)
    set_first P [] all one = all
    set_first P (x ∷ xs) all one = All-cons P after xs one (All-tail P x xs all)

    -- all runs together make fewer calls than a seat has stamps
    enough : first.pushed ≡ positions_of jobs → sum_by (calls_at jobs) new.popped ≡ sum_by (calls_at jobs) new.pushed → AreJobs jobs
        → sum_by (calls_at jobs) (concat had.portions) + sum_by (calls_at jobs) ran.positions < stamp_limit
    enough pushed popped fit =
        let calls = sum_by (calls_at jobs) in
        omega (
          arith,
          popped,
          ap (λ (one : Tally). calls one.popped) ran.popped,
          sum_by-append (calls_at jobs) old.popped ran.positions,
          ap (λ (one : Tally). calls one.popped) had.popped,
          ap (λ (one : Tally). calls one.pushed) ran.popped,
          ap (λ (one : Tally). calls one.pushed) had.popped,
          ap calls pushed,
          few_calls jobs fit.count fit.commands,
        )

    portioned : 0 < length had.portions
    portioned = omega (arith, some, as_many_portions (λ one portion other. HasMade 1 one other (scripts_at jobs portion)) olds had.portions crew.seats.items had.made)

    -- once the queue was empty for the pass that has every share, all jobs were run
    pub has_run_all : (later : Crew) → first.pushed ≡ positions_of jobs → ((measure : ℕ → ℕ) → sum_by measure new.popped ≡ sum_by measure new.pushed)
        → later.seats.items ≡ set crew.seats.items 0 after → IsPermutation (crew.runs.items ++ rest) later.runs.items → IsNonDecreasingBy (λ run. run.job) later.runs.items
        → AreJobs jobs → HasRunAll jobs table heap olds later
    has_run_all later pushed popped seats_are moved up fit = record {
      whole = subst (λ seats. AreWhole jobs seats later.runs.items) (sym seats_are)
          (runs_are_whole jobs table heap olds first old new crew before after rest later.runs.items pushed had some is ran popped moved up fit.rising);
      portions = first_with ran.positions had.portions;
      made = subst (HaveMadeScripts jobs olds (first_with ran.positions had.portions)) (sym seats_are)
          (first_made_more jobs olds had.portions crew.seats.items ran.positions before after had.made is ran.goes_on.made);
      each_once = permutation_from_measures (positions_of jobs) (concat (first_with ran.positions had.portions))
          (λ measure. sym (sum_first_with measure ran.positions had.portions portioned ∙ all_are_run jobs table heap olds first old new crew before after rest pushed had ran popped measure));
      numbered = ap seat_numbers seats_are ∙ (numbers_stay crew.seats.items before after some is ran.goes_on.made.number_stays ∙ had.numbered);
      of_table = subst (All (IsOfTable table heap)) (sym seats_are) (set_first (IsOfTable table heap) crew.seats.items
          (All-weaker (IsAtWork jobs table heap (concat had.portions)) (IsOfTable table heap) (λ seat work. work.of_table) crew.seats.items had.at_work)
          (stays_of_table table heap before after (scripts_at jobs ran.positions) first_at_work.of_table ran.goes_on));
      present = subst (All IsPresent) (sym seats_are) (set_first IsPresent crew.seats.items
          (All-weaker (IsAtWork jobs table heap (concat had.portions)) IsPresent (λ seat work. work.present) crew.seats.items had.at_work) ran.goes_on.present);
      few = subst (All HasFewSets) (sym seats_are) (set_first HasFewSets crew.seats.items
          (All-weaker (IsAtWork jobs table heap (concat had.portions)) HasFewSets (λ seat work. omega (arith, work.used.sets, enough pushed (popped (calls_at jobs)) fit)) crew.seats.items had.at_work)
          (omega (arith, first_at_work.used.sets, ran.goes_on.sets, length_of_scripts jobs ran.positions, enough pushed (popped (calls_at jobs)) fit, ap (λ (one : Tally). sum_by (calls_at jobs) one.popped) had.popped)));
    }
