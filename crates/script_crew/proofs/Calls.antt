-- What the calls of runs come to, and that a seat has numbers left for them.
use Rattle.std.proofs.Common.{◌≡◌, ℕ, zero, suc, ◌+◌, ◌*◌, ◌<◌, ◌≤◌, List, [], ◌∷◌, ◌++◌, length, map, get_or, take, refl, sym, ap, ◌∙◌, subst, append_assoc, arith}
use Rattle.std.specs.Prelude.{All, slice_index, sum_by}
use Rattle.std.specs.List.{range_with_len}
use Rattle.std.proofs.lemmas.Grind.{flat_map-append}
use Rattle.std.proofs.lemmas.List.{length-append, length-map, get_or-map, take_more, length-take-le}
use Rattle.std.proofs.lemmas.List.Concat.{flat_map-cons}
use Rattle.std.proofs.lemmas.List.Elements.{All-append, All-cons, All-drop, All-head, All-tail, All-nil, All-map, All-get_or}
use Rattle.std.proofs.lemmas.List.FromFn.{fill_by_all, length-range_with_len, get_or-range_with_len}
use Rattle.std.proofs.lemmas.List.Sums.{sum_by-cons, sum_by_push}
use Rattle.heap_model.specs.Limits.{name_limit, stamp_limit}
use Rattle.heap_model.specs.calls.SeatCalls.{HasNumber}
use Rattle.heap_model.specs.declared.command.Command.{Command}
use Rattle.heap_model.specs.declared.command.Command.TheVariants as commands
use Rattle.heap_table.specs.SeatHeld.{SeatHeld}
use Rattle.mutator_seat.specs.Resting.{seat_state}
use Rattle.heap_runs.specs.CollectCall.{IsPresent}
use Rattle.heap_runs.specs.SeatWork.{GoesOn, IsOfScript, MayMakeNext, MayWork, objects_of, sets_of}
use Rattle.script_crew.specs.declared.job.Job.{Job}
use Rattle.script_crew.specs.declared.position_rule.Tally.{Tally}
use Rattle.script_crew.specs.Jobs.{AreJobs, IsJob, IsOfJob, HasUsed, calls_at, command_count, positions_of, script_at, script_of_run}
use Rattle.script_crew.specs.Positions.{HasPopped}
use Rattle.script_crew.specs.Runs.{clears, with_polls}
use Rattle.script_crew.proofs.Portions.{script_here}
use Rattle.script_crew.proofs.SameLists.{sum_by-map}

-- who has a name and a stamp left has the number that any command asks for
number_left : (seat : SeatHeld) (command : Command) → objects_of seat + 1 < name_limit → sets_of seat + 1 < stamp_limit → HasNumber (seat_state seat) command
number_left seat (commands.New d fields) names stamps = names
number_left seat (commands.Array d cells) names stamps = names
number_left seat (commands.Set r i v) names stamps = omega (arith, stamps)
number_left seat (commands.Cas r i a v) names stamps = omega (arith, stamps)
number_left seat _ names stamps = tt

-- who may make all commands of a script, and has made fewer, may make one more
pub may_make_next : (start now : SeatHeld) (script made : List Command) (command : Command) → MayWork start script → GoesOn 1 start now made → length made < length script → IsOfScript command → MayMakeNext now command
may_make_next start now script made command may on more of = record {
  present = on.present;
  of_script = of;
  numbered = number_left now command (omega (arith, may.names, on.objects, more)) (omega (arith, may.stamps, on.sets, more));
}

-- who may make the commands of a front and of what stands behind it may make those of the front
pub may_make_front : (start : SeatHeld) (front behind : List Command) → All IsOfScript front → MayWork start (front ++ behind) → MayWork start front
may_make_front start front behind each may = record {
  present = may.present;
  each = each;
  names = omega (arith, may.names, length-append front behind);
  stamps = omega (arith, may.stamps, length-append front behind);
}

-- and then those behind it
pub may_make_behind : (start now : SeatHeld) (front behind : List Command) → All IsOfScript behind → MayWork start (front ++ behind) → GoesOn 1 start now front → MayWork now behind
may_make_behind start now front behind each may on = record {
  present = on.present;
  each = each;
  names = omega (arith, may.names, on.objects, length-append front behind);
  stamps = omega (arith, may.stamps, on.sets, length-append front behind);
}

-- a command with its poll
abbrev polled : Command → List Command
polled command = command ∷ commands.Poll ∷ []

pub polls_more : (all : List Command) (k : ℕ) (d command : Command) → k < length all → get_or all k d ≡ command → with_polls (take (k + 1) all) ≡ (with_polls (take k all) ++ command ∷ []) ++ commands.Poll ∷ []
polls_more all k d command few is =
    ap with_polls (take_more all k d few ∙ ap (λ one. take k all ++ one ∷ []) is)
    ∙ (flat_map-append polled (take k all) (command ∷ []) ∙ sym (append_assoc (with_polls (take k all)) (command ∷ []) (commands.Poll ∷ [])))

-- a poll stands behind each
length_with_polls : (commands : List Command) → length (with_polls commands) ≡ length commands + length commands
length_with_polls [] = refl
length_with_polls (command ∷ commands) = omega (arith, ap (λ xs. length xs) (flat_map-cons polled command commands), length_with_polls commands)

-- two calls more are left as long as a command is
pub polls_left : (commands : List Command) (k : ℕ) → k < length commands → length (with_polls (take k commands)) + 2 ≤ length (with_polls commands)
polls_left commands k few = omega (arith, length_with_polls (take k commands), length_with_polls commands, length-take-le k commands (omega (arith, few)), few)

-- clearing is of a script
pub clears_of_script : All IsOfScript clears
clears_of_script = All-map IsOfScript commands.Nil (range_with_len 1 15) (λ k d few.
    let below : k < 15 = omega (arith, few, length-range_with_len 1 15) in
    let is : get_or (range_with_len 1 15) k d ≡ 1 + k = get_or-range_with_len 1 15 k d below in
    ((omega (arith, is), omega (arith, is, below)), λ e. cc e))

-- and so are a job's commands with polls
pub polls_of_script : (all : List Command) → All IsOfJob all → All IsOfScript (with_polls all)
polls_of_script [] each = All-nil IsOfScript
polls_of_script (command ∷ rest) each =
    subst (All IsOfScript) (sym (flat_map-cons polled command rest))
    (All-append IsOfScript (polled command) (with_polls rest)
    (All-cons IsOfScript command (commands.Poll ∷ []) (All-head IsOfJob command rest each).0 (All-cons IsOfScript commands.Poll [] (tt, λ e. cc e) (All-nil IsOfScript)))
    (polls_of_script rest (All-tail IsOfJob command rest each)))

-- the calls of a run
abbrev calls_of : Job → ℕ
calls_of job = length (script_of_run job)

calls_are : (job : Job) → calls_of job ≡ 15 + (length job.commands.items + length job.commands.items)
calls_are job = omega (arith, length-append clears (with_polls job.commands.items), length-map {B = Command} (range_with_len 1 15) commands.Nil, length-range_with_len 1 15, length_with_polls job.commands.items)

-- the calls of a run of each
calls_of_all : (jobs : List Job) → sum_by calls_of jobs ≡ 15 * length jobs + 2 * command_count jobs
calls_of_all [] = refl
calls_of_all (job ∷ jobs) = omega (arith, sum_by-cons calls_of job jobs, sum_by-cons (λ (one : Job). length one.commands.items) job jobs, calls_are job, calls_of_all jobs)

-- what stands at a position has its calls
calls_here : (jobs : List Job) (position : ℕ) → slice_index (map calls_of jobs) position ≡ calls_at jobs position
calls_here [] position = refl
calls_here (job ∷ jobs) zero = refl
calls_here (job ∷ jobs) (suc position) = calls_here jobs position

calls_by_position : (jobs : List Job) → sum_by (calls_at jobs) (positions_of jobs) ≡ sum_by calls_of jobs
calls_by_position jobs =
    let same : ℕ → ℕ = λ n. n in
    let all : map (calls_at jobs) (positions_of jobs) ≡ map calls_of jobs = sym (fill_by_all (calls_at jobs) (map calls_of jobs) (length jobs) 0 (length-map jobs calls_of) (λ k few. calls_here jobs k)) in
    sym (sum_by-map same (calls_at jobs) (positions_of jobs)) ∙ (ap (sum_by same) all ∙ sum_by-map same calls_of jobs)

-- they are fewer than a seat has stamps
pub few_calls : (jobs : List Job) → length jobs ≤ 4096 → command_count jobs ≤ 1048576 → sum_by (calls_at jobs) (positions_of jobs) < stamp_limit
few_calls jobs count few = omega (arith, calls_by_position jobs, calls_of_all jobs, count, few)

-- a seat that has used no more than runs at the popped positions may run the job whose position is popped next
pub may_run : (jobs : List Job) (old new : Tally) (position : ℕ) (job : Job) (seat : SeatHeld) → AreJobs jobs → old.known ≡ positions_of jobs → HasPopped old position new
    → position < length jobs → job ≡ get_or jobs position job → HasUsed jobs old.popped seat → IsPresent seat → MayWork seat (script_of_run job)
may_run jobs old new position job seat fit known popped within is used present = record {
  present = present;
  each = All-append IsOfScript clears (with_polls job.commands.items) clears_of_script (polls_of_script job.commands.items (subst IsJob (sym is) (All-get_or IsJob jobs position job within fit.each)));
  names = omega (arith, used.objects, enough);
  stamps = omega (arith, used.sets, enough);
}
  where
    enough : calls_of job + sum_by (calls_at jobs) old.popped < stamp_limit
    enough = omega (
      arith,
      ap (λ commands. length commands) (script_here jobs position job within is),
      popped.within (calls_at jobs),
      ap (λ (one : Tally). sum_by (calls_at jobs) one.popped) popped.one_more,
      sum_by_push (calls_at jobs) old.popped position,
      ap (sum_by (calls_at jobs)) known,
      few_calls jobs fit.count fit.commands,
    )

-- what is so of clearing and of what stands behind it is so of that
pub behind_clears : (behind : List Command) → All IsOfScript (clears ++ behind) → All IsOfScript behind
behind_clears behind each = All-drop IsOfScript 15 (clears ++ behind) each

-- each command is of a script where all of them are, with their polls
pub polled_at : (all : List Command) (k : ℕ) (d : Command) → k < length all → All IsOfScript (with_polls all) → IsOfScript (get_or all k d)
polled_at (command ∷ rest) zero d few each = All-head IsOfScript command (commands.Poll ∷ with_polls rest) (subst (All IsOfScript) (flat_map-cons polled command rest) each)
polled_at (command ∷ rest) (suc k) d few each =
    polled_at rest k d (omega (arith, few)) (All-tail IsOfScript commands.Poll (with_polls rest) (All-tail IsOfScript command (commands.Poll ∷ with_polls rest) (subst (All IsOfScript) (flat_map-cons polled command rest) each)))
polled_at [] k d few each = absurd (omega (arith, few))
