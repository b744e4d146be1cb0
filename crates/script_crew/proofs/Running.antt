-- What a seat has run stays so as its log grows, and one job more is run.
use Rattle.std.proofs.Common.{◌≡◌, ℕ, ◌≤◌, List, [], ◌∷◌, ◌++◌, length, get_or, refl, sym, ap, ◌∙◌, subst, append_assoc, append-nil, arith}
use Rattle.std.specs.Prelude.{slice_index, sum_by}
use Rattle.std.proofs.lemmas.List.{length-append, map-append}
use Rattle.std.proofs.lemmas.List.Elements.{All-weaker, All-push, All-nil, All-get_or}
use Rattle.std.proofs.lemmas.List.Quantifiers.{all_pairs_push}
use Rattle.std.proofs.lemmas.List.Sums.{sum_by-append}
use Rattle.atomic_table.specs.Seated.{TableId}
use Rattle.heap_model.specs.declared.command.Command.{Command}
use Rattle.heap_model.specs.declared.entry.Entry.{Entry}
use Rattle.heap_model.specs.declared.heap.Heap.{Heap}
use Rattle.heap_model.specs.runs.Told.{commands_told}
use Rattle.heap_table.specs.SeatHeld.{SeatHeld}
use Rattle.heap_runs.specs.CollectCall.{IsPresent}
use Rattle.heap_runs.specs.SeatWork.{GoesOn, HasMade, IsOfTable}
use Rattle.heap_runs.proofs.CommandsOn.{goes_then, none_paid}
use Rattle.script_crew.specs.declared.job.Job.{Job}
use Rattle.script_crew.specs.declared.job.JobRun.{JobRun}
use Rattle.script_crew.specs.declared.position_rule.Tally.{Tally}
use Rattle.script_crew.specs.Jobs.{HasUsed, calls_at, script_at, scripts_at}
use Rattle.script_crew.specs.Positions.{tally, HasPopped}
use Rattle.script_crew.specs.Runs.{job_numbers, clears, with_polls, EndsBefore, TellsFromTo, IsRunOn, IsRunOf}
use Rattle.script_crew.specs.Working.{HasRun}
use Rattle.script_crew.proofs.Portions.{length_of_scripts, scripts_more}

-- a log that grows tells what it told
tells_on : (number : ℕ) (log more : List Entry) (commands : List Command) (from to : ℕ) → TellsFromTo number log commands from to → TellsFromTo number (log ++ more) commands from to
tells_on number log more commands from to has =
    let front = has.earlier ++ has.clearing in
    record {
      earlier = has.earlier;
      clearing = has.clearing;
      told = has.told;
      later = has.later ++ more;
      log_is = ap (λ es. es ++ more) has.log_is ∙ (append_assoc front (has.told ++ has.later) more ∙ ap (λ es. front ++ es) (append_assoc has.told has.later more));
      from_is = has.from_is;
      to_is = has.to_is;
      cleared = has.cleared;
      answered = has.answered;
    }

-- what the log tells ends within it
pub ends_within : (jobs : List Job) (seat : SeatHeld) (run : JobRun) → IsRunOn jobs seat run → run.to ≤ length seat.seat.mine
ends_within jobs seat run ran =
    let has = ran.of_job.told in
    omega (
      arith,
      has.from_is,
      has.to_is,
      ap (λ log. length log) has.log_is,
      length-append (has.earlier ++ has.clearing) (has.told ++ has.later),
      length-append has.told has.later,
    )

-- a run stays one of the seat as it goes on
pub run_stays : (jobs : List Job) (old new : SeatHeld) (commands : List Command) → HasMade 1 old new commands → (run : JobRun) → IsRunOn jobs old run → IsRunOn jobs new run
run_stays jobs old new commands made run ran =
    let told = tells_on old.number old.seat.mine made.part ran.job.commands.items run.from run.to ran.of_job.told in
    record {
      job = ran.job;
      of_jobs = ran.of_jobs;
      of_job = record {
        job_is = ran.of_job.job_is;
        seat_is = ran.of_job.seat_is ∙ sym made.number_stays;
        told = subst (λ number. TellsFromTo number new.seat.mine ran.job.commands.items run.from run.to) (sym made.number_stays)
            (subst (λ log. TellsFromTo old.number log ran.job.commands.items run.from run.to) (sym made.mine) told);
      };
    }

-- where the registers were cleared and then the job's commands were made, it was run
pub is_run : (job : Job) (start cleared done : SeatHeld) (run : JobRun) → GoesOn 1 start cleared clears → GoesOn 1 cleared done (with_polls job.commands.items) → run.job ≡ job.number → run.seat ≡ done.number
    → run.from ≡ length cleared.seat.mine → run.to ≡ length done.seat.mine → IsRunOf job done run
is_run job start cleared done run first then job_is seat_is from_is to_is =
    let one = first.made in
    let more = then.made in
    let log : done.seat.mine ≡ (start.seat.mine ++ one.part) ++ (more.part ++ []) = more.mine ∙ (λ i. one.mine i ++ sym (append-nil more.part) i) in
    record {
      job_is = job_is;
      seat_is = seat_is;
      told = subst (λ number. TellsFromTo number done.seat.mine job.commands.items run.from run.to) (sym (more.number_stays ∙ one.number_stays)) (record {
        earlier = start.seat.mine;
        clearing = one.part;
        told = more.part;
        later = [];
        log_is = log;
        from_is = ap (λ es. length es) (sym one.mine) ∙ sym from_is;
        to_is = omega (arith, from_is, to_is, ap (λ es. length es) more.mine, length-append cleared.seat.mine more.part);
        cleared = one.answered;
        answered = subst (λ number. commands_told number more.part ≡ with_polls job.commands.items) one.number_stays more.answered;
      });
    }

-- where nothing was made the seat is as it was
pub none_made : (seat : SeatHeld) → IsPresent seat → GoesOn 1 seat seat []
none_made seat present = record {
  made = record {
    table_stays = refl;
    heap_stays = refl;
    number_stays = refl;
    part = [];
    mine = sym (append-nil seat.seat.mine);
    answered = refl;
    paid = none_paid 1 seat.seat.looks.waits seat.seat.looks.waits (omega arith);
  };
  present = present;
  objects = omega arith;
  sets = omega arith;
}

-- a seat that goes on is of the same table
pub stays_of_table : (table : TableId) (heap : Heap) (old new : SeatHeld) (commands : List Command) → IsOfTable table heap old → GoesOn 1 old new commands → IsOfTable table heap new
stays_of_table table heap old new commands was on = record { table_is = on.made.table_stays ∙ was.table_is; heap_is = on.made.heap_stays ∙ was.heap_is }

-- nothing was run yet
pub none_run : (jobs : List Job) (one : Tally) (seat : SeatHeld) (runs : List JobRun) → IsPresent seat → runs ≡ [] → HasRun jobs one one seat seat runs
none_run jobs one seat runs present none = subst (HasRun jobs one one seat seat) (sym none) (record {
  positions = [];
  popped = λ i. tally one.shares one.pushed (sym (append-nil one.popped) i) one.known;
  numbers = refl;
  goes_on = none_made seat present;
  on_seat = All-nil (IsRunOn jobs seat);
  begin = All-nil (λ run. length seat.seat.mine ≤ run.from);
  in_turn = λ i j d less few. absurd (omega (arith, few));
})

-- one job more was run
pub one_more_run : (jobs : List Job) (first old new : Tally) (start before after : SeatHeld) (runs : List JobRun) (position : ℕ) (run : JobRun) → HasRun jobs first old start before runs
    → HasPopped old position new → GoesOn 1 before after (script_at jobs position) → IsRunOn jobs after run → length before.seat.mine ≤ run.from
    → run.job ≡ slice_index (job_numbers jobs) position → HasRun jobs first new start after (runs ++ run ∷ [])
one_more_run jobs first old new start before after runs position run had popped on ran behind number = record {
  positions = had.positions ++ position ∷ [];
  popped = popped.one_more ∙ (λ i. tally (had.popped i).shares (had.popped i).pushed (longer i) (had.popped i).known);
  numbers = map-append (λ one. one.job) runs (run ∷ []) ∙ ((λ i. had.numbers i ++ number i ∷ []) ∙ sym (map-append (λ one. slice_index (job_numbers jobs) one) had.positions (position ∷ [])));
  goes_on = subst (GoesOn 1 start after) (scripts_more jobs had.positions position) (goes_then 1 start before after (scripts_at jobs had.positions) (script_at jobs position) had.goes_on on);
  on_seat = All-push (IsRunOn jobs after) runs run (All-weaker (IsRunOn jobs before) (IsRunOn jobs after) (run_stays jobs before after (script_at jobs position) on.made) runs had.on_seat) ran;
  begin = All-push (λ one. length start.seat.mine ≤ one.from) runs run had.begin
      (omega (arith, ap (λ log. length log) had.goes_on.made.mine, length-append start.seat.mine had.goes_on.made.part, behind));
  in_turn = all_pairs_push EndsBefore runs run had.in_turn (λ k d few same.
      let ends = ends_within jobs before (get_or runs k d) (All-get_or (IsRunOn jobs before) runs k d few had.on_seat) in
      omega (arith, ends, behind));
}
  where
    longer : old.popped ++ position ∷ [] ≡ first.popped ++ (had.positions ++ position ∷ [])
    longer = (λ i. (had.popped i).popped ++ position ∷ []) ∙ append_assoc first.popped had.positions (position ∷ [])

-- a seat that has run the jobs at the popped positions has used no more than runs of all popped ones may
pub has_used : (jobs : List Job) (old new : Tally) (before after : SeatHeld) (runs : List JobRun) → HasRun jobs old new before after runs → HasUsed jobs old.popped before → HasUsed jobs new.popped after
has_used jobs old new before after runs ran used =
    let sum = ap (λ (one : Tally). sum_by (calls_at jobs) one.popped) ran.popped in
    let both = sum_by-append (calls_at jobs) old.popped ran.positions in
    record {
      objects = omega (arith, sum, both, used.objects, ran.goes_on.objects, length_of_scripts jobs ran.positions);
      sets = omega (arith, sum, both, used.sets, ran.goes_on.sets, length_of_scripts jobs ran.positions);
    }
