-- Seats that have left keep their runs, and have gone.
use Rattle.std.proofs.Common.{◌≡◌, ℕ, ◌<◌, ◌≤◌, List, [], ◌∷◌, ◌++◌, length, get_or, sym, ap, subst, ◌∙◌, arith}
use Rattle.std.specs.Prelude.{All}
use Rattle.std.proofs.lemmas.List.{get_or_default}
use Rattle.std.proofs.lemmas.List.Elements.{All-get_or, All-head, All-tail, All-weaker, AllZip-get_or, length_all_zip}
use Rattle.std.proofs.lemmas.Option.{get_or_from_slice_get, slice_get_within}
use Rattle.atomic_table.specs.Seated.{TableId}
use Rattle.heap_model.specs.declared.command.Command.TheVariants.{Leave}
use Rattle.heap_model.specs.declared.heap.Heap.{Heap}
use Rattle.heap_model.specs.declared.entry.Entry.{Entry}
use Rattle.heap_model.specs.graph.Growth.{graph_after}
use Rattle.heap_model.specs.graph.Objects.{graph_seat, opening}
use Rattle.log_merge.proofs.SetCounts.{sets_grow_as_told}
use Rattle.heap_table.specs.SeatHeld.{SeatHeld}
use Rattle.heap_runs.specs.CollectCall.{IsPresent}
use Rattle.heap_runs.specs.Finishing.{HasGone}
use Rattle.heap_runs.specs.SeatWork.{IsOfTable, sets_of}
use Rattle.heap_runs.proofs.RunsEnd.{has_gone, same_numbers}
use Rattle.script_crew.specs.declared.job.Job.{Job}
use Rattle.script_crew.specs.declared.job.JobRun.{JobRun}
use Rattle.script_crew.specs.Jobs.{HasFewSets}
use Rattle.script_crew.specs.Leaving.{HasLeft, HaveLeft}
use Rattle.script_crew.specs.Runs.{seat_numbers, AreWhole, IsRunAmong, IsRunOn}
use Rattle.script_crew.proofs.Running.{run_stays}

-- the seat that comes next is there
pub next_is_present : (before behind : List SeatHeld) (seat : SeatHeld) → All IsPresent (before ++ seat ∷ behind) → IsPresent seat
next_is_present [] behind seat all = All-head IsPresent seat behind all
next_is_present (one ∷ before) behind seat all = next_is_present before behind seat (All-tail IsPresent one (before ++ seat ∷ behind) all)

-- who leaves does no set more
sets_stay_by_leave : (old new : SeatHeld) → HasLeft old new → sets_of new ≤ sets_of old
sets_stay_by_leave old new left =
    let made = left.made in
    let more = sets_grow_as_told old.heap old.seat.mine made.part old.number (Leave ∷ []) made.answered in
    let same : sets_of new ≡ (graph_seat (graph_after (opening old.heap) (old.seat.mine ++ made.part)) old.number).sets =
    ap (λ h. (graph_seat (graph_after (opening h) new.seat.mine) new.number).sets) made.heap_stays
    ∙ ap (λ (l : List Entry). (graph_seat (graph_after (opening old.heap) l) new.number).sets) made.mine
    ∙ ap (λ n. (graph_seat (graph_after (opening old.heap) (old.seat.mine ++ made.part)) n).sets) made.number_stays in
    omega (arith, same, more)

module _ (olds news : List SeatHeld) (left : HaveLeft olds news) where
  as_many : length olds ≡ length news
  as_many = length_all_zip HasLeft olds news left

  one_left : (k : ℕ) (d : SeatHeld) → k < length olds → HasLeft (get_or olds k d) (get_or news k d)
  one_left k d few = AllZip-get_or HasLeft olds news k d d left few

  -- the seats have the numbers that they had
  pub numbers_stay_so : seat_numbers news ≡ seat_numbers olds
  numbers_stay_so = same_numbers olds news (sym as_many) (λ k old new was now.
      let one = AllZip-get_or HasLeft olds news k old new left (slice_get_within olds k old was) in
      sym (ap (λ (seat : SeatHeld). seat.number) (get_or_from_slice_get news k new new now)) ∙ (one.made.number_stays ∙ ap (λ (seat : SeatHeld). seat.number) (get_or_from_slice_get olds k old old was)))

  -- each has gone
  pub all_gone : (table : TableId) (heap : Heap) → All (IsOfTable table heap) olds → All (HasGone table heap) news
  all_gone table heap of_table k d few =
      let within : k < length olds = omega (arith, few, as_many) in
      let one = one_left k d within in
      has_gone 1 table heap (get_or olds k d) (get_or news k d) [] (All-get_or (IsOfTable table heap) olds k d within of_table) one.made one.left

  -- each has done as few sets as it had
  pub few_still : All HasFewSets olds → All HasFewSets news
  few_still all k d few =
      let within : k < length olds = omega (arith, few, as_many) in
      let had : HasFewSets (get_or olds k d) = All-get_or HasFewSets olds k d within all in
      omega (arith, had, sets_stay_by_leave (get_or olds k d) (get_or news k d) (one_left k d within))

  run_among : (jobs : List Job) (run : JobRun) → IsRunAmong jobs olds run → IsRunAmong jobs news run
  run_among jobs run ran =
      let k = ran.of_seats.0 in
      let d = ran.seat in
      let one = one_left k d ran.of_seats.1 in
      let within : k < length news = omega (arith, ran.of_seats.1, as_many) in
      record {
        seat = get_or news k d;
        of_seats = (k, within, get_or_default news k (get_or news k d) d within);
        on_seat = run_stays jobs (get_or olds k d) (get_or news k d) (Leave ∷ []) one.made run (subst (λ seat. IsRunOn jobs seat run) (sym ran.of_seats.2) ran.on_seat);
      }

  -- and the runs are as whole as they were
  pub whole_still : (jobs : List Job) (runs : List JobRun) → AreWhole jobs olds runs → AreWhole jobs news runs
  whole_still jobs runs whole = record { once = whole.once; each = All-weaker (IsRunAmong jobs olds) (IsRunAmong jobs news) (run_among jobs) runs whole.each; apart = whole.apart }
