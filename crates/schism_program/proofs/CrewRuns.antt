-- Whether a crew has jobs, and that it runs them on the table that opened.
use Rattle.std.proofs.Common.{◌≡◌, ◌==◌, ℕ, Bool, false, List, [], ◌∷◌, length, Option, refl, ap, subst, sym, ◌∙◌}
use Rattle.std.specs.Prelude.{All, IsSomeAnd}
use Rattle.std.proofs.lemmas.Bool.{eqb-false}
use Rattle.heap_model.specs.declared.heap.Heap.{Heap}
use Rattle.std.proofs.lemmas.List.Elements.{All-get_or}
use Rattle.core_machine.specs.seat.Seat.{Seat}
use Rattle.heap_table.specs.Closed.{ClosedTable}
use Rattle.heap_table.specs.CollectorHeld.{CollectorHeld}
use Rattle.heap_table.specs.Known.{CollectorKnown, opening_known}
use Rattle.heap_table.specs.Opened.{IsOpened}
use Rattle.heap_table.specs.SeatHeld.{SeatHeld}
use Rattle.collector_turns.specs.Collector.{CollectorValue}
use Rattle.script_crew.specs.declared.crew.CrewRan.{CrewRan}
use Rattle.script_crew.specs.declared.job.Job.{Job}
use Rattle.script_crew.specs.Crews.{IsCrewRan}
use Rattle.schism_program.specs.Crewing.{HasRun, RunsAll, RunsJobs}

-- jobs of which there is one are run by a crew
pub some_jobs_are_run : (history : Bool) (heap : Heap) (jobs : List Job) (text : List ℕ) (closed : Option ClosedTable) → (length jobs == 0) ≡ false → IsSomeAnd closed (RunsJobs history heap jobs text) →
    RunsAll history heap jobs text closed
some_jobs_are_run history heap [] text closed some runs = absurd (eqb-false 0 0 some refl)
some_jobs_are_run history heap (job ∷ jobs) text closed some runs = runs

-- what was run is run on the table that was made
pub opened_has_run : (heap : Heap) (made : CollectorHeld) (collector : CollectorValue) (holders seats : List SeatHeld) (jobs : List Job) (ran : CrewRan) → made.heap ≡ heap
    → made.known ≡ record (opening_known heap) { handed = heap.seats } → All (IsOpened made.table heap) holders → seats ≡ holders → collector.holder ≡ made → IsCrewRan jobs seats collector ran → HasRun heap jobs ran
opened_has_run heap made collector holders seats jobs ran heap_is known_is opened same holder_is whole = record {
  collector = collector;
  of_heap = ap (λ (h : CollectorHeld). h.heap) holder_is ∙ heap_is;
  opened = ap (λ (h : CollectorHeld). h.known.collector.log) holder_is ∙ ap (λ (known : CollectorKnown). known.collector.log) known_is;
  seats = seats;
  silent = subst (All (λ (seat : SeatHeld). seat.seat.mine ≡ [])) (sym same)
      (λ k d few. ap (λ (own : Seat). own.mine) (All-get_or (IsOpened made.table heap) holders k d few opened).seat_is);
  whole = whole;
}
