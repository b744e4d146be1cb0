-- What is asked of each turn of the collector.
use Rattle.std.proofs.Common.{◌≡◌, ℕ, ◌-◌, ◌<◌, ◌^◌, [], ◌∷◌, ◌++◌, length-append, arith}
use Rattle.heap_model.specs.declared.calls.collector_calls.Turn.{Turn}
use Rattle.heap_model.specs.declared.calls.collector_calls.Turn.TheVariants.{Stepped}
use Rattle.core_machine.proofs.Terms.{Entry, Heap, IsHeap, Step, FoundPointsWithin, address_of}
use Rattle.core_machine.specs.declared.collector.stage.Stage.{Stage}
use Rattle.core_machine.specs.collector.Collector.{Collector, TurnMove, after_advance, quiet_turn, work_turn, turn_at, collector_after}
use Rattle.core_machine.specs.collector.FitsTurns.{FitsStage, CollectorFits}
use Rattle.core_machine.proofs.table_lemmas.StepStands.{StepStands}

pub record TurnStands (heap : Heap) (turn : TurnMove) : Type 0 where
  pub step : StepStands heap turn.step
  -- the collector's data fit together after it, where the word found has 64 bits and leads within the heap
  pub fits : (found : ℕ) → found < 2 ^ 64 → FoundPointsWithin heap (address_of turn.step) found → turn.may → CollectorFits heap (collector_after turn found)

-- so stands the turn that is due at this stage
abbrev pub StageStands : Stage → Type 0
StageStands stage = (heap : Heap) (collector : Collector) → IsHeap heap → CollectorFits heap collector → collector.stage ≡ stage
    → FitsStage heap collector.phase collector.looked stage → TurnStands heap (turn_at heap collector stage)

-- a turn that adds no entry
pub quiet_turn_stands : (heap : Heap) (step : Step) (told : ℕ → Collector) (answer : ℕ → Turn) → StepStands heap step
    → ((found : ℕ) → found < 2 ^ 64 → FoundPointsWithin heap (address_of step) found → CollectorFits heap (told found)) → TurnStands heap (quiet_turn step told answer)
quiet_turn_stands heap step told answer stands fits = record {
  step = stands;
  fits = λ found small led may. record {
    phase_within = (fits found small led).phase_within;
    phase_told = omega (arith, (fits found small led).phase_told, length-append (told found).log []);
    at_stage = (fits found small led).at_stage;
  };
}

-- another stage in the same phase
pub collector_fits_at_stage : (heap : Heap) (collector : Collector) (stage : Stage) → CollectorFits heap collector → FitsStage heap collector.phase collector.looked stage
    → CollectorFits heap (record collector { stage = stage })
collector_fits_at_stage heap collector stage fits here = record { phase_within = fits.phase_within; phase_told = fits.phase_told; at_stage = here }

-- a turn of a phase's work that adds no entry
pub work_turn_stands : (heap : Heap) (step : Step) (told : ℕ → Collector) → StepStands heap step
    → ((found : ℕ) → found < 2 ^ 64 → FoundPointsWithin heap (address_of step) found → CollectorFits heap (told found)) → TurnStands heap (work_turn step told)
work_turn_stands heap step told stands fits = quiet_turn_stands heap step told (λ found. Stepped) stands fits

-- a turn that begins the next phase of which this entry tells
pub collector_fits_at_begin : (heap : Heap) (collector : Collector) (entry : Entry) → IsHeap heap → CollectorFits heap collector → collector.phase < 2 ^ 64 - 2
    → CollectorFits heap (record (after_advance collector) { log = collector.log ++ entry ∷ [] })
collector_fits_at_begin heap collector entry limits fits may = record {
  phase_within = omega (arith, may);
  phase_told = omega (arith, fits.phase_told, length-append collector.log (entry ∷ []));
  at_stage = omega (arith, limits.some_seat);
}
