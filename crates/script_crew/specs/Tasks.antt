-- What one thread of a crew is given, and what it has done.
use Rattle.std.specs.Prelude.{◌≡◌, ℕ, List, map, vec_len, All, Option, Result}
use Rattle.std.specs.List.{range_with_len}
use Rattle.atomic_table.specs.Seated.{TableId}
use Rattle.crossbeam_queue.specs.declared.array_queue.Doing.{Doing}
use Rattle.crossbeam_queue.specs.declared.array_queue.Slotted.{Slotted}
use Rattle.heap_model.specs.declared.fault.Memory.{Memory}
use Rattle.heap_model.specs.declared.heap.Heap.{Heap}
use Rattle.script_crew.specs.declared.job.Job.{Job}
use Rattle.script_crew.specs.declared.position_rule.Tally.{Tally}
use Rattle.script_crew.specs.declared.shift.Task.{Task}
use Rattle.script_crew.specs.declared.shift.Task.TheVariants.{Jobs, Slack}
use Rattle.script_crew.specs.declared.worker.Worked.{Worked}
use Rattle.script_crew.specs.Working.{IsFresh, HaveEnded}

module _ {Q A : Type 0} where
  -- the workers of the task are fresh, and numbered by their positions
  abbrev pub IsTask : Slotted (Option ℕ) (Doing ℕ Tally) Q A → List Job → TableId → Heap → Task → Type 0
  IsTask queue jobs table heap (Jobs workers) = All (IsFresh queue jobs table heap) workers.items × (map (λ worker. worker.seat.number) workers.items ≡ range_with_len 0 (vec_len workers))
  IsTask queue jobs table heap Slack = Unit {0}

  -- each worker of the task has ended
  abbrev pub EndsTask : Slotted (Option ℕ) (Doing ℕ Tally) Q A → List Job → TableId → Heap → Task → List (Result Worked Memory) → Type 0
  EndsTask queue jobs table heap (Jobs workers) done = HaveEnded queue jobs table heap (map (λ worker. worker.seat) workers.items) done
  EndsTask queue jobs table heap Slack done = Unit {0}
