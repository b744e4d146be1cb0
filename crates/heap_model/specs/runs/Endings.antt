-- How the history of a run ends, and what stands behind its replies that a seat waits.
use Rattle.std.specs.Prelude.{◌≡◌, ℕ, ◌+◌, ◌-◌, ◌*◌, ◌^◌, ◌<◌, ◌≤◌, ◌⊎◌, true, List, [], ◌∷◌, ◌++◌}
use Rattle.heap_model.specs.declared.entry.Entry.{Entry}
use Rattle.heap_model.specs.declared.entry.Entry.TheVariants.{Ends}
use Rattle.heap_model.specs.declared.heap.Heap.{Heap}
use Rattle.heap_model.specs.PhasePlan.{cycle_phases}
use Rattle.heap_model.specs.account.PhaseCounts.{phase, has_left}
use Rattle.heap_model.specs.account.Windows.{up_to_cycle}
use Rattle.heap_model.specs.runs.Told.{up_to_leaves}

-- the last entry ends a cycle that began after every seat had left
pub record EndsBehindLeaves (heap : Heap) (told : List Entry) : Type 0 where
  pub before : List Entry
  pub cycle : ℕ
  pub kept : ℕ
  pub last : told ≡ before ++ Ends cycle kept ∷ []
  pub left : (number : ℕ) → number < heap.seats → has_left number (up_to_cycle before) ≡ true

-- and it is the first cycle that did
pub record EndsEmpty (heap : Heap) (told : List Entry) : Type 0 where
  pub behind : EndsBehindLeaves heap told
  pub first : cycle_phases * behind.cycle < phase (up_to_leaves behind.before) + cycle_phases

-- so many finds stand behind each of that many replies, or the finds are as many as are counted
abbrev pub IsPaid : ℕ → ℕ → ℕ → Type 0
IsPaid patience replies finds = (patience * replies ≤ finds) ⊎ (2 ^ 64 - 1 ≤ finds)
