-- What a plan says of a cycle that ended.
use Rattle.std.specs.Prelude.{◌≡◌, ℕ, ◌+◌, List, sum_by}
use Rattle.std.specs.List.{range_with_len}
use Rattle.heap_model.specs.declared.entry.Entry.{Entry}
use Rattle.heap_model.specs.declared.entry.Entry.TheVariants.{Ends}
use Rattle.heap_model.specs.declared.heap.Heap.{Heap}
use Rattle.heap_model.specs.account.Cycles.{graph_of, bound}
use Rattle.heap_model.specs.account.Space.{total, taken_of, fragments_used}
use Rattle.heap_model.specs.account.Windows.{since_reply, up_to_cycle, since_cycle}
use Rattle.heap_model.specs.graph.Sizes.{HasReach}
use Rattle.space_plan.specs.declared.report.CyclePlan.{CyclePlan}
use Rattle.space_plan.specs.plan.Moments.{Moment}

-- what the seats took, each since its last reply
abbrev pub taken_since_replies : Heap → List Entry → ℕ
taken_since_replies heap history = sum_by (λ number. taken_of number (since_reply number history)) (range_with_len 0 heap.seats)

-- what was taken for the last cycle that began: by each seat since its last reply before the begin, and by all after it
abbrev pub cycle_takes : Heap → List Entry → ℕ
cycle_takes heap history = taken_since_replies heap (up_to_cycle history) + total (λ e. e.taken) (since_cycle history)

-- the line of the cycle that ends at this moment
pub record IsCyclePlan (heap : Heap) (at : Moment) (plan : CyclePlan) : Type 0 where
  pub ends : at.entry ≡ Ends plan.cycle plan.kept
  pub reach : HasReach (graph_of heap (up_to_cycle at.before)) plan.reach
  pub since : plan.since ≡ cycle_takes heap at.before
  pub bound : plan.bound ≡ bound heap reach.ids at.before
  pub used : plan.used ≡ fragments_used heap at.before
