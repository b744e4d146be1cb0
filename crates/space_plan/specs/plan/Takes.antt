-- What was taken between the ends of cycles, and for a cycle.
use Rattle.std.specs.Prelude.{◌≡◌, ℕ, ◌⊎◌, List, Contains}
use Rattle.heap_model.specs.declared.entry.Entry.{Entry}
use Rattle.heap_model.specs.declared.heap.Heap.{Heap}
use Rattle.heap_model.specs.account.Space.{total}
use Rattle.heap_model.specs.account.Windows.{after_last}
use Rattle.reply_text.specs.write.Counts.{is_end}
use Rattle.space_plan.specs.plan.Cycles.{cycle_takes}
use Rattle.space_plan.specs.plan.Moments.{Moment, ends_of}

-- what was taken since the last end of a cycle, or since the opening
abbrev pub taken_since_end : List Entry → ℕ
taken_since_end history = total (λ e. e.taken) (after_last is_end history)

-- so much was taken between the end before this moment and the moment, or for the cycle that ends at it
abbrev pub IsTakenAt : Heap → Moment → ℕ → Type 0
IsTakenAt heap at n = (n ≡ taken_since_end at.before) ⊎ (n ≡ cycle_takes heap at.before)

-- so much was taken at one of these moments, or the number is 0
abbrev pub IsTakenAtAny : Heap → List Moment → ℕ → Type 0
IsTakenAtAny heap ends n = (n ≡ 0) ⊎ ((at : Moment) × Contains ends at × IsTakenAt heap at n)

-- so much was taken between two neighbours among the opening, the ends of cycles and the end of the history, or for some cycle that ended
abbrev pub IsTaken : Heap → List Entry → ℕ → Type 0
IsTaken heap history n = (n ≡ taken_since_end history) ⊎ ((at : Moment) × Contains (ends_of history) at × IsTakenAt heap at n)
