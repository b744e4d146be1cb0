-- The greatest numbers of a history, and how much space they ask for.
use Rattle.std.specs.Prelude.{◌≡◌, ℕ, ◌+◌, ◌*◌, ◌≤◌, ◌⊎◌, Bool, true, false, List, Contains, map}
use Rattle.std.specs.Int.{div_ceil}
use Rattle.heap_model.specs.Board.{board_fragments}
use Rattle.heap_model.specs.Limits.{group_fragments, most_reserve}
use Rattle.heap_model.specs.Needs.{need_of}
use Rattle.heap_model.specs.declared.entry.Entry.{Entry}
use Rattle.heap_model.specs.declared.entry.Entry.TheVariants.{Said}
use Rattle.heap_model.specs.declared.heap.Heap.{Heap}
use Rattle.heap_model.specs.declared.reply.Reply.TheVariants.{Full}
use Rattle.heap_model.specs.account.Cycles.{graph_of}
use Rattle.heap_model.specs.graph.Sizes.{HasReach}
use Rattle.space_plan.specs.plan.Moments.{Moment, through, begins_of}

-- the number is the greatest of those of which this holds
pub record IsGreatest (Holds : ℕ → Type 0) (n : ℕ) : Type 0 where
  pub holds : Holds n
  pub most : (other : ℕ) → Holds other → other ≤ n

-- the board has so many fragments, or what is reached where some cycle begins
abbrev pub IsReached : Heap → List Entry → ℕ → Type 0
IsReached heap history n = (n ≡ board_fragments heap) ⊎ ((at : Moment) × Contains (begins_of history) at × HasReach (graph_of heap (through at)) n)

-- the fragments that the entry's command asks for
abbrev pub need_told : Entry → ℕ
need_told (Said number command reply) = need_of command
need_told entry = 0

-- some command asks for so many fragments, or the number is 0
abbrev pub IsNeeded : List Entry → ℕ → Type 0
IsNeeded history n = (n ≡ 0) ⊎ Contains (map need_told history) n

-- the groups that have room for the greatest reach, twice the greatest takes, a reserve of each seat and the greatest need
abbrev pub groups_for : ℕ → ℕ → ℕ → ℕ → ℕ
groups_for reach takes seats need = div_ceil (reach + 2 * takes + most_reserve * seats + need) group_fragments

-- the entry refuses a command for want of fragments
abbrev pub is_full : Entry → Bool
is_full (Said number command (Full need found)) = true
is_full entry = false
