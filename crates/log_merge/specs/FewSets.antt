-- How many sets logs have.
use Rattle.std.specs.Prelude.{ℕ, ◌<◌, Bool, true, false, List, All, count_by}
use Rattle.heap_model.specs.Limits.{stamp_limit}
use Rattle.heap_model.specs.declared.command.Command.TheVariants.{Set, Cas}
use Rattle.heap_model.specs.declared.reply.Reply.TheVariants.{Was}
use Rattle.heap_model.specs.declared.entry.Entry.{Entry}
use Rattle.heap_model.specs.declared.entry.Entry.TheVariants.{Said}

-- the entry is a set, or a cas that swapped
abbrev pub is_set : Entry → Bool
is_set (Said seat (Set r i v) (Was stamp)) = true
is_set (Said seat (Cas r i a v) (Was stamp)) = true
is_set _ = false

-- how many sets the log has
abbrev pub set_count : List Entry → ℕ
set_count log = count_by is_set log

-- each log has fewer sets than a seat has stamps
abbrev pub HaveFewSets : List (List Entry) → Type 0
HaveFewSets logs = All (λ log. set_count log < stamp_limit) logs
