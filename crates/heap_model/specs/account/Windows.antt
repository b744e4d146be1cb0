-- Sections of a history: up to the last entry of some kind, and after it.
use Rattle.std.specs.Prelude.{ℕ, ◌==◌, ◌%◌, Bool, true, false, if◌then◌else◌, List, [], ◌∷◌}
use Rattle.std.specs.List.{list_any}
use Rattle.heap_model.specs.PhasePlan.{cycle_phases, barriers}
use Rattle.heap_model.specs.declared.entry.Entry.{Entry}
use Rattle.heap_model.specs.declared.entry.Entry.TheVariants as entries

-- the entries up to the last one that passes the test, with that one; none where no entry passes
abbrev pub up_to_last : (Entry → Bool) → List Entry → List Entry
up_to_last test [] = []
up_to_last test (entry ∷ history) = if list_any test (entry ∷ history) then entry ∷ up_to_last test history else []

-- the entries after the last one that passes the test; all where no entry passes
abbrev pub after_last : (Entry → Bool) → List Entry → List Entry
after_last test [] = []
after_last test (entry ∷ history) = if list_any test (entry ∷ history) then after_last test history else entry ∷ history

-- the entry is a reply to this seat
abbrev pub is_reply_to : ℕ → Entry → Bool
is_reply_to number (entries.Said other command reply) = other == number
is_reply_to number _ = false

-- the entry begins a phase
abbrev pub begins_phase : Entry → Bool
begins_phase (entries.Advance phase) = true
begins_phase (entries.Ends cycle kept) = true
begins_phase _ = false

-- the entry begins a cycle: every seventh phase does
abbrev pub begins_cycle : Entry → Bool
begins_cycle (entries.Advance phase) = phase % cycle_phases == barriers
begins_cycle _ = false

-- the history up to the seat's last reply, which is empty where it had none
abbrev pub up_to_reply : ℕ → List Entry → List Entry
up_to_reply number history = up_to_last (is_reply_to number) history

-- what came since the seat's last reply, or since the opening
abbrev pub since_reply : ℕ → List Entry → List Entry
since_reply number history = after_last (is_reply_to number) history

-- the history up to the begin of the last cycle
abbrev pub up_to_cycle : List Entry → List Entry
up_to_cycle history = up_to_last begins_cycle history

-- what came since the begin of the last cycle
abbrev pub since_cycle : List Entry → List Entry
since_cycle history = after_last begins_cycle history
