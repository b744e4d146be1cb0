-- The phase, the answers to it, and the cycles that began and ended.
use Rattle.std.specs.Prelude.{◌≡◌, ℕ, ◌+◌, ◌*◌, ◌==◌, ◌<◌, Bool, false, List, [], ◌∷◌, ◌++◌, Contains}
use Rattle.std.specs.List.{list_any}
use Rattle.heap_model.specs.PhasePlan.{cycle_phases, barriers}
use Rattle.heap_model.specs.declared.heap.Heap.{Heap}
use Rattle.heap_model.specs.declared.command.Command.TheVariants as commands
use Rattle.heap_model.specs.declared.entry.Entry.{Entry}
use Rattle.heap_model.specs.declared.entry.Entry.TheVariants as entries
use Rattle.heap_model.specs.account.Space.{total, total_of}
use Rattle.heap_model.specs.account.Windows.{since_reply}

-- the phase: how many phases were begun, since the opening has phase 0
abbrev pub phase : List Entry → ℕ
phase history = total (λ e. e.phases) history

-- the phase that the seat answered last: how many answers it gave, since it answers each phase once
abbrev pub last_answer : ℕ → List Entry → ℕ
last_answer number history = total_of number (λ e. e.answers) history

-- the entry is the seat's leave
abbrev pub is_leave_of : ℕ → Entry → Bool
is_leave_of number (entries.Said other commands.Leave reply) = other == number
is_leave_of number _ = false

-- the seat has left
abbrev pub has_left : ℕ → List Entry → Bool
has_left number history = list_any (is_leave_of number) history

-- each seat that has not left has answered the phase
abbrev pub AllAnswered : Heap → List Entry → Type 0
AllAnswered heap history = (number : ℕ) → number < heap.seats → has_left number history ≡ false → last_answer number history ≡ phase history

-- the cycle has ended
abbrev pub HasEnded : ℕ → List Entry → Type 0
HasEnded cycle history = (kept : ℕ) × Contains history (entries.Ends cycle kept)

-- the last entry ended the cycle
abbrev pub JustEnded : ℕ → List Entry → Type 0
JustEnded cycle history = (earlier : List Entry) × (kept : ℕ) × (history ≡ earlier ++ entries.Ends cycle kept ∷ [])

-- the cycle has begun since the seat's last reply
abbrev pub BeganSince : ℕ → ℕ → List Entry → Type 0
BeganSince number cycle history = Contains (since_reply number history) (entries.Advance (cycle_phases * cycle + barriers))
