-- What the seats and the collector may do and show of phases.
use Rattle.std.specs.Prelude.{◌≡◌, ◌≢◌, ℕ, ◌+◌, ◌%◌, ◌<◌, Bool, true, false, List, ◌++◌}
use Rattle.heap_model.specs.Behind.{behind_of}
use Rattle.heap_model.specs.PhasePlan.{cycle_phases, rest}
use Rattle.heap_model.specs.declared.behind.Behind.{Behind}
use Rattle.heap_model.specs.declared.heap.Heap.{Heap}
use Rattle.heap_model.specs.declared.command.Command.{Command}
use Rattle.heap_model.specs.declared.command.Command.TheVariants as commands
use Rattle.heap_model.specs.declared.reply.Reply.{Reply}
use Rattle.heap_model.specs.declared.reply.Reply.TheVariants as replies
use Rattle.heap_model.specs.declared.reply.TurnReply.{TurnReply}
use Rattle.heap_model.specs.declared.reply.TurnReply.TheVariants as turns
use Rattle.heap_model.specs.declared.entry.Entry.{Entry}
use Rattle.heap_model.specs.declared.entry.Entry.TheVariants as entries
use Rattle.heap_model.specs.account.Windows.{up_to_reply, since_reply}
use Rattle.heap_model.specs.account.PhaseCounts.{has_left, AllAnswered, HasEnded, JustEnded, BeganSince}
pub use Rattle.heap_model.specs.account.PhaseCounts.{phase, last_answer}

-- a seat answers the phase, which is the next one for it
abbrev pub AnswersPhase : List Entry → Entry → Type 0
AnswersPhase before (entries.Answers number p) = (p ≡ phase before) × (p ≡ last_answer number before + 1)
AnswersPhase before _ = Unit {0}

-- the next phase begins once all have answered; a multiple of seven is begun by the end of a cycle alone
abbrev pub BeginsPhase : Heap → List Entry → Entry → Type 0
BeginsPhase heap before (entries.Advance p) = (p ≡ phase before + 1) × (p % cycle_phases ≢ rest) × AllAnswered heap before
BeginsPhase heap before _ = Unit {0}

-- the seat has not left, `answer` is its last answer, and `p` is the phase
pub record IsBehind (number answer p : ℕ) (history : List Entry) : Type 0 where
  pub present : has_left number history ≡ false
  pub answered : last_answer number history ≡ answer
  pub here : phase history ≡ p

-- the other seat was behind in this way at some time since this seat's last reply, right after that at the earliest
abbrev pub WasBehind : ℕ → ℕ → ℕ → ℕ → List Entry → Type 0
WasBehind number other answer p history =
    (later rest : List Entry) × (since_reply number history ≡ later ++ rest) × IsBehind other answer p (up_to_reply number history ++ later)

-- in a play the other seat is behind now; in a run it was, by one phase, at some time since this seat's last reply
abbrev pub SawBehind : Bool → List Entry → ℕ → Behind → Type 0
SawBehind true before number other = IsBehind other.seat other.answered other.phase before
SawBehind false before number other = (other.phase ≡ other.answered + 1) × WasBehind number other.seat other.answered other.phase before

-- the collect of a seat shows that it waits for this one: another one of the heap, that it saw behind
abbrev pub ShowsWait : Heap → Bool → List Entry → ℕ → Behind → Type 0
ShowsWait heap play before number other = (other.seat < heap.seats) × (other.seat ≢ number) × (other.answered < other.phase) × SawBehind play before number other

-- a poll shows the phase that its seat has answered; a collect a cycle begun and ended since its last reply, or another seat behind
abbrev pub ShowsPhases : Heap → Bool → List Entry → ℕ → Command → Reply → Type 0
ShowsPhases heap play before number commands.Poll (replies.Phase p) = (p ≡ phase before) × (p ≡ last_answer number before)
ShowsPhases heap play before number commands.Collect (replies.Cycle cycle) = HasEnded cycle before × BeganSince number cycle before
ShowsPhases heap play before number commands.Collect (replies.Waits other answer p) = ShowsWait heap play before number (behind_of other answer p)
ShowsPhases heap play before number _ _ = Unit {0}

-- a command of the collector shows that this seat of the heap is waited for, which is behind
abbrev pub ShowsTurnWait : Heap → List Entry → Behind → Type 0
ShowsTurnWait heap before other = (other.seat < heap.seats) × (other.answered < other.phase) × IsBehind other.seat other.answered other.phase before

-- the answer to a command of the collector shows the cycle that has just ended, a seat that is behind, or nothing
abbrev pub TurnShows : Heap → List Entry → TurnReply → Type 0
TurnShows heap before turns.Done = Unit {0}
TurnShows heap before (turns.Cycle cycle) = JustEnded cycle before
TurnShows heap before (turns.Waits other answer p) = ShowsTurnWait heap before (behind_of other answer p)

-- what the entry shows of phases is right
abbrev pub ShowsRightly : Heap → Bool → List Entry → Entry → Type 0
ShowsRightly heap play before (entries.Said number command reply) = ShowsPhases heap play before number command reply
ShowsRightly heap play before (entries.Turned command reply) = TurnShows heap before reply
ShowsRightly heap play before _ = Unit {0}
