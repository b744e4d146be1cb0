-- What contracts see of the heap over the machine, and that its calls and turns are the machine's.
use Rattle.std.specs.Prelude.{◌≡◌, ◌≢◌, ℕ, zero, suc, ◌⊎◌, List, [], ◌++◌, None}
use Rattle.heap_model.specs.declared.heap.Heap.{Heap}
use Rattle.heap_model.specs.declared.command.Command.{Command}
use Rattle.heap_model.specs.declared.command.Command.TheVariants.{Collect}
use Rattle.heap_model.specs.declared.entry.Entry.{Entry}
use Rattle.heap_model.specs.declared.reply.Reply.{Reply}
use Rattle.heap_model.specs.declared.calls.collect.Inner.{Inner}
use Rattle.heap_model.specs.account.Turned.{without_turned, AllAnswerRightly}
use Rattle.core_machine.specs.machine.InnerCalls.{PlaysInner, inner_entries}
use Rattle.core_machine.specs.machine.Machine.{State, seat_at, Turns, Can, state_after, entries}
use Rattle.core_machine.specs.machine.Opening.{IsOpening}
use Rattle.core_rule.specs.runs.Laws.{OneCallAtATime}
use Rattle.core_rule.specs.turns.TurnsLeft.{turns_left}
use Rattle.heap_record.specs.Recorded.{Recorded, EventsLeadTo, MakesCall}
use Rattle.heap_runs.specs.PlayHeap.{PlayState}

-- what contracts see of it as a heap that is played on: the entries are the machine's, with what the collector's commands were answered between them
abbrev pub play_state_of : Recorded → PlayState
play_state_of whole = record {
  heap = whole.machine.heap;
  entries = whole.listed;
  spare = whole.spare;
  turns = whole.turns;
  last_turn = whole.last_turn;
  turns_left = turns_left whole.machine.heap whole.machine.state;
}

-- the same with the machine's entries alone
abbrev pub run_state_of : Recorded → PlayState
run_state_of whole = record (play_state_of whole) { entries = whole.history }

-- the machine's entries are those that answer no command of the collector, and each of the others shows what is so after those before it
pub record NotesRightly (whole : Recorded) : Type 0 where
  pub same : without_turned whole.listed ≡ whole.history
  pub right : AllAnswerRightly whole.machine.heap [] whole.listed

-- whole calls, one after another, and turns between them led to this state, with these entries, and no seat has a call in flight
abbrev pub IsBetweenCalls : Heap → State → List Entry → Type 0
IsBetweenCalls heap state told = EventsLeadTo OneCallAtATime heap state told

-- one inner call of the seat was made, or one turn, which told these entries
abbrev pub MovesOn : Heap → ℕ → State → State → List Entry → Type 0
MovesOn heap number old new told =
    ((inner : Inner) × PlaysInner heap old new number inner × (told ≡ inner_entries heap old.words number (seat_at old number).answered inner))
    ⊎ (Can heap old Turns × (new ≡ state_after heap old Turns) × (told ≡ entries heap old Turns))

-- so many of them were made, one after another
abbrev pub MovesAll : ℕ → Heap → ℕ → State → State → List Entry → Type 0
MovesAll zero heap number old new told = (new ≡ old) × (told ≡ [])
MovesAll (suc n) heap number old new told =
    (now : State) × (before : List Entry) × (more : List Entry) × MovesAll n heap number old now before × MovesOn heap number now new more × (told ≡ before ++ more)

-- what the seat and the collector did is the machine's: inner calls of the seat and turns there, with their entries
pub record CollectsMachine (old new : Recorded) (number : ℕ) : Type 0 where
  pub same_heap : new.machine.heap ≡ old.machine.heap
  pub moves : ℕ
  pub told : List Entry
  pub makes : MovesAll moves old.machine.heap number old.machine.state new.machine.state told
  pub noted : new.history ≡ old.history ++ told
  pub listed : new.listed ≡ old.listed ++ told

-- a call is the machine's: a collect is made of inner calls and turns, and every other command is one whole call there
pub record CallsMachine (old new : Recorded) (number : ℕ) (command : Command) (reply : Reply) : Type 0 where
  pub once : command ≢ Collect → MakesCall old new number command reply
  pub collects : command ≡ Collect → CollectsMachine old new number

-- the heap has just been opened: nothing was called, and no turn was made
pub record IsFresh (heap : Heap) (whole : Recorded) : Type 0 where
  pub of_heap : whole.machine.heap ≡ heap
  pub opening : IsOpening heap whole.machine.state
  pub no_entries : whole.history ≡ []
  pub none_listed : whole.listed ≡ []
  pub no_turns : whole.turns ≡ 0
  pub no_last_turn : whole.last_turn ≡ None
