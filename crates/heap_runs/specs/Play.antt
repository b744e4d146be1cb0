-- What a play is.
use Rattle.std.specs.Prelude.{◌≡◌, ◌≢◌, ℕ, ◌+◌, ◌*◌, ◌<◌, ◌≤◌, Bool, true, false, ◌⊎◌, List, [], ◌∷◌, ◌++◌, length, drop, take, IsSomeAnd}
use Rattle.std.specs.List.{AllByRecursion, flat_map, list_any, range_with_len}
use Rattle.heap_model.specs.declared.command.Command.{Command}
use Rattle.heap_model.specs.declared.command.Command.TheVariants.{Collect}
use Rattle.heap_model.specs.declared.command.TurnCommand.{TurnCommand}
use Rattle.heap_model.specs.declared.command.TurnCommand.TheVariants as orders
use Rattle.heap_model.specs.declared.entry.Entry.{Entry}
use Rattle.heap_model.specs.declared.entry.Entry.TheVariants.{Said, Answers, Advance, Frees, Returns, Swings, Ends, Turned}
use Rattle.heap_model.specs.declared.reply.Reply.{Reply}
use Rattle.heap_model.specs.declared.reply.Reply.TheVariants as replies
use Rattle.heap_model.specs.declared.reply.TurnReply.{TurnReply}
use Rattle.heap_model.specs.declared.reply.TurnReply.TheVariants as results
use Rattle.heap_model.specs.PhasePlan.{cycle_phases}
use Rattle.heap_model.specs.account.PhaseCounts.{phase, last_answer}
use Rattle.heap_model.specs.account.Space.{taken_of, spent_of, words_granted, words_returned}
use Rattle.heap_model.specs.account.Windows.{begins_cycle}
use Rattle.heap_model.specs.calls.SeatCalls.{ComesBefore, leave_entries}
use Rattle.script_text.specs.declared.script.Form.TheVariants as forms
use Rattle.script_text.specs.declared.script.Line.{Line}
use Rattle.script_text.specs.declared.script.Line.TheVariants as lines
use Rattle.script_text.specs.declared.script.Script.{Script}
use Rattle.reply_text.specs.declared.history.History.{History}
use Rattle.log_merge.specs.Legal.{IsLegalHistory}

-- the entry tells a step of the collector that ends no cycle
abbrev pub tells_step : Entry → Bool
tells_step (Advance p) = true
tells_step (Frees count) = true
tells_step (Returns count) = true
tells_step (Swings id) = true
tells_step _ = false

-- the entry tells a turn of the collector: such a step, or the end of a cycle
abbrev pub tells_turn : Entry → Bool
tells_turn (Ends cycle kept) = true
tells_turn entry = tells_step entry

-- steps of the collector told them all
abbrev pub AreSteps : List Entry → Type 0
AreSteps told = AllByRecursion (λ entry. tells_step entry ≡ true) told

-- turns of the collector told them all
abbrev pub AreTurns : List Entry → Type 0
AreTurns told = AllByRecursion (λ entry. tells_turn entry ≡ true) told

-- the last of them tells that the cycle has ended
abbrev pub EndsInCycle : ℕ → List Entry → Type 0
EndsInCycle cycle told = (before : List Entry) × (kept : ℕ) × (told ≡ before ++ Ends cycle kept ∷ [])

-- what is told while a seat collects: its answers to the phases that begin, and the collector's steps and ends of cycles
abbrev pub TellsInCollect : ℕ → Entry → Type 0
TellsInCollect number (Answers other p) = other ≡ number
TellsInCollect number (Ends cycle kept) = Unit {0}
TellsInCollect number entry = tells_step entry ≡ true

-- it is the first cycle that begins at this phase or behind it
abbrev pub IsFirstFrom : ℕ → ℕ → Type 0
IsFirstFrom p cycle = (p ≤ cycle_phases * cycle) × (cycle_phases * cycle < p + cycle_phases)

-- a collect that began at this phase and tells a cycle tells the first that began no earlier, whose end was told last before
abbrev pub TellsFirstCycle : ℕ → Reply → List Entry → Type 0
TellsFirstCycle p (replies.Cycle cycle) before = IsFirstFrom p cycle × EndsInCycle cycle before
TellsFirstCycle p reply before = Unit {0}

-- what comes before the reply to a seat's collect that began at this phase
pub record ComesInCollect (number p : ℕ) (reply : Reply) (before : List Entry) : Type 0 where
  pub told : AllByRecursion (TellsInCollect number) before
  pub first : TellsFirstCycle p reply before

-- what comes before the reply to another command, by what its seat had of its own and had answered last after the earlier entries
pub record ComesInCall (earlier : List Entry) (number : ℕ) (command : Command) (reply : Reply) (before : List Entry) : Type 0 where
  pub unborn : ℕ
  pub had : spent_of number earlier + unborn ≡ taken_of number earlier
  pub comes : ComesBefore number unborn (last_answer number earlier) command reply before

-- what comes before the reply to a command of a seat, behind the earlier entries
pub record ComesFirst (earlier : List Entry) (number : ℕ) (command : Command) (reply : Reply) (before : List Entry) : Type 0 where
  pub once : command ≢ Collect → ComesInCall earlier number command reply before
  pub collects : command ≡ Collect → ComesInCollect number (phase earlier) reply before

-- what stands for a seat's line behind the earlier entries: what comes before its reply, the reply, and with a pace what turns of the collector told then
pub record StandsForCall (paced : Bool) (earlier : List Entry) (number : ℕ) (command : Command) (told : List Entry) : Type 0 where
  pub before : List Entry
  pub reply : Reply
  pub slack : List Entry
  pub comes : ComesFirst earlier number command reply before
  pub turned : AreTurns slack
  pub unpaced : paced ≡ false → slack ≡ []
  pub all : told ≡ (before ++ Said number command reply ∷ []) ++ slack

-- what turns of the collector told for its command, as the reply says: as many turns, none of which waited, or fewer and one that waited;
-- or steps up to the first turn that ended a cycle, or waited
abbrev pub TellsTurns : TurnCommand → TurnReply → List Entry → Type 0
TellsTurns (orders.Turns n) results.Done told = AreTurns told × (length told ≤ n)
TellsTurns (orders.Turns n) (results.Waits number answer p) told = AreTurns told × (length told < n)
TellsTurns (orders.Turns n) (results.Cycle cycle) told = ⊥
TellsTurns orders.Cycle results.Done told = ⊥
TellsTurns orders.Cycle (results.Waits number answer p) told = AreSteps told
TellsTurns orders.Cycle (results.Cycle cycle) told = (steps : List Entry) × (kept : ℕ) × AreSteps steps × (told ≡ steps ++ Ends cycle kept ∷ [])

-- what stands for a line for the collector: what its turns told, and the reply
pub record StandsForTurns (command : TurnCommand) (told : List Entry) : Type 0 where
  pub before : List Entry
  pub reply : TurnReply
  pub tells : TellsTurns command reply before
  pub all : told ≡ before ++ Turned command reply ∷ []

-- what stands for a line of a script behind the earlier entries
abbrev pub StandsForLine : Bool → List Entry → Line → List Entry → Type 0
StandsForLine paced earlier (lines.Seat number command) told = StandsForCall paced earlier number command told
StandsForLine paced earlier (lines.Turns command) told = StandsForTurns command told

-- behind the earlier entries there stands what stands for each of these lines, one after another, and nothing else
abbrev pub StandForEach : (List Entry → Line → List Entry → Type 0) → List Entry → List Line → List Entry → Type 0
StandForEach Stands earlier [] told = told ≡ []
StandForEach Stands earlier (line ∷ more) told =
    (here : List Entry) × (rest : List Entry) × Stands earlier line here × StandForEach Stands (earlier ++ here) more rest × (told ≡ here ++ rest)

-- so they do where each command is made once
abbrev pub StandForLines : Bool → List Entry → List Line → List Entry → Type 0
StandForLines paced earlier lines told = StandForEach (StandsForLine paced) earlier lines told

-- each seat gives back what it has left over, if anything, and leaves, in the order of their numbers
abbrev pub AreLeaves : ℕ → List Entry → Type 0
AreLeaves seats entries = (left : ℕ → ℕ) × (entries ≡ flat_map (λ seat. leave_entries seat (left seat)) (range_with_len 0 seats))

-- steps of the collector up to the end of a cycle, which began among them or had begun before
pub record ReachesCycleEnd (began : Bool) (turned : List Entry) : Type 0 where
  pub steps : List Entry
  pub own : AreSteps steps
  pub begins : list_any begins_cycle steps ≡ began
  pub cycle : ℕ
  pub kept : ℕ
  pub ends : turned ≡ steps ++ Ends cycle kept ∷ []

-- the cycle under way came to its end, where there was one; then a cycle began and ended
pub record IsLastCycle (turned : List Entry) : Type 0 where
  pub under_way : List Entry
  pub whole : List Entry
  pub first : (under_way ≡ []) ⊎ ReachesCycleEnd false under_way
  pub last : ReachesCycleEnd true whole
  pub both : turned ≡ under_way ++ whole

-- the entries before the mark answer the script's lines, and behind it the seats leave, and then a last cycle is made
pub record IsParted (Answered : List Line → List Entry → Type 0) (script : Script) (front behind : List Entry) : Type 0 where
  pub answered : Answered script.lines front
  pub leaving : List Entry
  pub turned : List Entry
  pub leaves : AreLeaves script.heap.seats leaving
  pub cycle : IsLastCycle turned
  pub behind_is : behind ≡ leaving ++ turned

-- the history is a play that answers the script's lines so: it has the script's version, it is legal and parted by its mark, and at its end no fragment and no spine word is in use
pub record IsPlayThat (Answered : List Line → List Entry → Type 0) (script : Script) (history : History) : Type 0 where
  pub version : history.version ≡ script.version
  pub form : history.form ≡ forms.Play
  pub heap : history.heap ≡ script.heap
  pub legal : IsLegalHistory history
  pub none_used : history.end_used ≡ 0
  pub all_returned : words_returned history.entries ≡ words_granted history.entries
  pub parted : IsSomeAnd history.mark (λ mark. IsParted Answered script (take mark.before history.entries) (drop mark.before history.entries))

-- the history is a play of the script, with a pace or without one: its entries stand for the lines, in order and each once
abbrev pub IsPlay : Bool → Script → History → Type 0
IsPlay paced script history = IsPlayThat (StandForLines paced []) script history
