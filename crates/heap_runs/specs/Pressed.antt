-- What a play is whose seats collect where a command that allocates is refused for want of space.
use Rattle.std.specs.Prelude.{◌≡◌, ℕ, Bool, false, List, [], ◌∷◌, ◌++◌}
use Rattle.heap_model.specs.declared.command.Command.{Command}
use Rattle.heap_model.specs.declared.command.Command.TheVariants.{New, Array}
use Rattle.heap_model.specs.declared.entry.Entry.{Entry}
use Rattle.heap_model.specs.declared.entry.Entry.TheVariants.{Said}
use Rattle.heap_model.specs.declared.heap.Heap.{Heap}
use Rattle.heap_model.specs.declared.reply.Reply.{Reply}
use Rattle.press_alloc.specs.Presses.{IsPressed}
use Rattle.press_alloc.specs.Refusals.{HasNoFragments, HasNoWords, HasCollected}
use Rattle.reply_text.specs.declared.history.History.{History}
use Rattle.script_text.specs.declared.script.Line.{Line}
use Rattle.script_text.specs.declared.script.Line.TheVariants as lines
use Rattle.script_text.specs.declared.script.Script.{Script}
use Rattle.heap_runs.specs.declared.playing.making.Allocating.{Allocating}
use Rattle.heap_runs.specs.declared.playing.making.Allocating.TheVariants.{Once, Pressed}
use Rattle.heap_runs.specs.Play.{ComesFirst, AreTurns, StandsForLine, StandForEach, IsPlayThat}
use Rattle.heap_runs.specs.PlayHeap.{PlayState, AnswersCall}

-- a call told what comes before its reply, and the reply
pub record TellsReply (old new : List Entry) (number : ℕ) (command : Command) (reply : Reply) : Type 0 where
  pub before : List Entry
  pub comes : ComesFirst old number command reply before
  pub told : new ≡ old ++ (before ++ Said number command reply ∷ [])

-- where a reply refuses space on one seat, all that is reached stands in the way, and a cycle began and ended since
pub record RefusesAtLast (heap : Heap) (old new : List Entry) (reply : Reply) : Type 0 where
  pub fragments : HasNoFragments heap new reply
  pub words : HasNoWords heap new reply
  pub cycle : HasCollected heap old new reply

-- what stands for a seat's line that allocates: what its one call told, or its three, and with a pace what turns of the collector told then
pub record StandsForPress (heap : Heap) (paced : Bool) (earlier : List Entry) (number : ℕ) (command : Command) (told : List Entry) : Type 0 where
  pub reply : Reply
  pub called : List Entry
  pub slack : List Entry
  pub pressed : IsPressed TellsReply earlier (earlier ++ called) number command reply
  pub refuses : RefusesAtLast heap earlier (earlier ++ called) reply
  pub turned : AreTurns slack
  pub unpaced : paced ≡ false → slack ≡ []
  pub all : told ≡ called ++ slack

-- what stands for a line of a script where seats collect when they are refused
abbrev pub StandsForPressedLine : Heap → Bool → List Entry → Line → List Entry → Type 0
StandsForPressedLine heap paced earlier (lines.Seat number (New d fields)) told = StandsForPress heap paced earlier number (New d fields) told
StandsForPressedLine heap paced earlier (lines.Seat number (Array d cells)) told = StandsForPress heap paced earlier number (Array d cells) told
StandsForPressedLine heap paced earlier line told = StandsForLine paced earlier line told

-- the history is a play of the script whose seats collect so, with a pace or without one
abbrev pub IsPressedPlay : Bool → Script → History → Type 0
IsPressedPlay paced script history = IsPlayThat (StandForEach (StandsForPressedLine script.heap paced) []) script history

-- what stands for a line of a script where seats allocate in this way
abbrev pub StandsByWay : Allocating → Heap → Bool → List Entry → Line → List Entry → Type 0
StandsByWay Once heap paced earlier line told = StandsForLine paced earlier line told
StandsByWay Pressed heap paced earlier line told = StandsForPressedLine heap paced earlier line told

-- a press of the command was made: one call of it, or three
pub record PressesCommand (old new : PlayState) (number : ℕ) (command : Command) (reply : Reply) : Type 0 where
  pub calls : IsPressed AnswersCall old new number command reply
  pub refuses : RefusesAtLast new.heap old.entries new.entries reply

-- the command was made in this way: by a press where it allocates and that is the way, and else by one call
abbrev pub MakesCommand : Allocating → PlayState → PlayState → ℕ → Command → Reply → Type 0
MakesCommand Once old new number command reply = AnswersCall old new number command reply
MakesCommand Pressed old new number (New d fields) reply = PressesCommand old new number (New d fields) reply
MakesCommand Pressed old new number (Array d cells) reply = PressesCommand old new number (Array d cells) reply
MakesCommand Pressed old new number command reply = AnswersCall old new number command reply
