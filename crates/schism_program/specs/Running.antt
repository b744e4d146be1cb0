-- What a run of a script comes to.
use Rattle.std.specs.Prelude.{◌≡◌, ℕ, ◌<◌, ◌==◌, Bool, true, false, if◌then◌else◌, List, [], ◌∷◌, ◌++◌, None}
use Rattle.std.specs.List.{AllByRecursion, flat_map}
use Rattle.heap_model.specs.declared.command.Command.{Command}
use Rattle.heap_model.specs.declared.command.Command.TheVariants.{Leave}
use Rattle.heap_model.specs.declared.entry.Entry.{Entry}
use Rattle.heap_model.specs.declared.heap.Heap.{Heap}
use Rattle.heap_model.specs.Logs.{logs_of, KeepsLogs}
use Rattle.heap_model.specs.account.Account.{IsLegal}
use Rattle.heap_model.specs.account.Space.{words_granted, words_returned}
use Rattle.heap_model.specs.account.Turned.{is_of_heap}
use Rattle.heap_model.specs.runs.Endings.{EndsBehindLeaves, EndsEmpty}
use Rattle.heap_model.specs.runs.Told.{commands_told}
use Rattle.script_text.specs.declared.preamble.Preamble.{Preamble}
use Rattle.script_text.specs.declared.script.Form.TheVariants as forms
use Rattle.script_text.specs.declared.script.Line.{Line}
use Rattle.script_text.specs.declared.script.Line.TheVariants as lines
use Rattle.script_text.specs.declared.script.Script.{Script}
use Rattle.script_text.specs.Grammar.{IsScript}
use Rattle.script_text.specs.Text.{text_of}
use Rattle.reply_text.specs.declared.history.History.{History}
use Rattle.reply_text.specs.History.{history_lines}
use Rattle.log_merge.specs.Legal.{IsLegalHistory}
use Rattle.heap_table.specs.Closed.{ClosedTable}
use Rattle.heap_runs.specs.Finishing.{EndsUnused}
use Rattle.locked_heap.specs.declared.ran.LockedRan.{LockedRan}

-- the command of the line, where the line is the seat's
abbrev pub line_commands : ℕ → Line → List Command
line_commands number (lines.Seat other command) = if other == number then command ∷ [] else []
line_commands number (lines.Turns command) = []

-- the commands of the seat's lines, in their order
abbrev pub seat_commands : ℕ → List Line → List Command
seat_commands number script = flat_map (line_commands number) script

-- behind one lock the order itself is legal in full as a run, and its last cycle is the first that began behind every leave; else some order of the same entries, which keeps each log's
-- order, is legal in full, and its last cycle began behind every leave
abbrev pub IsWholeRun : Bool → Heap → List Entry → Type 0
IsWholeRun true heap entries = IsLegal heap false entries × EndsEmpty heap entries
IsWholeRun false heap entries = (other : List Entry) × KeepsLogs entries other × IsLegal heap false other × EndsBehindLeaves heap other

-- the history is that of a run of the script, in its version: each seat answers its own lines and leaves, and at the end nothing is in use
pub record IsRunOf (locked : Bool) (script : Script) (history : History) : Type 0 where
  pub version : history.version ≡ script.version
  pub form : history.form ≡ forms.Run
  pub heap : history.heap ≡ script.heap
  pub unmarked : history.mark ≡ None
  pub legal : IsLegalHistory history
  pub whole : IsWholeRun locked history.heap history.entries
  -- no entry answers a command of the collector
  pub unturned : AllByRecursion (λ entry. is_of_heap entry ≡ true) history.entries
  -- the lines of a seat are answered in their order, each once, and behind them it leaves
  pub commands : (number : ℕ) → number < script.heap.seats → commands_told number history.entries ≡ seat_commands number script.lines ++ Leave ∷ []
  pub none_used : history.end_used ≡ 0
  pub all_returned : words_returned history.entries ≡ words_granted history.entries

-- the history that tells what a run came to, behind the first two lines of its script
abbrev pub run_history : Preamble → LockedRan → History
run_history front ran = record { version = front.version; form = forms.Run; heap = front.heap; entries = ran.history.items; mark = None; end_used = ran.end_used }

-- the text tells a run of the input's script
pub record Runs (locked : Bool) (input text : List ℕ) : Type 0 where
  pub script : Script
  pub history : History
  pub spelled : IsScript forms.Run input script
  pub ran : IsRunOf locked script history
  pub rendered : text ≡ text_of (history_lines history)

-- the entries of the history are those of the closed table's logs, whose words stand for a legal history of them at the end of which nothing is in use
pub record IsOfTable (history : History) (closed : ClosedTable) : Type 0 where
  pub heap_is : closed.heap ≡ history.heap
  pub logs_are : closed.logs ≡ logs_of history.heap history.entries
  pub unused : EndsUnused closed

-- the history tells a run of the script, without a lock, on the table that was closed
pub record TellsTable (script : Script) (history : History) (closed : ClosedTable) : Type 0 where
  pub ran : IsRunOf false script history
  pub tabled : IsOfTable history closed

-- the text tells a run of the input's script, without a lock, on the table that was closed
pub record RunsOnTable (input text : List ℕ) (closed : ClosedTable) : Type 0 where
  pub script : Script
  pub history : History
  pub spelled : IsScript forms.Run input script
  pub ran : IsRunOf false script history
  pub rendered : text ≡ text_of (history_lines history)
  pub tabled : IsOfTable history closed

-- the history that tells a run of these entries, at whose end nothing is in use, behind the first two lines of its script
abbrev pub merged_history : Preamble → List Entry → History
merged_history front entries = record { version = front.version; form = forms.Run; heap = front.heap; entries = entries; mark = None; end_used = 0 }
