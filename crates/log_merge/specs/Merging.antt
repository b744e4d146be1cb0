-- In which order the entries of logs are put together.
use Rattle.std.specs.Prelude.{◌≡◌, ◌≢◌, ℕ, ◌<◌, Bool, if◌then◌else◌, nat_lt, List, [], ◌∷◌, ◌++◌, drop, filter, length, slice_index_or}
use Rattle.heap_model.specs.declared.heap.Heap.{Heap}
use Rattle.heap_model.specs.declared.id.Value.{Value}
use Rattle.heap_model.specs.declared.command.Command.TheVariants.{Get, Set, Cas}
use Rattle.heap_model.specs.declared.reply.Reply.TheVariants.{Got, Was, Now}
use Rattle.heap_model.specs.declared.entry.Entry.{Entry}
use Rattle.heap_model.specs.declared.entry.Entry.TheVariants.{Said}
use Rattle.heap_model.specs.Logs.{logs_of}
use Rattle.heap_model.specs.graph.Graph.{Graph}
use Rattle.heap_model.specs.graph.Objects.{register_value}
use Rattle.heap_model.specs.graph.Legal.{Accepts, IsObjectLegal}
use Rattle.heap_model.specs.account.Effects.{is_of}
use Rattle.heap_model.specs.account.Noting.{is_collectors}
use Rattle.heap_model.specs.account.Cycles.{graph_of}

-- in some order, the logs are object-legal
pub record HasOrder (heap : Heap) (logs : List (List Entry)) : Type 0 where
  pub history : List Entry
  pub legal : IsObjectLegal heap history
  pub kept : logs ≡ logs_of heap history

-- the entry stands in the log of this number: a seat's, or the collector's behind them
abbrev pub is_in_log : Heap → ℕ → Entry → Bool
is_in_log heap number entry = if nat_lt number heap.seats then is_of number entry else is_collectors entry

-- what of the log is among these entries
abbrev pub part_of : Heap → ℕ → List Entry → List Entry
part_of heap number entries = filter (is_in_log heap number) entries

-- what is left of the log behind these entries
abbrev pub left_of : Heap → List (List Entry) → List Entry → ℕ → List Entry
left_of heap logs before number = drop (length (part_of heap number before)) (slice_index_or logs number [])

-- the entry found this stamp in the value's cell i and left it there: it is a get, or a cas that answered Now
abbrev pub IsGetOf : Graph → Entry → Value → ℕ → ℕ → Type 0
IsGetOf g (Said seat (Get d r j) (Got found t)) value i stamp = (register_value g seat r ≡ value) × (j ≡ i) × (t ≡ stamp)
IsGetOf g (Said seat (Cas r j a v) (Now t)) value i stamp = (register_value g seat r ≡ value) × (j ≡ i) × (t ≡ stamp)
IsGetOf g _ value i stamp = ⊥

-- the entry found this stamp in the value's cell i and replaced it: it is a set, or a cas that answered Was
abbrev pub Writes : Graph → Entry → Value → ℕ → ℕ → Type 0
Writes g (Said seat (Set r j v) (Was t)) value i stamp = (register_value g seat r ≡ value) × (j ≡ i) × (t ≡ stamp)
Writes g (Said seat (Cas r j a v) (Was t)) value i stamp = (register_value g seat r ≡ value) × (j ≡ i) × (t ≡ stamp)
Writes g _ value i stamp = ⊥

-- after the front of a log, its rest has an entry that finds the stamp in the value's cell i and leaves it there
pub record HasGet (heap : Heap) (front rest : List Entry) (value : Value) (i stamp : ℕ) : Type 0 where
  pub earlier : List Entry
  pub entry : Entry
  pub later : List Entry
  pub parted : rest ≡ earlier ++ entry ∷ later
  pub gets : IsGetOf (graph_of heap (front ++ earlier)) entry value i stamp

-- another log than this one has yet to get the stamp
pub record HasPendingGet (heap : Heap) (logs : List (List Entry)) (before : List Entry) (number : ℕ) (value : Value) (i stamp : ℕ) : Type 0 where
  pub other : ℕ
  pub apart : other ≢ number
  pub gets : HasGet heap (part_of heap other before) (left_of heap logs before other) value i stamp

-- no other log has yet to get the stamp that the entry replaces, if it replaces one
abbrev pub WaitsForNone : Heap → List (List Entry) → List Entry → ℕ → Entry → Type 0
WaitsForNone heap logs before number entry = (value : Value) (i stamp : ℕ) → Writes (graph_of heap before) entry value i stamp → ¬ HasPendingGet heap logs before number value i stamp

-- the entry of this log may stand behind these entries
pub record IsReady (heap : Heap) (logs : List (List Entry)) (before : List Entry) (number : ℕ) (entry : Entry) : Type 0 where
  pub accepted : Accepts (graph_of heap before) entry
  pub waits : WaitsForNone heap logs before number entry

-- the entry is the first that is left of the log
pub record IsNext (heap : Heap) (logs : List (List Entry)) (before : List Entry) (number : ℕ) (entry : Entry) : Type 0 where
  pub others : List Entry
  pub left : left_of heap logs before number ≡ entry ∷ others

-- the entry is next in its log and ready, and in no lower log the next entry is ready
pub record IsFirstReady (heap : Heap) (logs : List (List Entry)) (before : List Entry) (entry : Entry) : Type 0 where
  pub number : ℕ
  pub next : IsNext heap logs before number entry
  pub ready : IsReady heap logs before number entry
  pub lowest : (lower : ℕ) (other : Entry) → lower < number → IsNext heap logs before lower other → ¬ IsReady heap logs before lower other

-- each entry is the first ready one behind those before it
abbrev pub TakesFirstReady : Heap → List (List Entry) → List Entry → Type 0
TakesFirstReady heap logs history = (before rest : List Entry) (entry : Entry) → history ≡ before ++ entry ∷ rest → IsFirstReady heap logs before entry
