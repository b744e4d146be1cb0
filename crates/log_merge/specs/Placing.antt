-- What a merge has placed, and what it knows of the rest.
use Rattle.std.specs.Prelude.{◌≡◌, ℕ, ◌+◌, ◌<◌, List, ◌++◌, length, count_by, sum_by, slice_index, Option, None}
use Rattle.std.specs.List.{range_with_len}
use Rattle.heap_model.specs.declared.heap.Heap.{Heap}
use Rattle.heap_model.specs.declared.command.Command.TheVariants.{Get, Set, Cas}
use Rattle.heap_model.specs.declared.reply.Reply.TheVariants.{Got, Was, Now}
use Rattle.heap_model.specs.declared.entry.Entry.{Entry}
use Rattle.heap_model.specs.declared.entry.Entry.TheVariants.{Said}
use Rattle.heap_model.specs.Logs.{logs_of}
use Rattle.heap_model.specs.graph.Objects.{register_value}
use Rattle.heap_model.specs.graph.Graph.{Graph}
use Rattle.heap_model.specs.graph.Legal.{IsObjectLegal}
use Rattle.heap_model.specs.account.Cycles.{graph_of}
use Rattle.log_merge.specs.declared.merging.merger.Merger.{Merger}
use Rattle.log_merge.specs.declared.merging.pending_gets.PendingGet.{PendingGet}
use Rattle.log_merge.specs.FewSets.{HaveFewSets}
use Rattle.log_merge.specs.Merging.{part_of, left_of, IsNext, IsReady, TakesFirstReady}
use Rattle.log_merge.specs.PendingGets.{is_kind, pending_count}
use Rattle.log_merge.specs.Registers.{kind_of, gets_in, registers_of}

-- the stamp that the entry replaces, and where, if it is a set or a cas that did
abbrev pub replaced_by : Graph → Entry → Option PendingGet
replaced_by g (Said seat (Set r i v) (Was stamp)) = kind_of (register_value g seat r) i stamp
replaced_by g (Said seat (Cas r i a v) (Was stamp)) = kind_of (register_value g seat r) i stamp
replaced_by g _ = None

-- the stamp that the entry gets, and where, if it is a get that found a cell, or a cas that left it
abbrev pub got_by : Graph → Entry → Option PendingGet
got_by g (Said seat (Get d r i) (Got value stamp)) = kind_of (register_value g seat r) i stamp
got_by g (Said seat (Cas r i a v) (Now stamp)) = kind_of (register_value g seat r) i stamp
got_by g _ = None

-- how many gets of a kind the log still has
abbrev pub count_in : Heap → List (List Entry) → List Entry → PendingGet → ℕ → ℕ
count_in heap logs placed kind number = count_by (is_kind kind) (gets_in (registers_of (part_of heap number placed)) (left_of heap logs placed number))

-- how many all logs still have
abbrev pub count_left : Heap → List (List Entry) → List Entry → PendingGet → ℕ
count_left heap logs placed kind = sum_by (count_in heap logs placed kind) (range_with_len 0 (heap.seats + 1))

-- what is left of the logs, in some order, is legal behind what was placed; and each log has few sets
pub record IsCompletion (heap : Heap) (logs : List (List Entry)) (placed rest : List Entry) : Type 0 where
  pub legal : IsObjectLegal heap (placed ++ rest)
  pub kept : logs ≡ logs_of heap (placed ++ rest)
  pub few : HaveFewSets logs

-- what was placed is the first of a merge of the logs, and the rest is known
pub record IsMerging (logs : List (List Entry)) (merger : Merger) : Type 0 where
  pub rest : List Entry
  pub completion : IsCompletion merger.heap logs merger.placed.items rest
  pub graph : merger.graph ≡ graph_of merger.heap merger.placed.items
  pub counted : length merger.counts.items ≡ length logs
  pub counts : (number : ℕ) → number < length logs → slice_index merger.counts.items number ≡ length (part_of merger.heap number merger.placed.items)
  pub pending : (kind : PendingGet) → pending_count merger.pending kind ≡ count_left merger.heap logs merger.placed.items kind
  pub first : TakesFirstReady merger.heap logs merger.placed.items

-- the next entry of the log isn't ready
abbrev pub IsStuck : List (List Entry) → Merger → ℕ → Type 0
IsStuck logs merger number = (entry : Entry) → IsNext merger.heap logs merger.placed.items number entry → ¬ IsReady merger.heap logs merger.placed.items number entry

-- none of the first logs is ready
abbrev pub AreStuck : List (List Entry) → Merger → ℕ → Type 0
AreStuck logs merger count = (number : ℕ) → number < count → IsStuck logs merger number

-- how many entries are left of all logs
abbrev pub left_count : List (List Entry) → Merger → ℕ
left_count logs merger = sum_by (λ number. length (left_of merger.heap logs merger.placed.items number)) (range_with_len 0 (merger.heap.seats + 1))
