-- Which line of a history is the first that isn't right.
use Rattle.std.specs.Prelude.{◌≡◌, ℕ, ◌+◌, true, List, [], ◌∷◌, ◌++◌, length}
use Rattle.std.specs.List.{flat_map}
use Rattle.heap_model.specs.declared.heap.Heap.{Heap}
use Rattle.heap_model.specs.declared.entry.Entry.{Entry}
use Rattle.heap_model.specs.graph.Legal.{Accepts}
use Rattle.heap_model.specs.account.Account.{KeepsSpace}
use Rattle.heap_model.specs.account.Cycles.{graph_of}
use Rattle.script_text.specs.declared.script.Form.{Form}
use Rattle.script_text.specs.declared.script.Form.TheVariants.{Play, Run}
use Rattle.reply_text.specs.declared.history.History.{History}
use Rattle.reply_text.specs.declared.history_line.HistoryLine.{HistoryLine}
use Rattle.reply_text.specs.declared.history_line.HistoryLine.TheVariants as lines
use Rattle.reply_text.specs.History.{body}
use Rattle.log_merge.specs.Legal.{ShowsCounts, ShowsUse}

-- the entry that the line is, if it is one
abbrev pub entry_of : HistoryLine → List Entry
entry_of (lines.Entry entry) = entry ∷ []
entry_of _ = []

-- the entries among the lines
abbrev pub entries_of : List HistoryLine → List Entry
entries_of lines = flat_map entry_of lines

-- in a play the entry keeps the rules of space and phases after these; in a run nothing is asked
abbrev pub KeepsRules : Form → Heap → List Entry → Entry → Type 0
KeepsRules Play heap before entry = KeepsSpace heap true before entry
KeepsRules Run heap before entry = Unit {0}

-- the entry may stand after these entries
abbrev pub KeepsEntry : Form → Heap → List Entry → Entry → Type 0
KeepsEntry form heap before entry = Accepts (graph_of heap before) entry × KeepsRules form heap before entry

-- the line is right after these entries
abbrev pub KeepsLine : Form → Heap → List Entry → HistoryLine → Type 0
KeepsLine form heap before (lines.Entry entry) = KeepsEntry form heap before entry
KeepsLine form heap before (lines.Space used total spine budget) =
    ShowsCounts heap before (record { before = length before; used = used; total = total; spine = spine; budget = budget })
KeepsLine form heap before (lines.End used) = ShowsUse heap before used

-- each line is right after these entries and the lines before it
abbrev pub KeepLines : Form → Heap → List Entry → List HistoryLine → Type 0
KeepLines form heap before [] = Unit {0}
KeepLines form heap before (line ∷ rest) = KeepsLine form heap before line × KeepLines form heap (before ++ entry_of line) rest

-- this is the number of the first line that isn't right, where these lines come after the first two
pub record IsFirstWrongLine (form : Form) (heap : Heap) (lines : List HistoryLine) (number : ℕ) : Type 0 where
  pub before : List HistoryLine
  pub line : HistoryLine
  pub rest : List HistoryLine
  pub parted : lines ≡ before ++ line ∷ rest
  pub counted : number ≡ 3 + length before
  pub kept : KeepLines form heap [] before
  pub broken : ¬ KeepsLine form heap (entries_of before) line

-- this line of the history is the first that isn't legal
abbrev pub IsFirstIllegal : History → ℕ → Type 0
IsFirstIllegal history number = IsFirstWrongLine history.form history.heap (body history) number
