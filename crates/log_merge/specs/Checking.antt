-- What a checker keeps of the lines that it has gone over.
use Rattle.std.specs.Prelude.{◌≡◌, ◌+◌, ◌≤◌, List, [], ◌++◌, length, Option, Some, None}
use Rattle.std.specs.Option.{ForSome}
use Rattle.heap_model.specs.declared.heap.Heap.{Heap}
use Rattle.heap_model.specs.declared.entry.Entry.{Entry}
use Rattle.heap_model.specs.account.Books.{Books, Tells}
use Rattle.heap_model.specs.account.Cycles.{graph_of}
use Rattle.script_text.specs.declared.script.Form.{Form}
use Rattle.script_text.specs.declared.script.Form.TheVariants.{Play, Run}
use Rattle.reply_text.specs.declared.history_line.HistoryLine.{HistoryLine}
use Rattle.log_merge.specs.declared.checker.Checker.{Checker}
use Rattle.log_merge.specs.declared.fault.CheckFault.{CheckFault}
use Rattle.log_merge.specs.declared.fault.CheckFault.TheVariants as faults
use Rattle.log_merge.specs.Lines.{entries_of, KeepLines, IsFirstWrongLine}

-- a play has an account, which tells the entries; a run has none
abbrev pub Accounts : Form → Heap → Option Books → List Entry → Type 0
Accounts Play heap (Some books) entries = (books.heap ≡ heap) × Tells books entries
Accounts Run heap None entries = Unit {0}
Accounts form heap account entries = ⊥

-- the checker's graph and account are those after these entries
pub record Judged (form : Form) (checker : Checker) (entries : List Entry) : Type 0 where
  pub graph : checker.graph ≡ graph_of checker.heap entries
  pub account : Accounts form checker.heap checker.account entries

-- the checker has gone over these lines, each of which is right
pub record Passed (form : Form) (checker : Checker) (lines : List HistoryLine) : Type 0 where
  pub counted : checker.line ≡ 3 + length lines
  pub judged : Judged form checker (entries_of lines)
  pub kept : KeepLines form checker.heap [] lines

-- the account, if there is one, is of the checker's heap, and has counted no more entries than there were lines
abbrev pub AccountFits : Checker → Type 0
AccountFits checker = ForSome checker.account (λ books. (books.heap ≡ checker.heap) × (books.entries ≤ checker.line))

-- from lines that it has gone over, it goes over these as well
abbrev pub GoesOver : Form → Checker → Checker → List HistoryLine → List HistoryLine → Type 0
GoesOver form old new passed lines = Passed form old passed → Passed form new (passed ++ lines)

-- from lines that it has gone over, it stops at the first of these that isn't right; nothing is said where memory ran out
abbrev pub StopsIn : Form → Checker → List HistoryLine → List HistoryLine → CheckFault → Type 0
StopsIn form checker passed lines (faults.NotLegal number) = Passed form checker passed → IsFirstWrongLine form checker.heap (passed ++ lines) number
StopsIn form checker passed lines faults.Memory = Unit {0}
