-- Which histories are legal.
use Rattle.std.specs.Prelude.{◌≡◌, ℕ, ◌+◌, ◌*◌, true, List, Option, Some, None, take}
use Rattle.heap_model.specs.declared.heap.Heap.{Heap}
use Rattle.heap_model.specs.declared.entry.Entry.{Entry}
use Rattle.heap_model.specs.Limits.{group_fragments}
use Rattle.heap_model.specs.graph.Legal.{IsObjectLegal}
use Rattle.heap_model.specs.account.Account.{IsLegal}
use Rattle.heap_model.specs.account.Space.{fragments_gained, fragments_lost, words_granted, words_returned}
use Rattle.script_text.specs.declared.script.Form.{Form}
use Rattle.script_text.specs.declared.script.Form.TheVariants.{Play, Run}
use Rattle.reply_text.specs.declared.history.History.{History}
use Rattle.reply_text.specs.declared.history.SpaceMark.{SpaceMark}

-- the entries are legal: those of a play by all rules, those of a run for their objects
abbrev pub AreLegal : Form → Heap → List Entry → Type 0
AreLegal Play heap entries = IsLegal heap true entries
AreLegal Run heap entries = IsObjectLegal heap entries

-- so many fragments are in use after these entries; there is no such number where more were lost than gained
abbrev pub ShowsUse : Heap → List Entry → ℕ → Type 0
ShowsUse heap entries used = used + fragments_lost entries ≡ fragments_gained heap entries

-- the mark shows the counts after these entries
pub record ShowsCounts (heap : Heap) (entries : List Entry) (mark : SpaceMark) : Type 0 where
  pub used : ShowsUse heap entries mark.used
  pub total : mark.total ≡ group_fragments * heap.groups
  pub spine : mark.spine + words_returned entries ≡ words_granted entries
  pub budget : mark.budget ≡ heap.spine

-- the mark, if there is one, shows the counts at its position
abbrev pub ShowsAtMark : Heap → List Entry → Option SpaceMark → Type 0
ShowsAtMark heap entries None = Unit {0}
ShowsAtMark heap entries (Some mark) = ShowsCounts heap (take mark.before entries) mark

-- the history is legal
pub record IsLegalHistory (history : History) : Type 0 where
  pub entries : AreLegal history.form history.heap history.entries
  pub mark : ShowsAtMark history.heap history.entries history.mark
  pub end_used : ShowsUse history.heap history.entries history.end_used
