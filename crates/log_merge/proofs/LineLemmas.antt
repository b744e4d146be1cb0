-- Right lines, one part after the other, and their entries.
use Rattle.std.proofs.Common.{◌≡◌, ℕ, zero, suc, ◌+◌, ◌<◌, List, [], ◌∷◌, ◌++◌, Option, Some, drop, get_or, length, map, take, refl, sym, ap, ◌∙◌, subst, append_assoc}
use Rattle.std.proofs.lemmas.List.{append-nil, map-append, map_more, take-append-drop}
use Rattle.std.proofs.lemmas.List.Concat.{flat_map-append}
use Rattle.std.specs.List.{AllByRecursion}
use Rattle.heap_model.specs.declared.heap.Heap.{Heap}
use Rattle.heap_model.specs.declared.entry.Entry.{Entry}
use Rattle.script_text.specs.declared.script.Form.{Form}
use Rattle.reply_text.specs.declared.history_line.HistoryLine.{HistoryLine}
use Rattle.reply_text.specs.declared.history_line.HistoryLine.TheVariants as lines
use Rattle.reply_text.specs.declared.history.SpaceMark.{SpaceMark}
use Rattle.reply_text.specs.History.{lines_with_mark, space_line}
use Rattle.log_merge.specs.Lines.{entry_of, entries_of, KeepLines, IsFirstWrongLine}

-- lines of entries alone
pub entries_of-entries : (entries : List Entry) → entries_of (map lines.Entry entries) ≡ entries
entries_of-entries [] = refl
entries_of-entries (entry ∷ rest) = ap (λ es. entry ∷ es) (entries_of-entries rest)

-- one line more
pub entries_of-more : (passed : List HistoryLine) (line : HistoryLine) → entries_of (passed ++ line ∷ []) ≡ entries_of passed ++ entry_of line
entries_of-more passed line = flat_map-append entry_of passed (line ∷ []) ∙ ap (λ es. entries_of passed ++ es) (append-nil (entry_of line))

-- right lines after right lines
pub KeepLines-append : (form : Form) (heap : Heap) (before : List Entry) (front back : List HistoryLine)
    → KeepLines form heap before front → KeepLines form heap (before ++ entries_of front) back → KeepLines form heap before (front ++ back)
KeepLines-append form heap before [] back kept more = subst (λ es. KeepLines form heap es back) (append-nil before) more
KeepLines-append form heap before (line ∷ front) back kept more =
    (kept.0, KeepLines-append form heap (before ++ entry_of line) front back kept.1 (subst (λ es. KeepLines form heap es back) (sym (append_assoc before (entry_of line) (entries_of front))) more))

-- the first of right lines
pub KeepLines-front : (form : Form) (heap : Heap) (before : List Entry) (front back : List HistoryLine) → KeepLines form heap before (front ++ back) → KeepLines form heap before front
KeepLines-front form heap before [] back kept = tt
KeepLines-front form heap before (line ∷ front) back kept = (kept.0, KeepLines-front form heap (before ++ entry_of line) front back kept.1)

-- and the others
pub KeepLines-back : (form : Form) (heap : Heap) (before : List Entry) (front back : List HistoryLine)
    → KeepLines form heap before (front ++ back) → KeepLines form heap (before ++ entries_of front) back
KeepLines-back form heap before [] back kept = subst (λ es. KeepLines form heap es back) (sym (append-nil before)) kept
KeepLines-back form heap before (line ∷ front) back kept =
    subst (λ es. KeepLines form heap es back) (append_assoc before (entry_of line) (entries_of front)) (KeepLines-back form heap (before ++ entry_of line) front back kept.1)

-- the first line that isn't right stays that, whatever follows
pub BreaksAt-more : (form : Form) (heap : Heap) (lines more all : List HistoryLine) (number : ℕ) → all ≡ lines ++ more → IsFirstWrongLine form heap lines number → IsFirstWrongLine form heap all number
BreaksAt-more form heap lines more all number e breaks = record {
  before = breaks.before;
  line = breaks.line;
  rest = breaks.rest ++ more;
  parted = e ∙ ap (λ ls. ls ++ more) breaks.parted ∙ append_assoc breaks.before (breaks.line ∷ breaks.rest) more;
  counted = breaks.counted;
  kept = breaks.kept;
  broken = breaks.broken;
}

-- where a line isn't right, not all are
pub BreaksAt-broken : (form : Form) (heap : Heap) (lines : List HistoryLine) (number : ℕ) → IsFirstWrongLine form heap lines number → ¬ KeepLines form heap [] lines
BreaksAt-broken form heap lines number breaks kept =
    breaks.broken (KeepLines-back form heap [] breaks.before (breaks.line ∷ breaks.rest) (subst (λ ls. KeepLines form heap [] ls) breaks.parted kept)).0

-- the lines of entries, parted at one of them
pub entry_lines_parted_at : (entries : List Entry) (i : ℕ) (other : Entry) → i < length entries
    → map lines.Entry entries ≡ (map lines.Entry (take i entries) ++ lines.Entry (get_or entries i other) ∷ []) ++ map lines.Entry (drop (i + 1) entries)
entry_lines_parted_at entries i other lt =
    sym (ap (λ es. map lines.Entry es) (take-append-drop (i + 1) entries)) ∙ map-append lines.Entry (take (i + 1) entries) (drop (i + 1) entries)
    ∙ ap (λ ls. ls ++ map lines.Entry (drop (i + 1) entries)) (map_more lines.Entry entries i other lt)

-- the lines of a history with a mark
pub marked_lines_parted_at : (mark : Option SpaceMark) (there : SpaceMark) (entries front back : List Entry) → mark ≡ Some there → front ≡ take there.before entries → back ≡ drop there.before entries
    → lines_with_mark mark entries ≡ map lines.Entry front ++ (space_line there ∷ map lines.Entry back)
marked_lines_parted_at mark there entries front back is first others = rw (is, first, others) refl

-- what holds of each holds of the last ones
pub AllByRecursion-drop : {A : Type 0} (P : A → Type 0) (n : ℕ) (xs : List A) → AllByRecursion P xs → AllByRecursion P (drop n xs)
AllByRecursion-drop P zero xs all = all
AllByRecursion-drop P (suc n) [] all = tt
AllByRecursion-drop P (suc n) (x ∷ xs) all = AllByRecursion-drop P n xs all.1
