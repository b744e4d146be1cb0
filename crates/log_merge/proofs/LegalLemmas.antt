-- A history is legal exactly where each of its lines is right.
use Rattle.std.proofs.Common.{◌≡◌, ℕ, true, List, [], ◌∷◌, ◌++◌, Option, Some, None, drop, map, take, sym, ap, ◌∙◌, subst}
use Rattle.std.proofs.lemmas.List.{append-nil, map-append, take-append-drop}
use Rattle.std.proofs.lemmas.List.Concat.{flat_map-append}
use Rattle.heap_model.specs.declared.heap.Heap.{Heap}
use Rattle.heap_model.specs.declared.entry.Entry.{Entry}
use Rattle.heap_model.specs.graph.Objects.{opening}
use Rattle.heap_model.specs.graph.Legal.{AcceptsAll}
use Rattle.heap_model.specs.account.Account.{KeepsSpaceAfter}
use Rattle.heap_model.specs.account.Cycles.{graph_of}
use Rattle.heap_model.proofs.Histories.{graph_after-more}
use Rattle.script_text.specs.declared.script.Form.{Form}
use Rattle.script_text.specs.declared.script.Form.TheVariants.{Play, Run}
use Rattle.reply_text.specs.declared.history.History.{History}
use Rattle.reply_text.specs.declared.history.SpaceMark.{SpaceMark}
use Rattle.reply_text.specs.declared.history_line.HistoryLine.TheVariants as lines
use Rattle.reply_text.specs.History.{body, lines_with_mark, space_line}
use Rattle.log_merge.specs.Legal.{AreLegal, ShowsAtMark, ShowsCounts, ShowsUse, IsLegalHistory}
use Rattle.log_merge.specs.Lines.{entry_of, entries_of, IsFirstIllegal, KeepsLine, KeepLines, KeepsRules}
use Rattle.log_merge.proofs.LineLemmas.{BreaksAt-broken, entries_of-entries, KeepLines-append, KeepLines-front, KeepLines-back}

-- in a play each entry keeps the rules of space and phases after those before it
abbrev KeepRules : Form → Heap → List Entry → List Entry → Type 0
KeepRules Play heap before entries = KeepsSpaceAfter heap true before entries
KeepRules Run heap before entries = Unit {0}

first_keeps : (form : Form) (heap : Heap) (before rest : List Entry) (entry : Entry) → KeepRules form heap before (entry ∷ rest) → KeepsRules form heap before entry
first_keeps Play heap before rest entry kept = kept.0
first_keeps Run heap before rest entry kept = tt

others_keep : (form : Form) (heap : Heap) (before rest : List Entry) (entry : Entry) → KeepRules form heap before (entry ∷ rest) → KeepRules form heap (before ++ entry ∷ []) rest
others_keep Play heap before rest entry kept = kept.1
others_keep Run heap before rest entry kept = tt

all_keep : (form : Form) (heap : Heap) (before rest : List Entry) (entry : Entry)
    → KeepsRules form heap before entry → KeepRules form heap (before ++ entry ∷ []) rest → KeepRules form heap before (entry ∷ rest)
all_keep Play heap before rest entry first others = (first, others)
all_keep Run heap before rest entry first others = tt

none_keep : (form : Form) (heap : Heap) (before : List Entry) → KeepRules form heap before []
none_keep Play heap before = tt
none_keep Run heap before = tt

-- entries that are accepted and keep the rules are right lines
lines-from_entries : (form : Form) (heap : Heap) (before entries : List Entry)
    → AcceptsAll (graph_of heap before) entries → KeepRules form heap before entries → KeepLines form heap before (map lines.Entry entries)
lines-from_entries form heap before [] accepts keeps = tt
lines-from_entries form heap before (entry ∷ rest) accepts keeps = (
  (accepts.0, first_keeps form heap before rest entry keeps),
  lines-from_entries form heap (before ++ entry ∷ []) rest (subst (λ g. AcceptsAll g rest) (sym (graph_after-more (opening heap) before entry)) accepts.1) (others_keep form heap before rest entry keeps),
)

-- and the other way round
accepts-from_lines : (form : Form) (heap : Heap) (before entries : List Entry) → KeepLines form heap before (map lines.Entry entries) → AcceptsAll (graph_of heap before) entries
accepts-from_lines form heap before [] kept = tt
accepts-from_lines form heap before (entry ∷ rest) kept =
    (kept.0.0, subst (λ g. AcceptsAll g rest) (graph_after-more (opening heap) before entry) (accepts-from_lines form heap (before ++ entry ∷ []) rest kept.1))

keeps-from_lines : (form : Form) (heap : Heap) (before entries : List Entry) → KeepLines form heap before (map lines.Entry entries) → KeepRules form heap before entries
keeps-from_lines form heap before [] kept = none_keep form heap before
keeps-from_lines form heap before (entry ∷ rest) kept =
    all_keep form heap before rest entry kept.0.1 (keeps-from_lines form heap (before ++ entry ∷ []) rest kept.1)

-- legal entries are right lines, and right lines of entries are legal
lines-from_AreLegal : (form : Form) (heap : Heap) (entries : List Entry) → AreLegal form heap entries → KeepLines form heap [] (map lines.Entry entries)
lines-from_AreLegal Play heap entries legal = lines-from_entries Play heap [] entries legal.objects legal.space
lines-from_AreLegal Run heap entries legal = lines-from_entries Run heap [] entries legal tt

AreLegal-from_lines : (form : Form) (heap : Heap) (entries : List Entry) → KeepLines form heap [] (map lines.Entry entries) → AreLegal form heap entries
AreLegal-from_lines Play heap entries kept = record {
  objects = accepts-from_lines Play heap [] entries kept;
  space = keeps-from_lines Play heap [] entries kept;
}
AreLegal-from_lines Run heap entries kept = accepts-from_lines Run heap [] entries kept

-- the lines of entries, parted at a position
parted : (count : ℕ) (entries : List Entry) → map lines.Entry (take count entries) ++ map lines.Entry (drop count entries) ≡ map lines.Entry entries
parted count entries = sym (map-append lines.Entry (take count entries) (drop count entries)) ∙ ap (λ es. map lines.Entry es) (take-append-drop count entries)

-- the space line of a mark is right where the mark shows the counts
pub space_line_is_right : (form : Form) (heap : Heap) (before : List Entry) (mark : SpaceMark) → ShowsCounts heap before mark → KeepsLine form heap before (space_line mark)
space_line_is_right form heap before mark shows = record { used = shows.used; total = shows.total; spine = shows.spine; budget = shows.budget }

pub ShowsCounts-from_line : (form : Form) (heap : Heap) (before : List Entry) (mark : SpaceMark) → KeepsLine form heap before (space_line mark) → ShowsCounts heap before mark
ShowsCounts-from_line form heap before mark kept = record { used = kept.used; total = kept.total; spine = kept.spine; budget = kept.budget }

-- the entries among the lines of a history
pub entries_of-marked : (mark : Option SpaceMark) (entries : List Entry) → entries_of (lines_with_mark mark entries) ≡ entries
entries_of-marked None entries = entries_of-entries entries
entries_of-marked (Some mark) entries =
    flat_map-append entry_of (map lines.Entry (take mark.before entries)) (space_line mark ∷ map lines.Entry (drop mark.before entries))
    ∙ rw (entries_of-entries (take mark.before entries), entries_of-entries (drop mark.before entries)) (take-append-drop mark.before entries)

-- with its mark
lines-from_marked : (form : Form) (heap : Heap) (mark : Option SpaceMark) (entries : List Entry)
    → AreLegal form heap entries → ShowsAtMark heap entries mark → KeepLines form heap [] (lines_with_mark mark entries)
lines-from_marked form heap None entries legal shows = lines-from_AreLegal form heap entries legal
lines-from_marked form heap (Some mark) entries legal shows =
    let front = map lines.Entry (take mark.before entries) in
    let back = map lines.Entry (drop mark.before entries) in
    let all : KeepLines form heap [] (front ++ back) = subst (λ ls. KeepLines form heap [] ls) (sym (parted mark.before entries)) (lines-from_AreLegal form heap entries legal) in
    let same : entries_of front ≡ take mark.before entries = entries_of-entries (take mark.before entries) in
    KeepLines-append form heap [] front (space_line mark ∷ back) (KeepLines-front form heap [] front back all) (
      subst (λ es. KeepsLine form heap es (space_line mark)) (sym same) (space_line_is_right form heap (take mark.before entries) mark shows),
      subst (λ es. KeepLines form heap es back) (sym (append-nil (entries_of front))) (KeepLines-back form heap [] front back all),
    )

AreLegal-from_marked : (form : Form) (heap : Heap) (mark : Option SpaceMark) (entries : List Entry) → KeepLines form heap [] (lines_with_mark mark entries) → AreLegal form heap entries
AreLegal-from_marked form heap None entries kept = AreLegal-from_lines form heap entries kept
AreLegal-from_marked form heap (Some mark) entries kept =
    let front = map lines.Entry (take mark.before entries) in
    let back = map lines.Entry (drop mark.before entries) in
    let more = KeepLines-back form heap [] front (space_line mark ∷ back) kept in
    AreLegal-from_lines form heap entries (subst (λ ls. KeepLines form heap [] ls) (parted mark.before entries)
    (KeepLines-append form heap [] front back (KeepLines-front form heap [] front (space_line mark ∷ back) kept)
    (subst (λ es. KeepLines form heap es back) (append-nil (entries_of front)) more.1)))

ShowsAtMark-from_marked : (form : Form) (heap : Heap) (mark : Option SpaceMark) (entries : List Entry) → KeepLines form heap [] (lines_with_mark mark entries) → ShowsAtMark heap entries mark
ShowsAtMark-from_marked form heap None entries kept = tt
ShowsAtMark-from_marked form heap (Some mark) entries kept =
    let front = map lines.Entry (take mark.before entries) in
    let back = map lines.Entry (drop mark.before entries) in
    let more = KeepLines-back form heap [] front (space_line mark ∷ back) kept in
    ShowsCounts-from_line form heap (take mark.before entries) mark
    (subst (λ es. KeepsLine form heap es (space_line mark)) (entries_of-entries (take mark.before entries)) more.0)

-- each line of a legal history is right
lines-from_IsLegalHistory : (history : History) → IsLegalHistory history → KeepLines history.form history.heap [] (body history)
lines-from_IsLegalHistory history legal =
    let front = lines_with_mark history.mark history.entries in
    KeepLines-append history.form history.heap [] front (lines.End history.end_used ∷ []) (lines-from_marked history.form history.heap history.mark history.entries legal.entries legal.mark)
    (rw (entries_of-marked history.mark history.entries) legal.end_used, tt)

-- and so is a history whose lines before the last are right, and whose last shows what is in use
pub IsLegalHistory-from_lines : (history : History) → KeepLines history.form history.heap [] (lines_with_mark history.mark history.entries) → ShowsUse history.heap history.entries history.end_used → IsLegalHistory history
IsLegalHistory-from_lines history kept shows = record {
  entries = AreLegal-from_marked history.form history.heap history.mark history.entries kept;
  mark = ShowsAtMark-from_marked history.form history.heap history.mark history.entries kept;
  end_used = shows;
}

-- a history with a line that isn't right is not legal
pub wrong_line_is_not_legal : (history : History) (line : ℕ) → IsFirstIllegal history line → IsLegalHistory history → ⊥
wrong_line_is_not_legal history line first legal = BreaksAt-broken history.form history.heap (body history) line first (lines-from_IsLegalHistory history legal)
