use Rattle.std.proofs.Common.{◌≡◌, ◌∷◌, [], ◌++◌, append_assoc, map, subst, sym, ◌∙◌, rules}
use Rattle.std.proofs.lemmas.Result.{on_ok_weaker, IfErr-weaker}
use Rattle.script_text.specs.declared.script.Form.{Form}
use Rattle.reply_text.specs.declared.history_line.HistoryLine.TheVariants as lines
use Rattle.reply_text.specs.History.{lines_with_mark, space_line}
use Rattle.log_merge.specs.Checking.{GoesOver, StopsIn}
use Rattle.log_merge.proofs.LineLemmas.{AllByRecursion-drop, entries_of-entries, marked_lines_parted_at}
use Rattle.log_merge.proofs.PassingLemmas.{GoesOver-append, StopsIn-append, StopsIn-more}
use Rattle.log_merge.proofs.checker.Checker.pass_marked.Goals as goal

pub returns-in_default-clause-passes : goal.returns-in_default-clause-passes
returns-in_default-clause-passes c = λ form. rw c.in_default.is (c.pass_entries.ensures.passes form [])

pub returns-in_default-clause-stops : goal.returns-in_default-clause-stops
returns-in_default-clause-stops c = λ form. rw c.in_default.is (c.pass_entries.ensures.stops form [])

pub returns-in_err-pass_entries-clause-stops : goal.returns-in_err-pass_entries-clause-stops
returns-in_err-pass_entries-clause-stops c = λ form.
    let mark = c.in-Some.mark in
    let entries = c.args.entries.now in
    let parted = marked_lines_parted_at c.args.mark mark entries c.split_at.result.0.now c.split_at.result.1.now c.in-Some.is c.split_at.ensures.front c.split_at.ensures.back in
    let stops : StopsIn form c.args.self.now [] (lines_with_mark c.args.mark entries) c.in_err-pass_entries.field-0.0 =
    StopsIn-more form c.args.self.now [] (map lines.Entry c.split_at.result.0.now) _ (lines_with_mark c.args.mark entries) _ parted (c.in_err-pass_entries.ensures.stops form []) in
    search rules

pub returns-in_err-pass_space-clause-stops : goal.returns-in_err-pass_space-clause-stops
returns-in_err-pass_space-clause-stops c = λ form.
    let mark = c.in-Some.mark in
    let entries = c.args.entries.now in
    let front = map lines.Entry c.split_at.result.0.now in
    let back = map lines.Entry c.split_at.result.1.now in
    let parted = marked_lines_parted_at c.args.mark mark entries c.split_at.result.0.now c.split_at.result.1.now c.in-Some.is c.split_at.ensures.front c.split_at.ensures.back in
    let stops : StopsIn form c.args.self.now [] (lines_with_mark c.args.mark entries) c.in_err-pass_space.field-0.0 =
    StopsIn-more form c.args.self.now [] (front ++ space_line mark ∷ []) back (lines_with_mark c.args.mark entries) _ (parted ∙ sym (append_assoc front (space_line mark ∷ []) back))
    (StopsIn-append form c.args.self.now c.pass_entries-2.new.self [] front (space_line mark ∷ []) _ c.pass_entries-2.ensures.heap (c.in_ok-pass_entries.ensures.passes form [])
    (c.in_err-pass_space.ensures.stops form front (entries_of-entries c.split_at.result.0.now))) in
    search rules

pub pass_entries-requires-3-clause-seats : goal.pass_entries-requires-3-clause-seats
pass_entries-requires-3-clause-seats c = rw (c.pass_space.ensures.heap, c.pass_entries-2.ensures.heap, c.split_at.ensures.back) (AllByRecursion-drop _ c.in-Some.mark.before _ c.requires.seats)

-- it went over the entries before the space line, and over that
went : (c : goal.After-pass_entries-3) (form : Form)
    → GoesOver form c.args.self.now c.pass_space.new.self [] (map lines.Entry c.split_at.result.0.now ++ space_line c.in-Some.mark ∷ [])
went c form =
    let front = map lines.Entry c.split_at.result.0.now in
    GoesOver-append form c.args.self.now c.pass_entries-2.new.self c.pass_space.new.self [] front (space_line c.in-Some.mark ∷ []) (c.in_ok-pass_entries.ensures.passes form [])
    (c.in_ok-pass_space.ensures.passes form front (entries_of-entries c.split_at.result.0.now))

parted : (c : goal.After-pass_entries-3)
    → (map lines.Entry c.split_at.result.0.now ++ space_line c.in-Some.mark ∷ []) ++ map lines.Entry c.split_at.result.1.now ≡ lines_with_mark c.args.mark c.args.entries.now
parted c =
    append_assoc (map lines.Entry c.split_at.result.0.now) (space_line c.in-Some.mark ∷ []) (map lines.Entry c.split_at.result.1.now)
    ∙ sym (marked_lines_parted_at c.args.mark c.in-Some.mark c.args.entries.now c.split_at.result.0.now c.split_at.result.1.now c.in-Some.is c.split_at.ensures.front c.split_at.ensures.back)

pub returns-clause-passes : goal.returns-clause-passes
returns-clause-passes c = λ form.
    let first = map lines.Entry c.split_at.result.0.now ++ space_line c.in-Some.mark ∷ [] in
    on_ok_weaker c.pass_entries-3.result
    (λ goes. subst (λ ls. GoesOver form c.args.self.now c.pass_entries-3.new.self [] ls) (parted c)
    (GoesOver-append form c.args.self.now c.pass_space.new.self c.pass_entries-3.new.self [] first (map lines.Entry c.split_at.result.1.now) (went c form) goes))
    (c.pass_entries-3.ensures.passes form first)

pub returns-clause-stops : goal.returns-clause-stops
returns-clause-stops c = λ form.
    let first = map lines.Entry c.split_at.result.0.now ++ space_line c.in-Some.mark ∷ [] in
    let back = map lines.Entry c.split_at.result.1.now in
    IfErr-weaker c.pass_entries-3.result (StopsIn form c.pass_space.new.self first back) (StopsIn form c.args.self.now [] (lines_with_mark c.args.mark c.args.entries.now))
    (λ fault stops. subst (λ ls. StopsIn form c.args.self.now [] ls fault) (parted c)
    (StopsIn-append form c.args.self.now c.pass_space.new.self [] first back fault (c.pass_space.ensures.heap ∙ c.pass_entries-2.ensures.heap) (went c form) stops))
    (c.pass_entries-3.ensures.stops form first)
