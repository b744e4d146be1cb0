use Rattle.std.proofs.Common.{List, length, drop, ap, ◌∙◌, length-append, arith}
use Rattle.std.proofs.lemmas.Result.{IfOk-weaker}
use Rattle.heap_model.specs.declared.entry.Entry.{Entry}
use Rattle.heap_record.specs.Recorded.{claimed_by}
use Rattle.heap_runs.specs.PlayHeap.{PlayState}
use Rattle.heap_runs.proofs.Slacking.{notes_line_without_turns, claimed_is_by_calls, notes_line_with_turns}
use Rattle.heap_runs.proofs.playing.answer_seat_line.Goals as goal

pub claimed_since-claimed-requires : goal.claimed_since-claimed-requires
claimed_since-claimed-requires g c =
    let old : PlayState = g.H.PlayHeap.state c.args.whole in
    let calls = c.in_ok-whole.ensures in
    omega (arith, ap (length {A = Entry}) c.entries-before.ensures.entries, ap (length {A = Entry}) calls.told, length-append old.entries calls.added)

pub returns-in-Some-clause-notes : goal.returns-in-Some-clause-notes
returns-in-Some-clause-notes g c =
    let old : PlayState = g.H.PlayHeap.state c.args.whole in
    let now : PlayState = g.H.PlayHeap.state c.in_ok-whole.whole in
    let calls = c.in_ok-whole.ensures in
    let claimed = claimed_is_by_calls c.args.way old now c.args.seat c.args.command.now calls c.claimed_since-claimed.result
    (c.claimed_since-claimed.ensures ∙ ap (λ (l : List Entry). claimed_by (drop (length l) now.entries)) c.entries-before.ensures.entries) in
    rw c.in-Some.is
    (IfOk-weaker c.note_slack.result _ _
    (λ new notes. notes_line_with_turns c.args.way old now c.args.seat c.args.command.now calls _ c.claimed_since-claimed.result (g.H.PlayHeap.state new) claimed notes)
    c.note_slack.ensures.notes)

pub returns-in-None-clause-notes : goal.returns-in-None-clause-notes
returns-in-None-clause-notes g c =
    rw c.in-None.is (notes_line_without_turns c.args.way (g.H.PlayHeap.state c.args.whole) (g.H.PlayHeap.state c.in_ok-whole.whole) c.args.seat c.args.command.now c.in_ok-whole.ensures)
