use Rattle.std.proofs.Common.{[], is_some, ◌≡◌, ◌+◌, ◌*◌, ◌<◌, List, length, refl, ap, subst, ◌∙◌}
use Rattle.heap_model.specs.declared.heap.Heap.{Heap}
use Rattle.heap_model.specs.declared.entry.Entry.{Entry}
use Rattle.heap_model.specs.account.Space.{words_granted, words_returned}
use Rattle.reply_text.specs.declared.history.SpaceMark.{SpaceMark}
use Rattle.log_merge.specs.Legal.{ShowsUse}
use Rattle.heap_runs.specs.Play.{StandForEach}
use Rattle.heap_runs.specs.PlayHeap.{PlayState, IsPlayed}
use Rattle.heap_runs.specs.Pressed.{StandsByWay}
use Rattle.heap_runs.proofs.PlayTexts.{play_has_board, play_has_text}
use Rattle.heap_runs.proofs.Whole.{script_is_played_whole}
use Rattle.heap_runs.proofs.playing.play_by.Goals as goal

pub make_last_cycle-requires : goal.make_last_cycle-requires
make_last_cycle-requires g c =
    let left = c.in_ok-leave_all.ensures in
    record { gone = λ number under. left.gone number (subst (λ (h : Heap). number < h.seats) left.of_heap under) }

pub returns-clause-played : goal.returns-clause-played
returns-clause-played g c =
    let script = c.args.script.now in
    let middle : PlayState = g.H.PlayHeap.state c.in_ok-whole.whole in
    let gone : PlayState = g.H.PlayHeap.state c.leave_all.new.whole in
    let last : PlayState = g.H.PlayHeap.state c.make_last_cycle.new.whole in
    let left = c.in_ok-leave_all.ensures in
    let notes = c.in_ok-make_last_cycle.ensures.notes in
    let mark : SpaceMark = record { before = length c.entries.result.now; used = c.in_use.result; total = c.from.result * c.from-2.result; spine = c.words_in_use.result; budget = c.from-3.result } in
    let played = subst (λ (h : Heap). IsPlayed h last.entries) (notes.same_heap ∙ left.of_heap) c.entries-4.ensures.played in
    script_is_played_whole c.law_sweep_exact.ensures.emptied (StandForEach (StandsByWay c.args.way script.heap (is_some c.args.pace)) []) script middle gone last c.into_entries.result.items mark c.in_use-2.result _ c.in_ok-whole.ensures.answered left notes played c.into_entries.ensures
    (ap (length {A = Entry}) c.entries.ensures.entries)
    (subst (λ (es : List Entry). ShowsUse script.heap es c.in_use.result) c.entries-2.ensures.entries (subst (λ (h : Heap). ShowsUse h c.entries-2.result.now c.in_use.result) c.requires.heap c.in_use.ensures))
    (rw (c.from.ensures, c.from-2.ensures, c.requires.heap) refl)
    (subst (λ (es : List Entry). c.words_in_use.result + words_returned es ≡ words_granted es) c.entries-3.ensures.entries c.words_in_use.ensures) (c.from-3.ensures ∙ ap (λ (h : Heap). h.spine) c.requires.heap)
    (subst (λ (es : List Entry). ShowsUse script.heap es c.in_use-2.result) c.entries-4.ensures.entries (subst (λ (h : Heap). ShowsUse h c.entries-4.result.now c.in_use-2.result) c.requires.heap c.in_use-2.ensures))
    (rw (c.requires.heap, c.from_vec.ensures) refl)

pub returns-clause-spelled : goal.returns-clause-spelled
returns-clause-spelled g c = play_has_text c.args.way (is_some c.args.pace) c.args.script.now _ c.requires.form (returns-clause-played g c)

pub returns-clause-board : goal.returns-clause-board
returns-clause-board g c = play_has_board (StandForEach (StandsByWay c.args.way c.args.script.now.heap (is_some c.args.pace)) []) c.args.script.now _ c.requires.form (returns-clause-played g c)
