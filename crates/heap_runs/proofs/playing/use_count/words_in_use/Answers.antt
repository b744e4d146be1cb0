use Rattle.std.proofs.Common.{◌≡◌, ◌≤◌, ℕ, List, length, take, ap, ◌∙◌, arith}
use Rattle.std.proofs.lemmas.List.{take_all}
use Rattle.heap_model.specs.account.Space.{words_granted, words_returned}
use Rattle.heap_model.specs.declared.entry.Entry.{Entry}
use Rattle.heap_runs.proofs.Bounds.{returned_within}
use Rattle.heap_runs.proofs.playing.use_count.words_in_use.Goals as goal

-- behind the last entry both sums are those of all
of_all : (entries : List Entry) (index granted returned : ℕ) → length entries ≤ index → granted ≡ words_granted (take index entries) → returned ≡ words_returned (take index entries)
    → (granted ≡ words_granted entries) × (returned ≡ words_returned entries)
of_all entries index granted returned past given back =
    let all : take index entries ≡ entries = take_all index entries past in
    (given ∙ ap words_granted all, back ∙ ap words_returned all)

pub overflow_sub-result : goal.overflow_sub-result
overflow_sub-result c =
    let sums = of_all c.args.entries.now c.loop-entry.entry-index _ _ (omega (arith, c.loop-entry-test.false)) c.loop-entry.invariant.granted c.loop-entry.invariant.returned in
    omega (arith, sums.0, sums.1, returned_within c.args.heap.now c.args.entries.now c.requires.played.legal)

pub overflow_cast-result : goal.overflow_cast-result
overflow_cast-result c =
    let sums = of_all c.args.entries.now c.loop-entry.entry-index _ _ (omega (arith, c.loop-entry-test.false)) c.loop-entry.invariant.granted c.loop-entry.invariant.returned in
    omega (arith, sums.0, sums.1, c.requires.played.words_fit, c.requires.limits.spine_fits)

pub returns : goal.returns
returns c =
    let sums = of_all c.args.entries.now c.loop-entry.entry-index _ _ (omega (arith, c.loop-entry-test.false)) c.loop-entry.invariant.granted c.loop-entry.invariant.returned in
    omega (arith, sums.0, sums.1, returned_within c.args.heap.now c.args.entries.now c.requires.played.legal)
