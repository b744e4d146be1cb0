use Rattle.std.proofs.Common.{◌≡◌, take, ap, ◌∙◌, arith}
use Rattle.std.proofs.lemmas.List.{take_all}
use Rattle.heap_model.specs.account.Space.{fragments_gained, fragments_lost}
use Rattle.heap_runs.proofs.Bounds.{gained_within}
use Rattle.heap_runs.proofs.playing.use_count.in_use.Goals as goal

pub overflow_cast-result : goal.overflow_cast-result
overflow_cast-result c =
    let entries = c.args.entries.now in
    let all : take c.loop-entry.entry-index entries ≡ entries = take_all c.loop-entry.entry-index entries (omega (arith, c.loop-entry-test.false)) in
    let gained : c.loop-entry.gained ≡ fragments_gained c.args.heap.now entries = c.loop-entry.invariant.gained ∙ ap (fragments_gained c.args.heap.now) all in
    let lost : c.loop-entry.lost ≡ fragments_lost entries = c.loop-entry.invariant.lost ∙ ap fragments_lost all in
    let within = gained_within c.args.heap.now entries c.requires.limits c.requires.played.legal in
    let most = c.requires.limits.groups_fit in
    omega (arith, gained, lost, within, most)

pub returns : goal.returns
returns c =
    let entries = c.args.entries.now in
    let all : take c.loop-entry.entry-index entries ≡ entries = take_all c.loop-entry.entry-index entries (omega (arith, c.loop-entry-test.false)) in
    let gained : c.loop-entry.gained ≡ fragments_gained c.args.heap.now entries = c.loop-entry.invariant.gained ∙ ap (fragments_gained c.args.heap.now) all in
    let lost : c.loop-entry.lost ≡ fragments_lost entries = c.loop-entry.invariant.lost ∙ ap fragments_lost all in
    omega (arith, gained, lost, c.requires.played.none_short)
