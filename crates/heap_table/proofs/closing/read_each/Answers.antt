use Rattle.std.proofs.Common.{◌∷◌, [], length, sym, subst, ap, arith}
use Rattle.std.proofs.lemmas.List.{length-append}
use Rattle.heap_table.specs.Folded.{AllFolded}
use Rattle.heap_table.specs.Known.{CollectorKnown}
use Rattle.heap_table.specs.Views.{known_by}
use Rattle.heap_table.proofs.Histories.{reads_on}
use Rattle.heap_table.proofs.closing.read_each.Goals as goal

pub read_next-requires-clause-folded : goal.read_next-requires-clause-folded
read_next-requires-clause-folded c = subst (λ (k : CollectorKnown). AllFolded c.args.heap.now k.seats) (sym c.loop-position.invariant.0.known_is) c.requires.folded

pub loop-position-preserved : goal.loop-position-preserved
loop-position-preserved c =
    let read = c.read_next.ensures.known in
    let longer = length-append (known_by c.loop-position.token.me.0).closed (c.read_next.result ∷ []) in (
      record { token = c.read_next.ensures.table; known_is = reads_on (known_by c.args.token.now.me.0) (known_by c.loop-position.token.me.0) (known_by c.read_next.new.token.me.0) c.read_next.result c.loop-position.invariant.0.known_is read; ends = c.read_next.ensures.ends },
      omega (arith, ap (λ (k : CollectorKnown). length k.closed) read, longer, c.loop-position.invariant.1),
      c.loop-position.invariant.2,
    )
