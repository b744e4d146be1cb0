use Rattle.std.proofs.Common.{sym, subst}
use Rattle.heap_table.specs.Folded.{AllFolded}
use Rattle.heap_table.specs.Known.{CollectorKnown}
use Rattle.heap_table.proofs.closing.read_all.Goals as goal

pub read_next-requires-clause-folded : goal.read_next-requires-clause-folded
read_next-requires-clause-folded c = subst (λ (k : CollectorKnown). AllFolded c.args.heap.now k.seats) (sym c.loop-word.invariant.0.known_is) c.requires.folded
