use Rattle.std.proofs.Common.{refl, ap, sym, subst}
use Rattle.heap_table.specs.Closed.{EndsWhole}
use Rattle.heap_table.specs.Views.{known_by}
use Rattle.heap_table.proofs.Histories.{word_read_is_allowed, keeps_token_after_read}
use Rattle.heap_table.proofs.closing.read_next.Goals as goal

pub read-requires-clause-rule : goal.read-requires-clause-rule
read-requires-clause-rule c =
    word_read_is_allowed c.args.table.now.table_id c.args.table.now.key _ c.args.token.now.me c.args.heap.now c.requires.table c.args.table.now.table_id.slots c.args.token.now.id c.args.word c.args.table.now.key refl refl c.requires.folded c.requires.next c.requires.within

pub returns-clause-table : goal.returns-clause-table
returns-clause-table c = keeps_token_after_read _ _ _ c.args.token.now.me c.args.heap.now c.requires.table _ c.read.new.token.me c.read.result c.read.ensures.same c.read.ensures.tells

pub returns-clause-known : goal.returns-clause-known
returns-clause-known c = ap (λ m. known_by m.0) c.read.ensures.tells.0

pub returns-clause-ends : goal.returns-clause-ends
returns-clause-ends c = subst (λ m. EndsWhole c.args.heap.now (known_by m.0)) (sym c.read.ensures.tells.0) c.read.ensures.tells.1
