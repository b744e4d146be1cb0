use Rattle.std.proofs.Common.{refl}
use Rattle.heap_table.proofs.TurnsAhead.{ahead_has_its_word, ahead_is_allowed, ahead_tells_stored, ahead_knows, keeps_ahead_after_turn}
use Rattle.heap_table.proofs.collector.strides.turn_next.Goals as goal

pub touch-found-requires-clause-word : goal.touch-found-requires-clause-word
touch-found-requires-clause-word c = ahead_has_its_word _ _ _ c.args.token.now.me c.args.heap.now c.requires.keeps c.args.step.now c.requires.due

pub touch-found-requires-clause-rule : goal.touch-found-requires-clause-rule
touch-found-requires-clause-rule c = ahead_is_allowed _ _ _ c.args.token.now.me c.args.heap.now c.requires.keeps c.args.step.now c.requires.due c.args.table.now.table_id.slots _ _ c.requires.may refl refl

pub touch-found-requires-clause-stored : goal.touch-found-requires-clause-stored
touch-found-requires-clause-stored c = ahead_tells_stored _ _ _ c.args.token.now.me c.args.heap.now c.requires.keeps c.args.step.now c.requires.due

pub returns-clause-keeps : goal.returns-clause-keeps
returns-clause-keeps c = keeps_ahead_after_turn _ _ _ c.args.token.now.me c.args.heap.now c.requires.keeps _ c.touch-found.new.token.me c.touch-found.result c.touch-found.ensures.tells c.touch-found.ensures.same.0

pub returns-clause-known : goal.returns-clause-known
returns-clause-known c = ahead_knows _ _ _ c.args.token.now.me c.args.heap.now c.requires.keeps c.args.token.now.table_id c.touch-found.new.token.me c.touch-found.result c.touch-found.ensures.tells

pub returns-clause-told : goal.returns-clause-told
returns-clause-told c = c.touch-found.ensures.tells.1
