use Rattle.std.proofs.Common.{refl}
use Rattle.heap_table.specs.Ahead.{seat_in}
use Rattle.heap_table.proofs.OneGo.{view_after_step, keeps_view_after_step}
use Rattle.heap_table.proofs.SeatHolders.{step_has_its_word, step_is_allowed, step_tells_stored}
use Rattle.heap_table.proofs.ahead.step_next.Goals as goal

pub touch-found-requires-clause-word : goal.touch-found-requires-clause-word
touch-found-requires-clause-word c = step_has_its_word _ _ _ c.args.token.now.me c.args.heap.now c.args.number (seat_in c.args.token.now.me) c.requires.keeps c.args.step.now c.requires.due

pub touch-found-requires-clause-rule : goal.touch-found-requires-clause-rule
touch-found-requires-clause-rule c =
    step_is_allowed _ _ _ c.args.token.now.me c.args.heap.now c.args.number (seat_in c.args.token.now.me) c.requires.keeps c.args.step.now c.requires.due
    c.args.table.now.table_id.slots _ _ refl refl

pub touch-found-requires-clause-stored : goal.touch-found-requires-clause-stored
touch-found-requires-clause-stored c = step_tells_stored _ _ _ c.args.token.now.me c.args.heap.now c.args.number (seat_in c.args.token.now.me) c.requires.keeps c.args.step.now c.requires.due

pub returns-clause-keeps : goal.returns-clause-keeps
returns-clause-keeps c =
    keeps_view_after_step _ _ _ c.args.token.now.me c.args.heap.now c.args.number (seat_in c.args.token.now.me) c.requires.keeps
    _ c.touch-found.new.token.me c.touch-found.result c.touch-found.ensures.same.0 c.touch-found.ensures.tells

pub returns-clause-seat : goal.returns-clause-seat
returns-clause-seat c = view_after_step c.args.heap.now c.args.number (seat_in c.args.token.now.me) c.args.token.now.me c.touch-found.new.token.me c.touch-found.result c.touch-found.ensures.tells

pub returns-clause-told : goal.returns-clause-told
returns-clause-told c = c.touch-found.ensures.tells.1
