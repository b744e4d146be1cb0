use Rattle.std.proofs.Common.{◌∙◌}
use Rattle.heap_queue.proofs.RefusedSeats.{all_gone, numbers_stay, board_has_each}
use Rattle.heap_queue.proofs.refusing.close_unserved.Goals as goal

pub finish-requires-clause-gone : goal.finish-requires-clause-gone
finish-requires-clause-gone g c = all_gone c.args.seats.items c.in_ok-gone.gone.items c.in_ok-gone.ensures c.args.collector.holder.table c.args.collector.holder.heap c.requires.of_table

pub finish-requires-clause-numbers : goal.finish-requires-clause-numbers
finish-requires-clause-numbers g c = numbers_stay c.args.seats.items c.in_ok-gone.gone.items c.in_ok-gone.ensures ∙ c.requires.numbered

pub returns : goal.returns
returns g c =
    let ended = c.in_ok-finish.ensures in
    board_has_each c.args.seats.items c.in_ok-gone.gone.items c.in_ok-gone.ensures c.args.collector.holder.heap c.requires.limits c.requires.numbered c.args.full c.requires.refused c.args.collector.holder.known.collector.log
    c.in_ok-finish.field-0 ended.heap ended.logs ended.unused.one
