use Rattle.heap_table.specs.Ahead.{seat_in}
use Rattle.heap_table.proofs.Ways.{WhileFollowing}
use Rattle.heap_table.proofs.way.follow.Given as goal

abbrev pub invariant-loop-left : goal.invariant-loop-left
invariant-loop-left g l =
    WhileFollowing l.table.table_id l.table.key l.fn.token.table_id l.heap l.number l.party.seat l.command l.fn.way.part (seat_in l.fn.token.me) l.token.table_id l.token.me l.fragment l.left

abbrev pub decreases-loop-left : goal.decreases-loop-left
decreases-loop-left g l = l.left
