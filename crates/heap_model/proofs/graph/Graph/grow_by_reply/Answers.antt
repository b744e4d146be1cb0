use Rattle.std.proofs.Common.{subst}
use Rattle.heap_model.specs.Command.{IsCommand}
use Rattle.heap_model.specs.graph.Replies.{Says}
use Rattle.heap_model.specs.declared.command.Command.{Command}
use Rattle.heap_model.specs.declared.command.Command.TheVariants.{New, Array}
use Rattle.heap_model.proofs.graph_changes.GraphGrowth.{present_seat_within_graph}
use Rattle.heap_model.proofs.graph.Graph.grow_by_reply.Goals as goal

pub add-requires-clause-seat : goal.add-requires-clause-seat
add-requires-clause-seat c = present_seat_within_graph c.args.self.now c.args.seat c.requires.present

pub add-requires-in-Array-Made-clause-seat : goal.add-requires-in-Array-Made-clause-seat
add-requires-in-Array-Made-clause-seat c = present_seat_within_graph c.args.self.now c.args.seat c.requires.present

pub put-requires-clause-seat : goal.put-requires-clause-seat
put-requires-clause-seat c = present_seat_within_graph c.args.self.now c.args.seat c.requires.present

pub put-requires-in-Num-default-clause-seat : goal.put-requires-in-Num-default-clause-seat
put-requires-in-Num-default-clause-seat c = present_seat_within_graph c.args.self.now c.args.seat c.requires.present

pub put-requires-in-Nil-default-clause-seat : goal.put-requires-in-Nil-default-clause-seat
put-requires-in-Nil-default-clause-seat c = present_seat_within_graph c.args.self.now c.args.seat c.requires.present

pub put-requires-in-Copy-default-clause-seat : goal.put-requires-in-Copy-default-clause-seat
put-requires-in-Copy-default-clause-seat c = present_seat_within_graph c.args.self.now c.args.seat c.requires.present

pub leave-requires : goal.leave-requires
leave-requires c = present_seat_within_graph c.args.self.now c.args.seat c.requires.present

pub set-requires-clause-seat : goal.set-requires-clause-seat
set-requires-clause-seat c = present_seat_within_graph c.args.self.now c.args.seat c.requires.present

pub add-requires-clause-target : goal.add-requires-clause-target
add-requires-clause-target c = (subst IsCommand c.in-New-Made.is-0 c.requires.in_range).0.1

pub add-requires-in-Array-Made-clause-target : goal.add-requires-in-Array-Made-clause-target
add-requires-in-Array-Made-clause-target c = (subst IsCommand c.in-Array-Made.is-0 c.requires.in_range).0.1

pub put-requires-clause-target : goal.put-requires-clause-target
put-requires-clause-target c = (subst IsCommand c.in-Get-Got.is-0 c.requires.in_range).0.1

pub put-requires-in-Num-default-clause-target : goal.put-requires-in-Num-default-clause-target
put-requires-in-Num-default-clause-target c = (subst IsCommand c.in-Num-default.is-0 c.requires.in_range).0.1

pub put-requires-in-Nil-default-clause-target : goal.put-requires-in-Nil-default-clause-target
put-requires-in-Nil-default-clause-target c = (subst IsCommand c.in-Nil-default.is-0 c.requires.in_range).1

pub put-requires-in-Copy-default-clause-target : goal.put-requires-in-Copy-default-clause-target
put-requires-in-Copy-default-clause-target c = (subst IsCommand c.in-Copy-default.is-0 c.requires.in_range).0.1

pub add-requires-clause-next : goal.add-requires-clause-next
add-requires-clause-next c = subst (Says c.args.self.now c.args.seat (New c.in-New-Made.d c.in-New-Made.fields)) c.in-New-Made.is-1 (subst (λ (x : Command). Says c.args.self.now c.args.seat x c.args.reply) c.in-New-Made.is-0 c.requires.said)

pub add-requires-in-Array-Made-clause-next : goal.add-requires-in-Array-Made-clause-next
add-requires-in-Array-Made-clause-next c = subst (Says c.args.self.now c.args.seat (Array c.in-Array-Made.d c.in-Array-Made.cells)) c.in-Array-Made.is-1 (subst (λ (x : Command). Says c.args.self.now c.args.seat x c.args.reply) c.in-Array-Made.is-0 c.requires.said)
