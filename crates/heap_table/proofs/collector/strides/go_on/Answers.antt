use Rattle.std.proofs.Common.{◌∙◌}
use Rattle.heap_table.specs.Views.{known_by}
use Rattle.heap_table.proofs.ManyTurns.{one_more_onward, stage_from}
use Rattle.heap_table.proofs.collector.strides.go_on.Goals as goal

pub loop-made-preserved : goal.loop-made-preserved
loop-made-preserved g c =
    let heap = c.args.heap.now in
    let old = known_by c.args.token.now.me.0 in
    let now = known_by c.loop-made.token.me.0 in
    let new = known_by c.turn.new.token.me.0 in
    let before = c.loop-made.invariant in (
      c.turn.ensures.same ∙ before.0,
      c.turn.ensures.keeps,
      one_more_onward heap c.loop-made.made old now new c.in-Some.next before.2 c.in-Some.ensures.leads,
      stage_from heap old now new c.loop-made.at c.in-Some.next before.3 c.in-Some.ensures.leads,
    )
