use Rattle.std.proofs.Common.{arith}
use Rattle.heap_model.proofs.call_lemmas.ManyTurnsLemmas.{unless_it_waits, has_waited, one_more_so, taken_up_to_wait}
use Rattle.heap_table.specs.ManyTurns.{MakesTurn}
use Rattle.heap_table.proofs.ManyTurns.{so_with_work, so_without_work, work_grow, grow_without_work, one_more_grow}
use Rattle.heap_table.proofs.collector.CollectorHolder.take_turns.Goals as goal

pub loop-made-preserved-then-works-gt0 : goal.loop-made-preserved-then-works-gt0
loop-made-preserved-then-works-gt0 g c =
    let before = c.loop-made.invariant in
    let works = c.work_on-works.ensures in (
      omega (arith, before.0, works.most),
      so_with_work _ _ _ _ _ _ c.if-works-gt0.true before.1 works.works,
      work_grow _ _ _ _ _ before.2 works.works,
    )

pub loop-made-preserved : goal.loop-made-preserved
loop-made-preserved g c =
    let before = c.loop-made.invariant in
    let works = c.work_on-works.ensures.works in
    let turn = c.turn-turn.ensures in
    let one : MakesTurn c.work_on-works.new.self c.turn-turn.new.self c.turn-turn.result.1 = record { found = c.turn-turn.result.0; turned = turn.turned; answer = turn.answer; told = turn.told } in (
      omega (arith, c.loop-made-test.true),
      one_more_so MakesTurn _ _ _ _ _ (so_without_work _ _ _ _ _ _ c.if-works-gt0.false before.1 works) one (unless_it_waits _ c.in_default.not-Waits),
      one_more_grow _ _ _ _ _ (grow_without_work _ _ _ _ _ c.if-works-gt0.false before.2 works) one,
    )

pub returns-in-Waits : goal.returns-in-Waits
returns-in-Waits g c =
    let before = c.loop-made.invariant in
    let turn = c.turn-turn.ensures in
    let one : MakesTurn c.work_on-works.new.self c.turn-turn.new.self c.turn-turn.result.1 = record { found = c.turn-turn.result.0; turned = turn.turned; answer = turn.answer; told = turn.told } in
    taken_up_to_wait MakesTurn _ _ _ _ _ _ c.loop-made-test.true (so_without_work _ _ _ _ _ _ c.if-works-gt0.false before.1 c.work_on-works.ensures.works) one (has_waited _ _ _ _ c.in-Waits.is)
