use Rattle.std.proofs.Common.{sym, ◌∙◌, subst, arith}
use Rattle.std.proofs.lemmas.List.{take_all, take_more}
use Rattle.heap_model.specs.Heap.{IsHeap}
use Rattle.space_plan.specs.plan.Walking.{Passed}
use Rattle.space_plan.proofs.plan_lemmas.WalkLemmas.{WalkFits-wider, seat_at}
use Rattle.space_plan.proofs.planning.walk_over.Goals as goal

pub loop-entry-init : goal.loop-entry-init
loop-entry-init c = record { passed = c.in_ok-walk.ensures.passed; fits = c.in_ok-walk.ensures.fits; heap = c.in_ok-walk.ensures.heap }

pub pass-requires-clause-heap : goal.pass-requires-clause-heap
pass-requires-clause-heap c = subst IsHeap (sym c.loop-entry.invariant.heap) c.requires.heap

pub pass-requires-clause-few : goal.pass-requires-clause-few
pass-requires-clause-few c = WalkFits-wider c.loop-entry.entry-index 4194303 c.loop-entry.walk (omega (arith, c.loop-entry-test.true, c.requires.few)) c.loop-entry.invariant.fits

pub pass-requires-clause-seat : goal.pass-requires-clause-seat
pass-requires-clause-seat c =
    seat_at c.args.heap c.loop-entry.walk.ledger.heap c.loop-entry.invariant.heap c.args.entries.now c.requires.seats c.loop-entry.entry-index _ c.loop-entry-test.true

pub loop-entry-preserved : goal.loop-entry-preserved
loop-entry-preserved c = record {
  passed = subst (Passed c.pass.new.self) (sym (take_more c.args.entries.now c.loop-entry.entry-index _ c.loop-entry-test.true)) (c.in_ok-pass.ensures.passed _ c.loop-entry.invariant.passed);
  fits = c.in_ok-pass.ensures.fits c.loop-entry.entry-index c.loop-entry.invariant.fits;
  heap = c.pass.ensures.heap ∙ c.loop-entry.invariant.heap;
}

pub returns-clause-passed : goal.returns-clause-passed
returns-clause-passed c = subst (Passed c.loop-entry.walk) (take_all c.loop-entry.entry-index c.args.entries.now c.loop-entry-test.false) c.loop-entry.invariant.passed

pub returns-clause-fits : goal.returns-clause-fits
returns-clause-fits c = WalkFits-wider c.loop-entry.entry-index 4194304 c.loop-entry.walk (omega (arith, c.loop-entry.auto.entry-index-end, c.requires.few)) c.loop-entry.invariant.fits

pub returns-clause-heap : goal.returns-clause-heap
returns-clause-heap c = c.loop-entry.invariant.heap
