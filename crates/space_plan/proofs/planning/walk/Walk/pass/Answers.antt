use Rattle.std.proofs.Common.{◌+◌, ◌≤◌, sym, ◌∙◌, subst, arith}
use Rattle.heap_model.specs.account.Noting.{IsSeatBelow}
use Rattle.space_plan.proofs.plan_lemmas.WalkLemmas.{Passed-more}
use Rattle.space_plan.proofs.planning.walk.Walk.pass.Goals as goal

pub count-requires-clause-seat : goal.count-requires-clause-seat
count-requires-clause-seat c = subst (λ h. IsSeatBelow h.seats c.args.entry.now) (sym c.requires.few.of_heap) c.requires.seat

pub pass-requires-2-clause-counted : goal.pass-requires-2-clause-counted
pass-requires-2-clause-counted c = omega (arith, c.in_ok-count.ensures.counted, c.requires.few.counted)

pub pass-requires-2-clause-few : goal.pass-requires-2-clause-few
pass-requires-2-clause-few c = c.count-2.ensures.fits 4194303 c.requires.few.ledger

pub returns-clause-passed : goal.returns-clause-passed
returns-clause-passed c = λ history passed.
    Passed-more c.args.self.now _ history c.args.entry.now passed c.count-2.ensures.heap c.in_ok-grow.ensures c.requires.few.of_heap c.count.ensures.heap (c.in_ok-count.ensures.tells history passed.account) (c.count-2.ensures.tells history passed.ledger)
    (c.in_ok-pass-2.ensures.tells history) (c.in_ok-pass.ensures.tells history passed.ledger passed.begun passed.ended)

pub returns-clause-fits : goal.returns-clause-fits
returns-clause-fits c = λ n fits.
    let counted : c.count.new.account.entries ≤ n + 1 = omega (arith, c.in_ok-count.ensures.counted, fits.counted) in
    record {
      of_heap = c.count.ensures.heap ∙ fits.of_heap ∙ sym c.count-2.ensures.heap;
      counted = counted;
      ledger = c.count-2.ensures.fits n fits.ledger;
      begun = c.in_ok-pass-2.ensures.fits n counted (c.count-2.ensures.fits n fits.ledger) fits.begun;
      most_taken = omega (arith, c.in_ok-pass.ensures.fits n fits.ledger fits.begun fits.most_taken);
    }
