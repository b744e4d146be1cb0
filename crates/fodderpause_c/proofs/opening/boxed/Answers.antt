use Rattle.fodderpause_c.proofs.Opened.{is_boxing_after_next}
use Rattle.fodderpause_c.proofs.opening.boxed.Goals as goal

pub loop-holder-preserved : goal.loop-holder-preserved
loop-holder-preserved c =
    let now = c.loop-holder in
    is_boxing_after_next c.args.holders.items now.holder-iterator.rest.items c.next.new.self.rest.items c.in-Some.holder c.make.result now.boxes.items _ c.in_ok-boxed.boxed now.invariant c.in-Some.ensures.steps.0 c.make.ensures c.in_ok-boxed.ensures c.in_ok-push.ensures.items
