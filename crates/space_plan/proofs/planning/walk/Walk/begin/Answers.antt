use Rattle.std.proofs.Common.{[], sym, ap, ◌∙◌, subst, arith}
use Rattle.std.specs.Prelude.{sum}
use Rattle.heap_model.specs.graph.Graph.{opening}
use Rattle.heap_model.specs.graph.Objects.{made_counts}
use Rattle.space_plan.specs.plan.Walking.{LedgerTells}
use Rattle.space_plan.proofs.plan_lemmas.ReachedIds.{none_made_at_opening}
use Rattle.space_plan.proofs.planning.walk.Walk.begin.Goals as goal

pub opening-requires-clause-made : goal.opening-requires-clause-made
opening-requires-clause-made c = omega (arith, ap (λ g. sum (made_counts g)) c.in_ok-graph.ensures, none_made_at_opening c.args.heap)

pub returns-clause-passed : goal.returns-clause-passed
returns-clause-passed c = record {
  graph = c.in_ok-graph.ensures ∙ ap opening (sym c.opening-ledger.ensures.heap);
  account = c.in_ok-account.ensures.tells;
  ledger = subst (λ h. LedgerTells h c.opening-ledger.result []) (sym c.opening-ledger.ensures.heap) c.opening-ledger.ensures.tells;
  begun = c.in_ok-begun.ensures.tells;
  ended = c.none.ensures.tells c.opening-ledger.result.heap;
}

pub returns-clause-fits : goal.returns-clause-fits
returns-clause-fits c = record {
  of_heap = c.in_ok-account.ensures.heap ∙ sym c.opening-ledger.ensures.heap;
  counted = omega (arith, c.in_ok-account.ensures.tells.entries);
  ledger = c.opening-ledger.ensures.fits;
  begun = c.in_ok-begun.ensures.fits;
  most_taken = omega (arith, c.none.ensures.fits);
}
