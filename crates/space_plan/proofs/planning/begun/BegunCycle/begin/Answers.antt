use Rattle.std.proofs.Common.{◌≡◌, [], ◌∷◌, ◌++◌, max, refl, subst, arith}
use Rattle.heap_model.specs.declared.heap.Heap.{Heap}
use Rattle.heap_model.specs.account.Cycles.{graph_of}
use Rattle.heap_model.specs.account.Windows.{up_to_cycle}
use Rattle.heap_model.specs.graph.Sizes.{HasReach}
use Rattle.space_plan.proofs.plan_lemmas.CycleSums.{BegunTells-begin, phase-begins}
use Rattle.space_plan.proofs.planning.begun.BegunCycle.begin.Goals as goal

pub returns-clause-tells : goal.returns-clause-tells
returns-clause-tells c = λ history entry begins ledger same account greatest.
    let heap = c.args.ledger.now.heap in
    let most : c.max.result ≡ max c.args.most_reach c.in_ok-reach.reach = omega arith in
    let sums = c.sums-sums.ensures.tells heap _ refl ledger.seats in
    let reach = c.in_ok-reach.ensures.reach _ account (phase-begins history entry begins) in
    BegunTells-begin heap history entry _ begins (subst (λ (h : Heap). HasReach (graph_of h (up_to_cycle (history ++ entry ∷ []))) c.in_ok-reach.reach) same reach) sums.reserves sums.since c.args.most_reach most greatest

pub returns-clause-fits : goal.returns-clause-fits
returns-clause-fits c = λ n counted ledger most. record {
  reach = omega (arith, counted, c.in_ok-reach.ensures.fits);
  reserves = (c.sums-sums.ensures.fits n ledger.seats).reserves;
  since = (c.sums-sums.ensures.fits n ledger.seats).since;
  most_reach = omega (arith, counted, most, c.in_ok-reach.ensures.fits);
}
