use Rattle.std.proofs.Common.{refl, ◌∙◌, subst}
use Rattle.heap_model.specs.graph.Sizes.{HasReach}
use Rattle.space_plan.proofs.plan_lemmas.CycleSums.{BegunTells-opening}
use Rattle.space_plan.proofs.planning.begun.BegunCycle.opening.Goals as goal

pub returns-clause-tells : goal.returns-clause-tells
returns-clause-tells c = BegunTells-opening c.args.ledger.now.heap _ (subst (λ g. HasReach g c.in_ok-reach.reach) c.requires.graph c.in_ok-reach.ensures.reach) refl refl (c.from.ensures ∙ c.board_fragments.ensures)
