use Rattle.array_spine.proofs.Grants.{made_steps_take_back}
use Rattle.array_spine.proofs.budget.drop_budget.Goals as goal

pub returns-clause-steps : goal.returns-clause-steps
returns-clause-steps g c = made_steps_take_back c.step_laws.ensures.one c.args.holder.now c.step.new.self c.args.budget.words c.step.result c.requires.begins c.step.ensures.stepped c.step.ensures.told
