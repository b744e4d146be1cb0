use Rattle.heap_table.proofs.holder.HolderSharedSteps.found_by.Goals as goal

pub returns : goal.returns
returns g c = record { stepped = c.step.ensures.stepped; told = c.step.ensures.told }
