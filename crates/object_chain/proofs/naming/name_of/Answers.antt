use Rattle.std.proofs.Common.{[], ◌∷◌, refl, arith}
use Rattle.object_chain.proofs.Named.{name_load, name_load_is_due, loaded_name_is_held}
use Rattle.object_chain.proofs.naming.name_of.Goals as goal

pub returns-clause-steps : goal.returns-clause-steps
returns-clause-steps g c = (
  name_load c.args.head c.step-word.result ∷ [],
  c.step_laws.ensures.one c.args.holder.now c.step-word.new.self (name_load c.args.head c.step-word.result).step c.step-word.result (name_load_is_due c.args.holder.now c.args.head c.requires.begins)
      (record { stepped = c.step-word.ensures.stepped; told = c.step-word.ensures.told }),
  record { word = c.step-word.result; loaded = (0, omega arith, refl); name_is = c.told.ensures },
)

pub returns-clause-held : goal.returns-clause-held
returns-clause-held g c = loaded_name_is_held c.args.holder.now c.args.head c.step-word.result c.told.result c.requires.begins c.step-word.ensures.told c.told.ensures
