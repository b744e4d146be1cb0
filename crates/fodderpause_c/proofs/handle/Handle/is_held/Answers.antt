use Rattle.fodderpause_c.proofs.Bools.{same_bool}
use Rattle.fodderpause_c.proofs.handle.Handle.is_held.Goals as goal

pub returns : goal.returns
returns c = same_bool _ _ c.args.self.now.tells
