use Rattle.std.proofs.Common.{ap, sym, ◌∙◌}
use Rattle.log_merge.specs.Registers.{registers_after}
use Rattle.log_merge.proofs.merging.registers.Registers.pass.Goals as goal

pub returns-in-Said : goal.returns-in-Said
returns-in-Said c = c.pass_reply.ensures c.in-Said.seat ∙ ap (registers_after c.args.self.now.values) (sym c.in-Said.is)
