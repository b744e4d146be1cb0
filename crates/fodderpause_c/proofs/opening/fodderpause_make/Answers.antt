use Rattle.std.proofs.Common.{length}
use Rattle.fodderpause_c.specs.Opening.{heap_with}
use Rattle.fodderpause_c.proofs.Refused.{refused_within}
use Rattle.fodderpause_c.proofs.opening.fodderpause_make.Goals as goal

pub returns-in-Err : goal.returns-in-Err
returns-in-Err c =
    refused_within (heap_with c.args.groups c.args.spine (length c.args.seats.now) c.args.board) c.args.collector.now.pointer.party c.args.seats.now c.in-Err.refusal c.refusal_code.result c.in-Err.ensures.0 c.in-Err.ensures.1 c.refusal_code.ensures
