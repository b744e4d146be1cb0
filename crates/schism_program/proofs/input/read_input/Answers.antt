use Rattle.std.proofs.Common.{subst, rules}
use Rattle.io_edge.specs.Left.{LosesUpTo}
use Rattle.schism_program.proofs.Inputs.{work_reads_up_to_limit}
use Rattle.schism_program.proofs.input.read_input.Goals as goal

pub returns-in_err-input-clause-read_fault : goal.returns-in_err-input-clause-read_fault
returns-in_err-input-clause-read_fault g c = λ is.
    let left = g.S.Source.left c.args.source.now in
    let left_now = g.S.Source.left c.read_all.new.source in
    let lost : LosesUpTo left left_now c.in-Some.most = search rules in
    work_reads_up_to_limit c.args.work left left_now c.in-Some.ensures.some.0 (subst (λ n. LosesUpTo left left_now n) c.in-Some.ensures.some.1 lost)

pub returns-in_err-input-clause-memory : goal.returns-in_err-input-clause-memory
returns-in_err-input-clause-memory g c = λ is.
    let left = g.S.Source.left c.args.source.now in
    let left_now = g.S.Source.left c.read_all.new.source in
    let lost : LosesUpTo left left_now c.in-Some.most = search rules in
    work_reads_up_to_limit c.args.work left left_now c.in-Some.ensures.some.0 (subst (λ n. LosesUpTo left left_now n) c.in-Some.ensures.some.1 lost)
