use Rattle.std.proofs.Common.{sym, ◌∙◌, arith}
use Rattle.core_machine.proofs.table_lemmas.Grey.{grey_position_within_group}
use Rattle.core_machine.proofs.collector.marking.pass_on.Goals as goal

pub overflow_add-result : goal.overflow_add-result
overflow_add-result c =
    omega (arith, c.requires.group, c.requires.limits.groups_fit, grey_position_within_group c.args.word c.in-Some.position (sym c.lowest_grey.ensures ∙ c.in-Some.is))
