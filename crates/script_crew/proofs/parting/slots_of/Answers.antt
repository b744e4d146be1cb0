use Rattle.std.proofs.Common.{◌+◌, map, take, slice_index_or, subst, sym, arith}
use Rattle.std.proofs.lemmas.List.{length-map, take_all, take_more}
use Rattle.std.proofs.lemmas.Result.{IfOk-from_err}
use Rattle.heap_model.specs.declared.command.Command.TheVariants.{New}
use Rattle.script_crew.specs.declared.job_line.JobLine.{JobLine}
use Rattle.script_crew.specs.Parting.{AreSlots, HasJobNumber, with_line}
use Rattle.script_crew.proofs.PartedLines.{slots_with_line}
use Rattle.script_crew.proofs.parting.slots_of.Goals as goal

-- the line beside a list
abbrev none : JobLine
none = record { job = 0; command = New 0 0 }

pub returns-in_err-slots : goal.returns-in_err-slots
returns-in_err-slots c = IfOk-from_err c.from_residual.result _ c.from_residual.ensures.0

pub loop-line-init : goal.loop-line-init
loop-line-init c = c.in_ok-slots.ensures

pub add-requires : goal.add-requires
add-requires c =
    let numbered : HasJobNumber (slice_index_or c.args.lines.now c.loop-line.line-index none) = c.requires c.loop-line.line-index none c.loop-line-test.true in
    omega (arith, numbered, c.loop-line.invariant.count, length-map c.loop-line.slots.items (λ slot. slot.items), c.loop-line.slots.ok.0)

pub returns-in_err-add : goal.returns-in_err-add
returns-in_err-add c = IfOk-from_err c.from_residual-in_err-add.result _ c.from_residual-in_err-add.ensures.0

pub loop-line-preserved : goal.loop-line-preserved
loop-line-preserved c =
    let lines = c.args.lines.now in
    let index = c.loop-line.line-index in
    let line : JobLine = slice_index_or lines index none in
    let slots = map (λ slot. slot.items) c.loop-line.slots.items in
    subst (λ slots. AreSlots (take (index + 1) lines) slots) (sym c.in_ok-add.ensures)
    (subst (λ done. AreSlots done (with_line slots line)) (sym (take_more lines index none c.loop-line-test.true))
    (slots_with_line (take index lines) line slots (c.requires index none c.loop-line-test.true) c.loop-line.invariant))

pub returns : goal.returns
returns c = subst (λ lines. AreSlots lines (map (λ slot. slot.items) c.loop-line.slots.items)) (take_all c.loop-line.line-index c.args.lines.now c.loop-line-test.false) c.loop-line.invariant
