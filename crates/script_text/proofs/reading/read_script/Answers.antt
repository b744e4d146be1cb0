use Rattle.script_text.specs.Faults.{first_fault}
use Rattle.script_text.specs.Grammar.{IsScript}
use Rattle.script_text.proofs.Texts.{GivesOnly-from_read}
use Rattle.script_text.proofs.Whole.{first_fault-none, same_script}
use Rattle.script_text.proofs.reading.read_script.Goals as goal

pub returns-clause-only : goal.returns-clause-only
returns-clause-only c =
    let form = c.args.form in
    let text = c.args.text.now in
    GivesOnly-from_read (IsScript form text) (first_fault form text) _ (same_script form text) (first_fault-none form text) c.read.ensures.found c.read.ensures.fault
