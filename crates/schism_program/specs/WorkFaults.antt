-- What faults of the layers below make of the work.
use Rattle.script_text.specs.declared.cause.ScriptFault.{ScriptFault}
use Rattle.script_text.specs.declared.cause.ScriptFault.TheVariants as texts
use Rattle.log_merge.specs.declared.fault.CheckFault.{CheckFault}
use Rattle.log_merge.specs.declared.fault.CheckFault.TheVariants as checks
use Rattle.schism_program.specs.declared.fault.WorkFault.{WorkFault}
use Rattle.schism_program.specs.declared.fault.WorkFault.TheVariants as works

-- a text that wasn't read is refused at its faulty line
abbrev pub fault_of_text : ScriptFault → WorkFault
fault_of_text (texts.Line fault) = works.Refused fault
fault_of_text texts.Memory = works.Memory

-- a history that isn't legal has a first line that isn't
abbrev pub fault_of_check : CheckFault → WorkFault
fault_of_check (checks.NotLegal line) = works.NotLegal line
fault_of_check checks.Memory = works.Memory
