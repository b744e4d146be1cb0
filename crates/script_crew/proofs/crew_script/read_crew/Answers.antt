use Rattle.script_text.proofs.Texts.{GivesOnly-from_read}
use Rattle.script_crew.specs.CrewText.{IsCrewText, first_crew_fault}
use Rattle.script_crew.proofs.CrewTexts.{first_crew_fault-none, same_crew}
use Rattle.script_crew.proofs.crew_script.read_crew.Goals as goal

pub returns-clause-only : goal.returns-clause-only
returns-clause-only c =
    let text = c.args.text.now in
    GivesOnly-from_read (IsCrewText text) (first_crew_fault text) _ (same_crew text) (first_crew_fault-none text) c.read.ensures.found c.read.ensures.fault
