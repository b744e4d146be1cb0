-- The stages at which the collector marks.
use Rattle.core_rule.proofs.Terms.{Stage, HasMarked}
use Rattle.core_machine.specs.declared.collector.stage.Stage.TheVariants as stages
use Rattle.core_rule.proofs.halves.HalvesFrames.{IsPlain}

-- the stage is one of the pass or of the scan
abbrev pub OfMarking : Stage → Type 0
OfMarking (stages.Passing group found) = Unit {0}
OfMarking (stages.Scanning scan) = Unit {0}
OfMarking (stages.Shading scan target next) = Unit {0}
OfMarking (stages.Addressing scan count) = Unit {0}
OfMarking (stages.Indexing s) = Unit {0}
OfMarking (stages.Spreading s target) = Unit {0}
OfMarking (stages.Blackening scan) = Unit {0}
OfMarking _ = ⊥

-- marking hasn't ended there
pub marking_has_not_ended : (stage : Stage) → OfMarking stage → ¬ HasMarked stage
marking_has_not_ended stages.Flipping marks ended = marks
marking_has_not_ended stages.Advancing marks ended = marks
marking_has_not_ended _ marks ended = ended

-- and nothing is copied, returned or counted
pub marking_is_plain : (stage : Stage) → OfMarking stage → IsPlain stage
marking_is_plain stages.Looking marks = marks
marking_is_plain stages.Advancing marks = marks
marking_is_plain (stages.Copying stage) marks = marks
marking_is_plain (stages.Examining group dead position counted) marks = marks
marking_is_plain (stages.Freeing group dead counted) marks = marks
marking_is_plain (stages.Returning group counted) marks = marks
marking_is_plain _ marks = tt
