-- Each turn that neither waits nor ends a cycle leaves fewer turns, a file for each stretch of a cycle.
pub mod ScannedCounts
pub mod FewWords
pub mod Lefts
pub mod NextPositions
pub mod WorkCases
pub mod LookTurns
pub mod MarkingTurns
pub mod SpineTurns
pub mod CopyTurns
pub mod SweepTurns
use Rattle.std.proofs.Common.{refl}
use Rattle.core_rule.specs.turns.TurnsLeft.{EachTurnLeavesFewer}
use Rattle.core_rule.proofs.steps.collector.{turn_kind_of_each_stage}

pub each_turn_leaves_fewer : EachTurnLeavesFewer
each_turn_leaves_fewer heap state book rule stepped = (turn_kind_of_each_stage state.collector.stage).fewer rule.marks_stand.heap_marks.few heap state book rule refl stepped
