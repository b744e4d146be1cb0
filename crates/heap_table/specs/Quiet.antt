-- The steps after which a party is the same whatever word it found.
use Rattle.std.specs.Prelude.{Bool, true, false}
use Rattle.core_machine.specs.declared.step.Step.{Step}
use Rattle.core_machine.specs.declared.step.Step.TheVariants.{Making, PollLoad, Access, Spine, Handshake, Copying, Turning}
use Rattle.core_machine.specs.declared.step.MakingStep.TheVariants.{Claim}
use Rattle.core_machine.specs.declared.step.AccessStep.TheVariants.{Shade}
use Rattle.core_machine.specs.declared.step.SpineStep.TheVariants.{BudgetTakeBack, SpineStore}
use Rattle.core_machine.specs.declared.step.CopyingStep.TheVariants.{CopyClaim, CopyLoad}
use Rattle.core_machine.specs.declared.step.TurningStep.TheVariants as turning

-- all stores are, and what marks, bears, frees and gives back
abbrev pub is_quiet : Step → Bool
is_quiet (Making (Claim group)) = false
is_quiet (Making step) = true
is_quiet PollLoad = false
is_quiet (Access (Shade fragment)) = true
is_quiet (Access step) = false
is_quiet (Spine (BudgetTakeBack words)) = true
is_quiet (Spine (SpineStore half offset fragment)) = true
is_quiet (Spine step) = false
is_quiet (Handshake step) = true
is_quiet (Copying (CopyClaim words)) = false
is_quiet (Copying (CopyLoad half offset)) = false
is_quiet (Copying step) = true
is_quiet (Turning (turning.LookLoad seat)) = false
is_quiet (Turning (turning.GroupLoad group)) = false
is_quiet (Turning (turning.ScanLoad fragment part)) = false
is_quiet (Turning (turning.MetaLoad fragment)) = false
is_quiet (Turning (turning.Clear group)) = false
is_quiet (Turning step) = true
