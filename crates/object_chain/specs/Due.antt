-- Which due steps are of a call of this crate, by the point.
use Rattle.std.specs.Prelude.{Option, None}
use Rattle.core_machine.specs.declared.point.Access.TheVariants.{Walking}
use Rattle.core_machine.specs.declared.point.Making.TheVariants.{Storing, Bearing}
use Rattle.core_machine.specs.declared.point.Point.{Point}
use Rattle.core_machine.specs.declared.point.Point.TheVariants.{Making, Access}
use Rattle.core_machine.specs.declared.step.Step.{Step}

-- a store or a birth
abbrev pub due_of_bearing : Point → Option Step → Option Step
due_of_bearing (Making Storing) due = due
due_of_bearing (Making Bearing) due = due
due_of_bearing _ due = None

-- the load of a link
abbrev pub due_of_walk : Point → Option Step → Option Step
due_of_walk (Access Walking) due = due
due_of_walk _ due = None
