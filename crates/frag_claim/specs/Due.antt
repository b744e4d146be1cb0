-- Which due steps are of a call of this crate, by the point.
use Rattle.std.specs.Prelude.{Bool, true, false, Option, None}
use Rattle.core_machine.specs.declared.point.Leaving.TheVariants.{Emptying}
use Rattle.core_machine.specs.declared.point.Making.TheVariants.{Gathering, GivingBack, Refusing, Placing, Storing}
use Rattle.core_machine.specs.declared.point.Point.{Point}
use Rattle.core_machine.specs.declared.point.Point.TheVariants.{Making, Leaving}
use Rattle.core_machine.specs.declared.step.Step.{Step}

-- a claim
abbrev pub due_of_claims : Point → Option Step → Option Step
due_of_claims (Making Gathering) due = due
due_of_claims _ due = None

-- a give back of what was claimed
abbrev pub due_of_returns : Point → Option Step → Option Step
due_of_returns (Making GivingBack) due = due
due_of_returns _ due = None

-- the give back of a reserve
abbrev pub due_of_emptying : Point → Option Step → Option Step
due_of_emptying (Leaving Emptying) due = due
due_of_emptying _ due = None

-- what was claimed is given back, or all was
abbrev pub IsGivingBack : Point → Type 0
IsGivingBack (Making GivingBack) = Unit {0}
IsGivingBack (Making Refusing) = Unit {0}
IsGivingBack _ = ⊥

-- the object has its fragments, and none of its words is stored
abbrev pub has_its_fragments : Point → Bool
has_its_fragments (Making Placing) = true
has_its_fragments (Making Storing) = true
has_its_fragments _ = false
