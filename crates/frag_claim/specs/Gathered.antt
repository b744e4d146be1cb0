-- What a gather has come to, by the steps that it made.
use Rattle.std.specs.Prelude.{◌≡◌, ℕ, ◌+◌, ◌%◌, ◌<◌, ◌≤◌, true, false, List, [], ◌++◌, length, take, drop}
use Rattle.core_machine.specs.calls.Claims.{AreOfTried, ClaimsGroup}
use Rattle.core_machine.specs.declared.point.Point.TheVariants as points
use Rattle.core_machine.specs.declared.step.MakingStep.TheVariants.{Claim}
use Rattle.core_machine.specs.declared.step.Step.TheVariants.{Making}
use Rattle.core_machine.specs.seat.Making.{settled_point}
use Rattle.core_machine.specs.table.Fragments.{clear_in}
use Rattle.core_machine.specs.table.Operation.{word_after}
use Rattle.heap_table.specs.Made.{Made, FoundIn}
use Rattle.heap_table.specs.SeatHeld.{SeatHeld}
use Rattle.frag_claim.specs.Due.{IsGivingBack, has_its_fragments}

-- a claim among these steps stood at the group: what it got is just what the word found showed as free, and it left no fragment of the group free
pub record IsClaimed (made : List Made) (claimed : List ℕ) (group : ℕ) : Type 0 where
  pub claim : ClaimsGroup (FoundIn made) claimed group
  pub leaves : clear_in group (word_after (Making (Claim group)) claim.word) ≡ []

-- so many groups from the cursor's on were claimed, and this is what they gave
pub record HasClaimed (made : List Made) (groups cursor tried : ℕ) (claimed : List ℕ) : Type 0 where
  pub few : tried ≤ groups
  pub of_tried : AreOfTried groups cursor tried claimed
  pub claims : (i : ℕ) → i < tried → IsClaimed made claimed ((cursor + i) % groups)

-- of what was kept and claimed the hand has the first so many, and the rest is kept on
pub record HasGathered (made : List Made) (groups cursor need : ℕ) (before after hand : List ℕ) : Type 0 where
  pub claimed : List ℕ
  pub tried : ℕ
  pub claims : HasClaimed made groups cursor tried claimed
  pub hand_is : hand ≡ take need (before ++ claimed)
  pub rest_is : after ≡ drop need (before ++ claimed)

-- every group was claimed, and this is all that was kept and claimed
pub record IsExhausted (made : List Made) (groups : ℕ) (reserve : List ℕ) (found : ℕ) : Type 0 where
  pub claimed : List ℕ
  pub every : (group : ℕ) → group < groups → IsClaimed made claimed group
  pub found_is : found ≡ length reserve + length claimed

-- the object of the call has these fragments, and none of its words is stored
pub record HasItsFragments (old new : SeatHeld) (fragments : List ℕ) : Type 0 where
  pub same : new.seat.command ≡ old.seat.command
  pub point_is : new.seat.point ≡ points.Making (settled_point old.seat.command)
  pub body_is : new.seat.body ≡ fragments
  pub none_stored : new.seat.stored ≡ 0

-- claiming is over: the object has its fragments, or all that was claimed is to be given back; there is room for what is told still
pub record EndsClaiming (held : SeatHeld) : Type 0 where
  pub settled : has_its_fragments held.seat.point ≡ true → held.seat.point ≡ points.Making (settled_point held.seat.command)
  pub returning : has_its_fragments held.seat.point ≡ false → IsGivingBack held.seat.point
  pub none_given : held.seat.given ≡ 0
  pub none_stored : held.seat.stored ≡ 0
  pub room : 3 ≤ held.spare
  pub room_to_return : has_its_fragments held.seat.point ≡ false → length held.seat.hand + 3 ≤ held.spare
