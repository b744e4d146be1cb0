-- What contracts see of a berth's owner and of its helpers, and what they keep true.
use Rattle.std.specs.Prelude.{◌≡◌, ℕ}
use Rattle.atomic_table.specs.Seated.{TableId}
use Rattle.heap_table.specs.SeatHeld.{SeatHeld}
use Rattle.seat_berth.specs.Known.{OwnerKnown, HelperKnown}
use Rattle.seat_berth.specs.Owned.{IsTokenOf, IsOwner, IsHelper}
use Rattle.seat_berth.specs.Plays.{Party}

-- which berth it is, the seat for which that was made, and what the owner knows
pub record OwnerSeen : Type 0 where
  pub berth : TableId
  pub home : SeatHeld
  pub known : OwnerKnown

-- likewise of a helper
pub record HelperSeen : Type 0 where
  pub berth : TableId
  pub home : SeatHeld
  pub known : HelperKnown

-- the owner's token is of its berth
pub record KeepsOwner (berth mine : TableId) (party : ℕ) (me : Party) : Type 0 where
  pub of : IsTokenOf berth mine
  pub owner : IsOwner party me

-- so is a helper's
pub record KeepsHelper (berth mine : TableId) (me : Party) : Type 0 where
  pub of : IsTokenOf berth mine
  pub helper : IsHelper me
