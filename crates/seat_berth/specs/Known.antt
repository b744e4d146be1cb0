-- What the parties of a berth know.
use Rattle.std.specs.Prelude.{ℕ, List, [], Option, None}
use Rattle.heap_table.specs.SeatHeld.{SeatHeld}

-- what the owner knows: the seat as it was handed in, while it is parked; and which words the tries to have it back have found, the last one first
pub record OwnerKnown : Type 0 where
  pub parked : Option SeatHeld
  pub words : List ℕ

-- a seat that a helper has: as its owner handed it in, and as the helper took it
pub record Taken : Type 0 where
  pub parked : SeatHeld
  pub took : SeatHeld

-- a seat that a helper had: as it took it, and as it gave it back
pub record Handed : Type 0 where
  pub took : SeatHeld
  pub gave : SeatHeld

-- what a helper knows: the seat that it has; which words its tries to take it have found, and which seats it had, the last one first
pub record HelperKnown : Type 0 where
  pub has : Option Taken
  pub words : List ℕ
  pub had : List Handed

-- an owner that has its seat, and has tried nothing yet
abbrev pub opening_owner : OwnerKnown
opening_owner = record { parked = None; words = [] }

-- a helper that has tried nothing yet
abbrev pub opening_helper : HelperKnown
opening_helper = record { has = None; words = []; had = [] }
