-- A party is let go, as C has it.
use Rattle.std.specs.Prelude.{◌≡◌, Option, Some, None, Result, Ok, Err}
use Rattle.fodderpause_c.specs.declared.party.Party.{Party}
use Rattle.fodderpause_c.specs.declared.party.Party.TheVariants.{OfSeat, OfCollector}
use Rattle.fodderpause_c.specs.declared.refusal.Refusal.{Refusal}
use Rattle.fodderpause_c.specs.declared.refusal.Refusal.TheVariants.{NoParty}

-- the seat behind the handle goes; a collector stays, and that is refused
abbrev pub DropsSeat : Option Party → Option Party → Result (Unit {0}) Refusal → Type 0
DropsSeat (Some (OfSeat held)) new (Ok done) = new ≡ None
DropsSeat (Some (OfCollector held)) new (Err NoParty) = new ≡ Some (OfCollector held)
DropsSeat None new (Err NoParty) = new ≡ None
DropsSeat _ _ _ = ⊥

-- the collector behind the handle goes; a seat stays, and that is refused
abbrev pub DropsCollector : Option Party → Option Party → Result (Unit {0}) Refusal → Type 0
DropsCollector (Some (OfCollector held)) new (Ok done) = new ≡ None
DropsCollector (Some (OfSeat held)) new (Err NoParty) = new ≡ Some (OfSeat held)
DropsCollector None new (Err NoParty) = new ≡ None
DropsCollector _ _ _ = ⊥
