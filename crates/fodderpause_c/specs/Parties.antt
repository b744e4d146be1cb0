-- What is done with the party behind a handle.
use Rattle.std.specs.Prelude.{◌≡◌, Option, Some, None, Result, Err}
use Rattle.heap_table.specs.CollectorHeld.{CollectorHeld}
use Rattle.heap_table.specs.SeatHeld.{SeatHeld}
use Rattle.fodderpause_c.specs.declared.party.Party.{Party}
use Rattle.fodderpause_c.specs.declared.party.Party.TheVariants.{OfSeat, OfCollector}
use Rattle.fodderpause_c.specs.declared.refusal.Refusal.{Refusal}
use Rattle.fodderpause_c.specs.declared.refusal.Refusal.TheVariants.{NoParty}

-- the seat comes to this, and stays a seat; a collector stays as it is, and that is refused
abbrev pub PartyOnSeat : {A : Type 0} → (SeatHeld → SeatHeld → Result A Refusal → Type 0) → Party → Party → Result A Refusal → Type 0
PartyOnSeat ComesTo (OfSeat old) (OfSeat new) answer = ComesTo old new answer
PartyOnSeat ComesTo (OfSeat old) (OfCollector new) answer = ⊥
PartyOnSeat ComesTo (OfCollector old) new answer = (new ≡ OfCollector old) × (answer ≡ Err NoParty)

-- likewise of the collector
abbrev pub PartyOnCollector : {A : Type 0} → (CollectorHeld → CollectorHeld → Result A Refusal → Type 0) → Party → Party → Result A Refusal → Type 0
PartyOnCollector ComesTo (OfCollector old) (OfCollector new) answer = ComesTo old new answer
PartyOnCollector ComesTo (OfCollector old) (OfSeat new) answer = ⊥
PartyOnCollector ComesTo (OfSeat old) new answer = (new ≡ OfSeat old) × (answer ≡ Err NoParty)

-- there is a party before and after, of which this is true; or there is none, and that is refused
abbrev pub OnParty : {A : Type 0} → (Party → Party → Result A Refusal → Type 0) → Option Party → Option Party → Result A Refusal → Type 0
OnParty ComesTo (Some old) (Some new) answer = ComesTo old new answer
OnParty ComesTo (Some old) None answer = ⊥
OnParty ComesTo None new answer = (new ≡ None) × (answer ≡ Err NoParty)

-- the seat behind the handle comes to this; where there is none, all stays, and that is refused
abbrev pub OnSeat : {A : Type 0} → (SeatHeld → SeatHeld → Result A Refusal → Type 0) → Option Party → Option Party → Result A Refusal → Type 0
OnSeat ComesTo = OnParty (PartyOnSeat ComesTo)

-- likewise of the collector
abbrev pub OnCollector : {A : Type 0} → (CollectorHeld → CollectorHeld → Result A Refusal → Type 0) → Option Party → Option Party → Result A Refusal → Type 0
OnCollector ComesTo = OnParty (PartyOnCollector ComesTo)

-- the seat behind the handle comes to this, and the answer is shown so
abbrev pub ShowsSeat : {A B : Type 0} → (SeatHeld → SeatHeld → Result A Refusal → Type 0) → (Result A Refusal → B) → Option Party → Option Party → B → Type 0
ShowsSeat {A = A} ComesTo shown old new told = (answer : Result A Refusal) × OnSeat ComesTo old new answer × (told ≡ shown answer)

-- likewise of the collector
abbrev pub ShowsCollector : {A B : Type 0} → (CollectorHeld → CollectorHeld → Result A Refusal → Type 0) → (Result A Refusal → B) → Option Party → Option Party → B → Type 0
ShowsCollector {A = A} ComesTo shown old new told = (answer : Result A Refusal) × OnCollector ComesTo old new answer × (told ≡ shown answer)
