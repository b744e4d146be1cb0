-- A seat is folded in, as C has it.
use Rattle.std.specs.Prelude.{◌≡◌, ℕ, true, false, Option, Some, None, Result, Ok, Err}
use Rattle.heap_model.specs.calls.SeatState.{own_graph_seat}
use Rattle.heap_table.specs.Handing.{with_folded}
use Rattle.heap_table.specs.SeatHeld.{SeatHeld}
use Rattle.mutator_seat.specs.Resting.{seat_state}
use Rattle.fodderpause_c.specs.Codes.{answer_code}
use Rattle.fodderpause_c.specs.declared.party.Party.{Party}
use Rattle.fodderpause_c.specs.declared.party.Party.TheVariants.{OfSeat, OfCollector}
use Rattle.fodderpause_c.specs.declared.refusal.Refusal.{Refusal}
use Rattle.fodderpause_c.specs.declared.refusal.Refusal.TheVariants.{NoParty, HasNotLeft}

-- by its own entries the seat has left
abbrev pub HasLeft : SeatHeld → Type 0
HasLeft held = (own_graph_seat (seat_state held)).left ≡ true

-- the one is a collector, and the other a seat that has left
abbrev pub MayFold : Party → Party → Type 0
MayFold (OfCollector collector) (OfSeat seat) = HasLeft seat
MayFold _ _ = ⊥

-- the seat isn't folded in for this cause: it hasn't left, or there is no collector or no seat
abbrev pub RefusesFold : Party → Party → Refusal → Type 0
RefusesFold (OfCollector collector) (OfSeat seat) HasNotLeft = (own_graph_seat (seat_state seat)).left ≡ false
RefusesFold (OfCollector collector) (OfSeat seat) _ = ⊥
RefusesFold _ _ NoParty = Unit {0}
RefusesFold _ _ _ = ⊥

-- collector and seat are of one heap's table, where they are that
abbrev pub AreOfOneHeap : Party → Party → Type 0
AreOfOneHeap (OfCollector collector) (OfSeat seat) = (seat.table ≡ collector.table) × (seat.heap ≡ collector.heap)
AreOfOneHeap _ _ = Unit {0}

-- likewise of what is behind two handles
abbrev pub AreOfOneHeapIfThere : Option Party → Option Party → Type 0
AreOfOneHeapIfThere (Some into) (Some from) = AreOfOneHeap into from
AreOfOneHeapIfThere _ _ = Unit {0}

-- the collector has the seat's data, and else is as it was
abbrev pub TakesIn : Party → Party → Party → Type 0
TakesIn (OfCollector old) (OfCollector new) (OfSeat seat) = new ≡ record old { known = with_folded old.known seat.number seat.seat }
TakesIn _ _ _ = ⊥

-- the collector takes in the seat, whose handle then has nothing; or both stay as they were
abbrev pub Folds : Option Party → Option Party → Option Party → Option Party → Result (Unit {0}) Refusal → Type 0
Folds (Some old) (Some new) (Some from) None (Ok done) = MayFold old from × TakesIn old new from
Folds old new from left (Ok done) = ⊥
Folds (Some old) new (Some from) left (Err refusal) = RefusesFold old from refusal × (new ≡ Some old) × (left ≡ Some from)
Folds old new from left (Err refusal) = (refusal ≡ NoParty) × (new ≡ old) × (left ≡ from)

-- and C is told which
abbrev pub FoldsIn : Option Party → Option Party → Option Party → Option Party → ℕ → Type 0
FoldsIn old new from left code = (answer : Result (Unit {0}) Refusal) × Folds old new from left answer × (code ≡ answer_code answer)
