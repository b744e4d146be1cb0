-- What stands of a seat, and of the colours, once the next phase has begun.
use Rattle.std.proofs.Common.{◌≡◌, ◌⊎◌, ℕ, ◌+◌, Bool, true, false, List, inl, inr, refl, sym, ◌∙◌, subst, arith, ◌%◌, ◌≢◌, ap}
use Rattle.std.proofs.lemmas.Bool.Decides.{eqb_tells}
use Rattle.core_rule.proofs.Terms.{ShadingSide, Replacing, cycle_phases, Heap, Point, ShadingNew, Swapping, Fits, FitsWay, at, Seat, Colour, White, WordPointsTo, IsBetween, Coloured, SeatInCycle}
use Rattle.core_rule.proofs.Terms.{FieldStands, ShadedStands, RootsStand, WhileAccess, WhilePolling, Owner, AnswerStands}
use Rattle.heap_model.specs.PhasePlan.{clearing as clearing_phase, rest as resting, barriers as barriers_phase}
use Rattle.core_machine.specs.declared.table.address.Address.TheVariants.{Answer}
use Rattle.core_machine.specs.declared.point.Point.TheVariants as points
use Rattle.core_machine.specs.declared.point.Side.TheVariants.{New}
use Rattle.core_machine.specs.declared.point.Polling.TheVariants.{Asking, Shading, Answering}
use Rattle.core_rule.proofs.cycle.Barriers.{barrier_is_between}
use Rattle.core_rule.proofs.cycle.CycleFrames.{while_access_goes_on, field_stands_still}

-- no fragment is black in the first phase, and none is marked before it
pub coloured_in_next_phase : (heap : Heap) (words now : List ℕ) (owner : ℕ → Owner) (colour : ℕ → Colour) (fragments : ℕ → List ℕ) (phase : ℕ) → phase % cycle_phases ≢ clearing_phase
    → ((f source g : ℕ) → WordPointsTo heap now f source g → WordPointsTo heap words f source g)
    → Coloured heap words owner colour fragments phase → Coloured heap now owner colour fragments (phase + 1)
coloured_in_next_phase heap words now owner colour fragments phase within leads stands = record {
  rest = λ ended f. absurd (omega (arith, ended, within));
  early = λ first f black. absurd (cc (black, stands.rest (omega (arith, first)) f));
  born = stands.born;
  black = λ marking f source g black later. elim (eqb_tells (phase % cycle_phases) barriers_phase) [
    | inl first ↦ absurd (stands.early first.1 f black)
    | inr other ↦ stands.black (record { from = omega (arith, marking.from, marking.upto, other.1, within); upto = omega (arith, marking.from, marking.upto, within) }) f source g black (leads f source g later)
  ];
  first = λ marking f i k keeps marked. elim (eqb_tells (phase % cycle_phases) resting) [
    | inl none ↦ absurd (marked (stands.rest none.1 f))
    | inr other ↦ stands.first (record { from = omega (arith, other.1); upto = omega (arith, marking.from, marking.upto, within) }) f i k keeps marked
  ];
}

-- where nothing is marked any more the next phase is one of rest
pub coloured_at_rest : (heap : Heap) (words now : List ℕ) (owner : ℕ → Owner) (colour : ℕ → Colour) (fragments : ℕ → List ℕ) (phase : ℕ) → phase % cycle_phases ≡ clearing_phase
    → ((f : ℕ) → colour f ≡ White) → Coloured heap words owner colour fragments phase → Coloured heap now owner colour fragments (phase + 1)
coloured_at_rest heap words now owner colour fragments phase last white stands = record {
  rest = λ ended. white;
  early = λ first f black. absurd (cc (black, white f));
  born = stands.born;
  black = λ marking f source g black later. absurd (cc (black, white f));
  first = λ marking f i k keeps marked. absurd (marked (white f));
}

-- a seat has left, and stands idle, or it hasn't
present_or_idle : (heap : Heap) (seat : Seat) → Fits heap seat → (seat.left ≡ false) ⊎ (seat.point ≡ points.Idle)
present_or_idle heap seat fits = by seat.left (λ gone. (fits.gone gone).idle)
  where
    by : (left : Bool) → (left ≡ true → seat.point ≡ points.Idle) → (left ≡ false) ⊎ (seat.point ≡ points.Idle)
    by true idle = inr (idle refl)
    by false idle = inl refl

-- without the barrier no set shades
unshaded : (colour : ℕ → Colour) (seat : Seat) (point : Point) → FitsWay seat point → seat.answered % cycle_phases ≡ resting → WhileAccess (ShadedStands colour seat) point
unshaded colour seat (points.Access ShadingNew) fits off = let on = barrier_is_between seat fits.1 in absurd (omega (arith, on.from, off))
unshaded colour seat (points.Access Swapping) fits off = λ on. absurd (omega (arith, on.from, off))
unshaded colour seat (points.Access (ShadingSide New)) fits off = let on = barrier_is_between seat fits.1 in absurd (omega (arith, on.from, off))
unshaded colour seat (points.Access Replacing) fits off = λ on. absurd (omega (arith, on.from, off))
unshaded colour seat _ fits off = tt

-- what a seat at a point is about to answer, it has not answered
module _ (seat : Seat) (phase : ℕ) where
  -- a seat that has answered the phase is about to answer nothing
  unasked : (colour : ℕ → Colour) (point : Point) → AnswerStands phase seat.answered seat.asked point → seat.answered ≡ phase → WhilePolling (RootsStand colour seat) point
  unasked colour (points.Polling Asking) asks same = tt
  unasked colour (points.Polling Shading) asks same = absurd (omega (arith, asks.now, asks.next, same))
  unasked colour (points.Polling Answering) asks same = absurd (omega (arith, asks.now, asks.next, same))
  unasked colour _ asks same = tt

  waits : (point : Point) → AnswerStands phase seat.answered seat.asked point → seat.answered ≡ phase → AnswerStands (phase + 1) seat.answered seat.asked point
  waits (points.Polling Shading) asks same = absurd (omega (arith, asks.now, asks.next, same))
  waits (points.Polling Answering) asks same = absurd (omega (arith, asks.now, asks.next, same))
  waits _ asks same = tt

-- where every seat that is there has answered the phase, each seat has its standing when the next one begins
pub seat_in_cycle_next_phase : (heap : Heap) (words now : List ℕ) (owner : ℕ → Owner) (colour : ℕ → Colour) (phase answers : ℕ) (gone : Bool) (number : ℕ) (seat : Seat)
    → at heap now (Answer number) ≡ at heap words (Answer number) → ((f source g : ℕ) → WordPointsTo heap now f source g → WordPointsTo heap words f source g)
    → Fits heap seat → (gone ≡ false → answers ≡ phase)
    → SeatInCycle heap words phase answers gone owner colour number seat → SeatInCycle heap now (phase + 1) answers gone owner colour number seat
seat_in_cycle_next_phase heap words now owner colour phase answers gone number seat word leads fits done cycle =
    let told = cycle.answers_told in
    let has : seat.left ≡ false → seat.answered ≡ phase = λ present. sym told.told ∙ done (told.leaves ∙ present) in
    record {
      answers_told = record {
        told = told.told;
        leaves = told.leaves;
        word = word ∙ told.word;
        near = λ present. inr (omega (arith, has present));
        loaded = omega (arith, told.loaded);
      };
      answer = elim (present_or_idle heap seat fits) [
        | inl present ↦ waits seat phase seat.point cycle.answer (has present)
        | inr idle ↦ subst (AnswerStands (phase + 1) seat.answered seat.asked) (sym idle) tt
      ];
      flight = record {
        set = λ marking snapped. elim (present_or_idle heap seat fits) [
          | inl present ↦ while_access_goes_on (FieldStands heap words colour seat) (FieldStands heap now colour seat)
              (λ reaching. field_stands_still heap words now colour colour seat (λ f marked. marked) reaching (λ watching g later. inl (leads _ _ g later))) seat.point
              (cycle.flight.set (subst (IsBetween 2 5) (has present) snapped) snapped)
          | inr idle ↦ subst (WhileAccess (FieldStands heap now colour seat)) (sym idle) tt
        ];
        shaded = λ marking. elim (present_or_idle heap seat fits) [
          | inl present ↦ elim (eqb_tells (phase % cycle_phases) resting) [
            | inl none ↦ unshaded colour seat seat.point fits.way_at_point (ap (λ p. p % cycle_phases) (has present) ∙ none.1)
            | inr some ↦ cycle.flight.shaded record { from = omega (arith, some.1); upto = omega (arith, marking.from, marking.upto) }
          ]
          | inr idle ↦ subst (WhileAccess (ShadedStands colour seat)) (sym idle) tt
        ];
        roots = λ begins. elim (present_or_idle heap seat fits) [
          | inl present ↦ unasked seat phase colour seat.point cycle.answer (has present)
          | inr idle ↦ subst (WhilePolling (RootsStand colour seat)) (sym idle) tt
        ];
      };
      births = cycle.births;
    }
