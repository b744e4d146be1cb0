-- A seat that is folded in has left by its data, as by its own entries.
use Rattle.std.proofs.Common.{◌≡◌, true, sym, subst, ◌∙◌}
use Rattle.heap_model.specs.calls.SeatState.{own_graph_seat}
use Rattle.heap_table.specs.CollectorHeld.{CollectorHeld}
use Rattle.heap_table.specs.SeatHeld.{SeatHeld}
use Rattle.mutator_seat.specs.Resting.{seat_state}
use Rattle.fodderpause_c.specs.Folding.{HasLeft, MayFold}
use Rattle.fodderpause_c.specs.declared.party.Party.{Party}
use Rattle.fodderpause_c.specs.declared.party.Party.TheVariants.{OfSeat, OfCollector}

pub folded_has_left : (into from : Party) (collector : CollectorHeld) (seat held : SeatHeld) → into ≡ OfCollector collector → from ≡ OfSeat seat → MayFold into from → held ≡ seat
    → held.seat.left ≡ (own_graph_seat (seat_state held)).left → held.seat.left ≡ true
folded_has_left into from collector seat held is from_is may same told =
    let left : HasLeft seat = subst (λ (p : Party). MayFold (OfCollector collector) p) from_is (subst (λ (p : Party). MayFold p from) is may) in
    told ∙ subst HasLeft (sym same) left
