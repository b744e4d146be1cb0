-- For the crates above: right after its begin, or its budget step, a call stands where gathering or giving back begins.
use Rattle.std.proofs.Common.{◌≡◌, ℕ, refl, sym, subst}
use Rattle.heap_model.specs.Needs.{need_of}
use Rattle.heap_model.specs.declared.command.Command.TheVariants.{New}
use Rattle.core_machine.specs.declared.point.Point.TheVariants as points
use Rattle.core_machine.specs.machine.Machine.{MayBegin, after_begin}
use Rattle.core_machine.specs.seat.Fits.{FitsPoint}
use Rattle.heap_table.specs.Made.{IsSound}
use Rattle.heap_table.specs.SeatHeld.{SeatHeld}
use Rattle.frag_claim.specs.Begins.{BeginsGathering}

-- a new record gathers from its begin on
pub new_begins_gathering : (old new : SeatHeld) (d fields : ℕ) → IsSound old → MayBegin old.seat (New d fields) → new ≡ record old { seat = after_begin old.heap old.seat (New d fields) }
    → BeginsGathering new old.seat.reserve old.seat.cursor (need_of (New d fields))
new_begins_gathering old new d fields sound may is = subst (λ (h : SeatHeld). BeginsGathering h old.seat.reserve old.seat.cursor (need_of (New d fields))) (sym is) (record {
  before = record old.seat { command = New d fields };
  rests = subst (FitsPoint old.heap old.seat) may.idle sound.fits.at_point;
  goes_on = refl;
  makes = tt;
  need_is = refl;
  reserve_is = refl;
  few = sound.fits.own.small_reserve;
  cursor_is = refl;
  granted = λ an_array. absurd an_array;
})
