-- A record that is begun goes on to gather.
use Rattle.std.proofs.Common.{◌≡◌, ℕ, List, sym, subst}
use Rattle.heap_model.specs.Needs.{need_of}
use Rattle.heap_model.specs.declared.command.Command.TheVariants.{New}
use Rattle.core_machine.specs.machine.Machine.{MayBegin, after_begin}
use Rattle.heap_table.specs.Made.{IsSound}
use Rattle.heap_table.specs.SeatHeld.{SeatHeld}
use Rattle.frag_claim.specs.Begins.{BeginsGathering}
use Rattle.frag_claim.proofs.Begun.{new_begins_gathering}

pub begun_record_begins_gathering : (old new : SeatHeld) (d fields need_ : ℕ) (kept : List ℕ) (at : ℕ) → IsSound old → MayBegin old.seat (New d fields) → new ≡ record old { seat = after_begin old.heap old.seat (New d fields) }
    → kept ≡ old.seat.reserve → at ≡ old.seat.cursor → need_of (New d fields) ≡ need_ → BeginsGathering new kept at need_
begun_record_begins_gathering old new d fields need_ kept at sound may is same_reserve same_cursor same_need =
    subst (λ (l : List ℕ). BeginsGathering new l at need_) (sym same_reserve)
    (subst (λ (n : ℕ). BeginsGathering new old.seat.reserve n need_) (sym same_cursor) (subst (BeginsGathering new old.seat.reserve old.seat.cursor) same_need (new_begins_gathering old new d fields sound may is)))
