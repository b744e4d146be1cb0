-- A seat that begins a call has its standing in a cycle: nothing is in flight yet.
use Rattle.std.proofs.Common.{ℕ, Bool, List, refl, sym, subst}
use Rattle.core_rule.proofs.Terms.{Heap, Point, LoadingMeta, Seat, Colour, BornColours, SeatInCycle, FieldStands, ShadedStands, RootsStand, WhileAccess, WhilePolling, Owner}
use Rattle.core_rule.proofs.Terms.{AnswerStands}
use Rattle.core_machine.specs.declared.point.Point.TheVariants as points
use Rattle.core_machine.specs.declared.point.Polling.{Polling}
use Rattle.core_machine.specs.declared.point.Polling.TheVariants.{Asking, Shading, Answering}
use Rattle.core_machine.specs.declared.point.Access.{Access}
use Rattle.core_rule.proofs.cycle.CycleFrames.{SameAnswer, seat_in_cycle_by_flight}
use Rattle.core_rule.proofs.entries.Starting.{IsFresh}

fresh_answers : (phase answer asked : ℕ) (point : Point) → IsFresh point → AnswerStands phase answer asked point
fresh_answers phase answer asked (points.Polling Shading) fresh = absurd fresh
fresh_answers phase answer asked (points.Polling Answering) fresh = absurd fresh
fresh_answers phase answer asked _ fresh = tt

fresh_access : (P : Access → Type 0) → P LoadingMeta → (point : Point) → IsFresh point → WhileAccess P point
fresh_access P opens points.Idle fresh = tt
fresh_access P opens (points.Making making) fresh = tt
fresh_access P opens points.Local fresh = tt
fresh_access P opens (points.Access LoadingMeta) fresh = opens
fresh_access P opens (points.Polling polling) fresh = tt
fresh_access P opens (points.Collecting collecting) fresh = tt
fresh_access P opens (points.Leaving leaving) fresh = tt
fresh_access P opens _ fresh = absurd fresh

fresh_polling : (P : Polling → Type 0) → P Asking → (point : Point) → IsFresh point → WhilePolling P point
fresh_polling P asks (points.Polling Asking) fresh = asks
fresh_polling P asks (points.Polling Shading) fresh = absurd fresh
fresh_polling P asks (points.Polling Answering) fresh = absurd fresh
fresh_polling P asks _ fresh = tt

pub seat_in_cycle_when_fresh : (heap : Heap) (words : List ℕ) (owner : ℕ → Owner) (colour : ℕ → Colour) (now answers : ℕ) (gone : Bool) (number : ℕ) (seat next : Seat)
    → SameAnswer seat next → IsFresh next.point
    → SeatInCycle heap words now answers gone owner colour number seat → SeatInCycle heap words now answers gone owner colour number next
seat_in_cycle_when_fresh heap words owner colour now answers gone number seat next same fresh cycle =
    seat_in_cycle_by_flight heap words words owner owner colour colour now answers gone number seat next same refl (fresh_answers now next.answered next.asked next.point fresh)
    record {
      set = λ marking snapped. fresh_access (FieldStands heap words colour next) tt next.point fresh;
      shaded = λ marking. fresh_access (ShadedStands colour next) tt next.point fresh;
      roots = λ begins. fresh_polling (RootsStand colour next) tt next.point fresh;
    }
    (subst (BornColours owner colour number) (sym same.answered) cycle.births) cycle
