-- A seat at a point where no value is watched has its standing in the cycle.
use Rattle.std.proofs.Common.{◌≡◌, ℕ, List, Bool, true, false, None, arith}
use Rattle.core_rule.proofs.Terms.{Heap, black_births, sweep, Point, ShadingOld, ShadingNew, ShadingSide, Swapping, Replacing, at, has_barrier_of, register_head, side_register_of, Seat, Colour, IsMarked, BornColours, IsBetween, SeatInCycle}
use Rattle.core_rule.proofs.Terms.{FieldStands, ShadedStands, RootsStand, WhileAccess, WhilePolling, Owner, AnswerStands}
use Rattle.core_machine.specs.declared.table.address.Address.TheVariants.{Answer}
use Rattle.core_machine.specs.declared.point.Point.TheVariants as points
use Rattle.core_machine.specs.declared.point.Polling.{Polling}
use Rattle.core_machine.specs.declared.point.Access.{Access}
use Rattle.core_machine.specs.declared.point.Side.TheVariants.{Expected, New}
use Rattle.core_rule.proofs.cycle.Barriers.{between_has_barrier}
use Rattle.core_rule.proofs.lists.Options.{if_some_of_none}
use Rattle.core_rule.proofs.cycle.CycleFrames.{SameAnswer, answers_agree_still}

-- the point is none of a set or an answer
abbrev pub IsApart : Point → Type 0
IsApart (points.Access point) = ⊥
IsApart (points.Polling point) = ⊥
IsApart _ = Unit {0}

-- no value is watched, nor was one shaded, at such a point of the seat's call
abbrev pub IsUnwatched : Seat → Access → Type 0
IsUnwatched seat ShadingOld = ⊥
IsUnwatched seat ShadingNew = ⊥
IsUnwatched seat Swapping = has_barrier_of seat ≡ false
IsUnwatched seat (ShadingSide New) = register_head (side_register_of seat Expected) ≡ None
IsUnwatched seat Replacing = has_barrier_of seat ≡ true → (register_head (side_register_of seat Expected) ≡ None) × (register_head (side_register_of seat New) ≡ None)
IsUnwatched seat _ = Unit {0}

abbrev pub IsUnwatchedAt : Seat → Point → Type 0
IsUnwatchedAt seat (points.Access point) = IsUnwatched seat point
IsUnwatchedAt seat (points.Polling polling) = ⊥
IsUnwatchedAt seat _ = Unit {0}

apart_unwatched : (seat : Seat) (point : Point) → IsApart point → IsUnwatchedAt seat point
apart_unwatched seat (points.Access point) apart = absurd apart
apart_unwatched seat (points.Polling polling) apart = absurd apart
apart_unwatched seat _ apart = tt

unwatched_answers : (phase answer asked : ℕ) (seat : Seat) (point : Point) → IsUnwatchedAt seat point → AnswerStands phase answer asked point
unwatched_answers phase answer asked seat (points.Polling polling) unwatched = absurd unwatched
unwatched_answers phase answer asked seat _ unwatched = tt

-- what holds wherever no value is watched
unwatched_access : (P : Access → Type 0) (seat : Seat) → ((point : Access) → IsUnwatched seat point → P point) → (point : Point) → IsUnwatchedAt seat point → WhileAccess P point
unwatched_access P seat holds (points.Access point) unwatched = holds point unwatched
unwatched_access P seat holds (points.Polling polling) unwatched = absurd unwatched
unwatched_access P seat holds _ unwatched = tt

unwatched_polling : (P : Polling → Type 0) (seat : Seat) (point : Point) → IsUnwatchedAt seat point → WhilePolling P point
unwatched_polling P seat (points.Polling polling) unwatched = absurd unwatched
unwatched_polling P seat _ unwatched = tt

not_both : (b : Bool) → b ≡ false → b ≡ true → ⊥
not_both b off on = absurd (cc (off, on))

-- once a seat has answered the phase of black births its barrier is on
unwatched_field : (heap : Heap) (words : List ℕ) (colour : ℕ → Colour) (seat : Seat) → IsBetween black_births sweep seat.answered
    → (point : Access) → IsUnwatched seat point → FieldStands heap words colour seat point
unwatched_field heap words colour seat snapped ShadingOld unwatched = absurd unwatched
unwatched_field heap words colour seat snapped ShadingNew unwatched = absurd unwatched
unwatched_field heap words colour seat snapped Swapping unwatched =
    absurd (not_both (has_barrier_of seat) unwatched (between_has_barrier seat record { from = omega (arith, snapped.from); upto = snapped.upto }))
unwatched_field heap words colour seat snapped _ unwatched = tt

unwatched_shaded : (colour : ℕ → Colour) (seat : Seat) (point : Access) → IsUnwatched seat point → ShadedStands colour seat point
unwatched_shaded colour seat ShadingNew unwatched = absurd unwatched
unwatched_shaded colour seat Swapping unwatched = λ on. absurd (not_both (has_barrier_of seat) unwatched (between_has_barrier seat on))
unwatched_shaded colour seat (ShadingSide New) unwatched = if_some_of_none (IsMarked colour) _ unwatched
unwatched_shaded colour seat Replacing unwatched =
    λ on. let none = unwatched (between_has_barrier seat on) in (if_some_of_none (IsMarked colour) _ none.0, if_some_of_none (IsMarked colour) _ none.1)
unwatched_shaded colour seat _ unwatched = tt

-- a seat that goes to such a point has its standing in the cycle
pub seat_in_cycle_unwatched : (heap : Heap) (words now : List ℕ) (owner later : ℕ → Owner) (colour coloured : ℕ → Colour) (phase answers : ℕ) (gone : Bool) (number : ℕ) (seat next : Seat)
    → SameAnswer seat next → IsUnwatchedAt next next.point → at heap now (Answer number) ≡ at heap words (Answer number)
    → BornColours later coloured number next.answered
    → SeatInCycle heap words phase answers gone owner colour number seat → SeatInCycle heap now phase answers gone later coloured number next
seat_in_cycle_unwatched heap words now owner later colour coloured phase answers gone number seat next same unwatched word births cycle = record {
  answers_told = answers_agree_still heap words now phase answers gone number seat next same word cycle.answers_told;
  answer = unwatched_answers phase next.answered next.asked next next.point unwatched;
  flight = record {
    set = λ marking snapped. unwatched_access (FieldStands heap now coloured next) next (unwatched_field heap now coloured next snapped) next.point unwatched;
    shaded = λ marking. unwatched_access (ShadedStands coloured next) next (unwatched_shaded coloured next) next.point unwatched;
    roots = λ begins. unwatched_polling (RootsStand coloured next) next next.point unwatched;
  };
  births = births;
}

-- so has one that goes to a point of neither a set nor an answer
pub seat_in_cycle_apart : (heap : Heap) (words now : List ℕ) (owner later : ℕ → Owner) (colour coloured : ℕ → Colour) (phase answers : ℕ) (gone : Bool) (number : ℕ) (seat next : Seat)
    → SameAnswer seat next → IsApart next.point → at heap now (Answer number) ≡ at heap words (Answer number)
    → BornColours later coloured number next.answered
    → SeatInCycle heap words phase answers gone owner colour number seat → SeatInCycle heap now phase answers gone later coloured number next
seat_in_cycle_apart heap words now owner later colour coloured phase answers gone number seat next same apart =
    seat_in_cycle_unwatched heap words now owner later colour coloured phase answers gone number seat next same (apart_unwatched next next.point apart)
