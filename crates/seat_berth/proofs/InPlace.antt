-- The berths of seats, each in its place, with one more or with another view of one.
use Rattle.std.proofs.Common.{◌≡◌, ℕ, zero, suc, ◌+◌, ◌<◌, List, [], ◌∷◌, ◌++◌, length, get_or, set, Option, Some, refl, sym, ap, ◌∙◌, arith}
use Rattle.std.specs.List.{slice_get}
use Rattle.seat_berth.specs.Berths.{AreInPlace, HelpsOne}
use Rattle.seat_berth.specs.Helped.{Helps}
use Rattle.seat_berth.specs.Parties.{HelperSeen}
use Rattle.seat_berth.specs.declared.helper.Helped.{Helped}

-- the berth of the next seat stands in its place
pub next_in_place : (first : ℕ) (berths : List HelperSeen) (next : HelperSeen) → AreInPlace first berths → next.home.number ≡ first + length berths → AreInPlace first (berths ++ next ∷ [])
next_in_place first [] next are is = (omega (arith, is), tt)
next_in_place first (berth ∷ berths) next are is = (are.0, next_in_place (suc first) berths next are.1 (omega (arith, is)))

-- a berth is that of the seat with its place's number
numbered : (first : ℕ) (berths : List HelperSeen) (place : ℕ) (old : HelperSeen) → AreInPlace first berths → old ≡ get_or berths place old → place < length berths → old.home.number ≡ first + place
numbered first [] place old are is within = absurd (omega (arith, within))
numbered first (berth ∷ berths) zero old are is within = let same : old.home.number ≡ berth.home.number = ap (λ (b : HelperSeen). b.home.number) is in omega (arith, same, are.0)
numbered first (berth ∷ berths) (suc place) old are is within = let more = numbered (suc first) berths place old are.1 is (omega (arith, within)) in omega (arith, more)

-- the berths are in place where one is another of the same home
pub still_in_place : (first : ℕ) (berths : List HelperSeen) (place : ℕ) (old new : HelperSeen) → AreInPlace first berths → old ≡ get_or berths place old → new.home ≡ old.home → AreInPlace first (set berths place new)
still_in_place first [] place old new are is home = tt
still_in_place first (berth ∷ berths) zero old new are is home = (ap (λ seat. seat.number) home ∙ ap (λ (b : HelperSeen). b.home.number) is ∙ are.0, are.1)
still_in_place first (berth ∷ berths) (suc place) old new are is home = (are.0, still_in_place (suc first) berths place old new are.1 is home)

-- what stands at a place that there is
got : (berths : List HelperSeen) (place : ℕ) (old : HelperSeen) → old ≡ get_or berths place old → place < length berths → slice_get berths place ≡ Some old
got [] place old is within = absurd (omega (arith, within))
got (berth ∷ berths) zero old is within = ap Some (sym is)
got (berth ∷ berths) (suc place) old is within = got berths place old is (omega (arith, within))

-- help at one of them
pub helps_one : (berths : List HelperSeen) (place : ℕ) (old new : HelperSeen) (helped : Helped) → AreInPlace 0 berths → old ≡ get_or berths place old → place < length berths → Helps old new helped
    → HelpsOne berths (set berths place new) place helped
helps_one berths place old new helped are is within helps = record {
  before = old;
  after = new;
  there = got berths place old is within;
  of = let at = numbered 0 berths place old are is within in omega (arith, at);
  helps = helps;
  others = refl;
}
