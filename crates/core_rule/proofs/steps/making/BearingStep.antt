-- A birth, the last one of an object or an earlier one.
use Rattle.std.proofs.Common.{◌≡◌, ℕ, ◌<◌, Bool, true, false, if◌then◌else◌, Some, refl, sym, subst, ◌*◌}
use Rattle.core_rule.proofs.Terms.{Heap, last_answer, Bearing, State, seat_at, state_after_due, entries_shown, Move, is_last_birth, last_birth_move, birth_move, Seat, InTable}
use Rattle.core_rule.proofs.Terms.{HasWord, address_of, Book, HasBirthColour, IsBorn, Rule}
use Rattle.core_machine.specs.declared.point.Point.TheVariants as points
use Rattle.core_machine.specs.Moves.{seat_after}
use Rattle.core_rule.proofs.colours.BornBits.{born_has_birth_colour}
use Rattle.core_rule.proofs.steps.Assemble.{MoveKeeps}
use Rattle.core_rule.proofs.steps.making.BirthStep.{birth_keeps_rule}
use Rattle.core_rule.proofs.steps.making.LastBirthStep.{last_birth_keeps_rule}
use Rattle.core_rule.proofs.steps.StepKinds.{StepKind, IsStore, SeatShows, shows_none, shows_plain, looks_follow_birth, looks_go_at_birth, ComesFrom, tells_at_birth}

-- the birth that is due
abbrev bearing : ℕ → Seat → Bool → Move
bearing number seat last = if last then last_birth_move number seat else birth_move seat

bearing_keeps : (heap : Heap) (state : State) (book : Book) (number : ℕ) → Rule heap state book → number < heap.seats → (seat_at state number).point ≡ points.Making Bearing
    → (last : Bool) → is_last_birth (seat_at state number) ≡ last → MoveKeeps heap state book number (bearing number (seat_at state number) last)
bearing_keeps heap state book number rule here point_is true last machine = last_birth_keeps_rule heap state book number rule here point_is last machine
bearing_keeps heap state book number rule here point_is false more machine = birth_keeps_rule heap state book number rule here point_is more machine

bearing_shows : (heap : Heap) (state : State) (number : ℕ) (last : Bool)
    → SeatShows number (seat_at state number) (points.Making Bearing) (entries_shown heap state (Some (bearing number (seat_at state number) last)))
bearing_shows heap state number true = shows_plain number (seat_at state number) (points.Making Bearing) _ tt
bearing_shows heap state number false = shows_none

bearing_comes : (number : ℕ) (seat : Seat) (found : ℕ) → seat.point ≡ points.Making Bearing → (last : Bool) → ComesFrom (points.Making Bearing) (seat_after (bearing number seat last) found).point
bearing_comes number seat found point_is true = tt
bearing_comes number seat found point_is false = subst (ComesFrom (points.Making Bearing)) (sym point_is) tt

-- what it bears has the colour of the seat's births
bearing_colours : (heap : Heap) (state : State) (book : Book) → Rule heap state book → (number : ℕ) → number < heap.seats → (f : ℕ) → f < 16 * heap.groups → ¬ IsBorn heap state.words f → (last : Bool)
    → IsBorn heap (state_after_due heap state number (Some (bearing number (seat_at state number) last))).words f
    → HasBirthColour heap (state_after_due heap state number (Some (bearing number (seat_at state number) last))).words f (last_answer number book.history)
bearing_colours heap state book rule number here f within unborn true born = born_has_birth_colour heap state book rule f within unborn number here born
bearing_colours heap state book rule number here f within unborn false born = born_has_birth_colour heap state book rule f within unborn number here born

bearing_stores : (number : ℕ) (seat : Seat) (last : Bool) → ¬ IsStore (Some (bearing number seat last).step)
bearing_stores number seat true is = is
bearing_stores number seat false is = is

bearing_there : (heap : Heap) (number : ℕ) (seat : Seat) (last : Bool) → InTable heap (address_of (bearing number seat last).step) → HasWord heap (address_of (bearing number seat last).step)
bearing_there heap number seat true there = there
bearing_there heap number seat false there = there

-- all that is asked of it
pub step_kind_of_bearing : StepKind (points.Making Bearing)
step_kind_of_bearing = record {
  keeps = λ heap state book number rule here looks point_is machine. bearing_keeps heap state book number rule here point_is (is_last_birth (seat_at state number)) refl machine;
  shows = λ heap state number. bearing_shows heap state number (is_last_birth (seat_at state number));
  looks = record {
    follows = λ heap state number seat compares point_is. looks_follow_birth heap state number seat (is_last_birth seat);
    goes = λ heap state book rule number point_is. looks_go_at_birth heap state book rule number (is_last_birth (seat_at state number)) point_is;
    comes = λ heap number seat found point_is. bearing_comes number seat found point_is (is_last_birth seat);
  };
  words = record {
    bears = λ heap state book rule number here f within unborn. bearing_colours heap state book rule number here f within unborn (is_last_birth (seat_at state number));
    stores = λ heap number seat is. absurd (bearing_stores number seat (is_last_birth seat) is);
    there = λ heap state book rule number here point_is low. bearing_there heap number (seat_at state number) (is_last_birth (seat_at state number)) low;
  };
  found = λ heap state book number stands here point_is. tells_at_birth heap state book number stands here (λ idle. cc (point_is, idle)) (is_last_birth (seat_at state number));
}
