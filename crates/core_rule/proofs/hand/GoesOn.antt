-- The three ways on of a gather.
use Rattle.std.specs.Prelude.{if◌then◌else◌}
use Rattle.std.proofs.Common.{◌≡◌, ◌∙◌, subst, ℕ, ◌+◌, ◌==◌, Bool, true, false, List, [], length, take, drop, refl, sym, ap, arith}
use Rattle.std.proofs.lemmas.List.{length-append, take-append-drop}
use Rattle.core_rule.proofs.Terms.{Entry, Command, Heap, spine_need_of, Gathering, tally, fragments_gathered, gather_next, last_claimed, refusal_point, settled_point, MakesObject}
use Rattle.core_rule.proofs.Terms.{IsArrayCall, Seat, need, spine_need, granted_at, placed_at, refused_at, UsedStands, GathersRight, Holding, fragments_in_hand, Owner, bears_bit}
use Rattle.core_rule.proofs.Terms.{HasPlace}
use Rattle.heap_model.specs.declared.command.Command.TheVariants as commands
use Rattle.core_machine.specs.declared.point.Making.{Making}
use Rattle.core_machine.specs.declared.point.Point.TheVariants as points
use Rattle.core_machine.proofs.seat_lemmas.Fitting.{goes_on_cases, returning_cases, settled_cases}
use Rattle.core_rule.proofs.spines.NoPlaces.{same_range_away}
use Rattle.core_rule.proofs.budgets.NoneMade.{SameWeights}
use Rattle.core_rule.proofs.entries.Begins.{SameData, begun_has_same_data}
use Rattle.core_rule.proofs.hand.Bodies.{in_hand_of_same}
use Rattle.core_rule.proofs.gather.GatherMoves.{gathers_right_untried}
use Rattle.core_rule.proofs.lists.Tallies.{tally-append, tally_of_taken_and_dropped}

-- what was gathered is the seat's, however it is parted into hand and reserve
pub holding_goes_on : (heap : Heap) (owner : ℕ → Owner) (number : ℕ) (seat : Seat) → seat.body ≡ [] → Holding owner number seat.reserve seat.hand seat.body
    → Holding owner number (gather_next heap seat).reserve (gather_next heap seat).hand (gather_next heap seat).body
holding_goes_on heap owner number seat none holding =
    goes_on_cases (λ s. Holding owner number s.reserve s.hand s.body) heap seat
    (λ enough. record {
      held = λ f. omega (arith, holding.held f, tally_of_taken_and_dropped f (need seat) (fragments_gathered seat), tally-append f seat.reserve seat.hand);
      borne = λ f. rw (in_hand_of_same (take (need seat) (fragments_gathered seat))) (omega (arith, unborn f));
    })
    (λ few left. holding)
    (λ few tried. holding)
  where
    unborn : (f : ℕ) → bears_bit number (owner f) ≡ 0
    unborn f = let e : tally f (fragments_in_hand seat.hand seat.body) ≡ tally f seat.hand = rw none refl in omega (arith, e, holding.borne f)

-- it is as many fragments
pub held_length_goes_on : (heap : Heap) (seat : Seat) → seat.body ≡ []
    → length (gather_next heap seat).reserve + length (fragments_in_hand (gather_next heap seat).hand (gather_next heap seat).body) ≡ length seat.reserve + length (fragments_in_hand seat.hand seat.body)
held_length_goes_on heap seat none =
    goes_on_cases (λ s. length s.reserve + length (fragments_in_hand s.hand s.body) ≡ length seat.reserve + length (fragments_in_hand seat.hand seat.body)) heap seat
    (λ enough. rw (in_hand_of_same (take (need seat) (fragments_gathered seat)), none)
    (omega (arith, length_in_two_sections (need seat) (fragments_gathered seat), length-append seat.reserve seat.hand)))
    (λ few left. refl)
    (λ few tried. refl)
  where
    length_in_two_sections : (n : ℕ) (xs : List ℕ) → length (take n xs) + length (drop n xs) ≡ length xs
    length_in_two_sections n xs = sym (length-append (take n xs) (drop n xs)) ∙ ap length (take-append-drop n xs)

-- what a gather knows stays, where it gave nothing back
pub gathers_right_goes_on : (heap : Heap) (owner : ℕ → Owner) (number : ℕ) (since : List Entry) (seat : Seat) → seat.given ≡ 0
    → GathersRight heap owner number since seat.cursor seat.tried seat.given
    → GathersRight heap owner number since (gather_next heap seat).cursor (gather_next heap seat).tried (gather_next heap seat).given
gathers_right_goes_on heap owner number since seat none gathers =
    goes_on_cases (λ s. GathersRight heap owner number since s.cursor s.tried s.given) heap seat
    (λ enough. subst (λ n. GathersRight heap owner number since (last_claimed heap seat) 0 n) (sym none) (gathers_right_untried heap owner number since (last_claimed heap seat)))
    (λ few left. gathers)
    (λ few tried. gathers)

-- nothing else of the seat changes, and it stands at a point of making
pub record StaysMaking (old new : Seat) : Type 0 where
  pub same : SameData old new
  pub making : Making
  pub point_is : new.point ≡ points.Making making

-- it is so on each way
pub stays_making_goes_on : (heap : Heap) (seat : Seat) → StaysMaking seat (gather_next heap seat)
stays_making_goes_on heap seat =
    goes_on_cases (λ s. StaysMaking seat s) heap seat
    (λ enough. record { same = begun_has_same_data seat _ _ _ _ _ _ _ _ _; making = settled_point seat.command; point_is = refl })
    (λ few left. record { same = begun_has_same_data seat _ _ _ _ _ _ _ _ _; making = Gathering; point_is = refl })
    (λ few tried. record { same = begun_has_same_data seat _ _ _ _ _ _ _ _ _; making = refusal_point seat.hand; point_is = refl })

-- the spine words that the seat's call needs are granted, and have no place yet; and it found none to be in use
pub record IsUnplaced (words : ℕ) (seat : Seat) : Type 0 where
  pub granted : granted_at seat seat.point ≡ words
  pub placed : (half : ℕ) → placed_at half seat seat.point ≡ 0
  pub refused : refused_at seat seat.point ≡ 0
  pub no_place : ¬ HasPlace seat seat.point
  pub none_used : (heap : Heap) (history : List Entry) (number : ℕ) → UsedStands heap history number seat seat.point

-- a record has no spine words
record_no_words : (command : Command) → MakesObject command → (IsArrayCall command → ⊥) → spine_need_of command ≡ 0
record_no_words (commands.New d fields) made other = refl
record_no_words (commands.Array d cells) made other = absurd (other tt)
record_no_words _ made other = absurd made

pub zero_either_way : (b : Bool) → ◌≡◌ {A = ℕ} (if b then 0 else 0) 0
zero_either_way true = refl
zero_either_way false = refl

-- so it weighs what it weighed, where as many words were granted and none were placed or refused
pub same_weights_where_unplaced : (words : ℕ) (old now : Seat) → granted_at old old.point ≡ words → ((half : ℕ) → placed_at half old old.point ≡ 0) → refused_at old old.point ≡ 0 → IsUnplaced words now
    → SameWeights old now
same_weights_where_unplaced words old now granted placed refused is = record {
  granted = is.granted ∙ sym granted;
  placed = λ half. is.placed half ∙ sym (placed half);
  refused = is.refused ∙ sym refused;
  range = same_range_away old now is.no_place;
}

-- so it is where what was claimed is to be given back
pub unplaced_where_refusing : (seat : Seat) (hand : List ℕ) → seat.point ≡ points.Making (refusal_point hand) → IsUnplaced (spine_need seat) seat
unplaced_where_refusing seat hand point_is =
    returning_cases (λ m. seat.point ≡ points.Making m → IsUnplaced (spine_need seat) seat) hand
    (λ none is. rw is record { granted = refl; placed = λ half. refl; refused = refl; no_place = λ has. has; none_used = λ heap history number. tt })
    (λ some is. rw is record { granted = refl; placed = λ half. refl; refused = refl; no_place = λ has. has; none_used = λ heap history number. tt })
    point_is

-- and on each way on
pub unplaced_goes_on : (heap : Heap) (seat : Seat) → MakesObject seat.command → IsUnplaced (spine_need seat) (gather_next heap seat)
unplaced_goes_on heap seat made =
    goes_on_cases (IsUnplaced (spine_need seat)) heap seat
    (λ enough. settled_cases (λ m. (next : Seat) → next.command ≡ seat.command → next.point ≡ points.Making m → IsUnplaced (spine_need seat) next) seat.command
    (λ an_array next is point_is. rw (point_is, is) record { granted = refl; placed = λ half. refl; refused = refl; no_place = λ has. has; none_used = λ heap history number. tt })
    (λ other next is point_is. rw (point_is, is) record {
      granted = refl;
      placed = λ half. ap (λ n. if next.spine.half == half then n else 0) (record_no_words seat.command made other) ∙ zero_either_way (next.spine.half == half);
      refused = refl;
      no_place = other;
      none_used = λ heap history number. tt;
    })
    _ refl refl)
    (λ few left. record { granted = refl; placed = λ half. refl; refused = refl; no_place = λ has. has; none_used = λ heap history number. tt })
    (λ few tried. unplaced_where_refusing _ seat.hand refl)
