-- All that is asked of a kind of step of a seat, in one record for its point.
use Rattle.std.specs.Int.{bit_at}
use Rattle.std.specs.Prelude.{IfSome, option_map}
use Rattle.std.proofs.Common.{◌≡◌, ◌≢◌, ℕ, ◌+◌, ◌*◌, ◌-◌, ◌<◌, ◌≤◌, ◌⊎◌, List, Option, Some, sym, ◌∙◌, subst, arith, [], ◌∷◌, ap}
use Rattle.core_rule.proofs.Terms.{born_at, Heap, last_answer, Listing, Point, State, seat_at, state_after_due, entries_shown, found_by, IsMachine, Move, move_at, seat_after_due}
use Rattle.core_rule.proofs.Terms.{Said, Reply, Seat, InTable, HasWord, address_of, Book, HasBirthColour, IsBorn, Rule}
use Rattle.core_machine.specs.declared.point.Access.TheVariants.{Naming}
use Rattle.core_machine.specs.declared.point.Collecting.TheVariants.{Comparing}
use Rattle.core_machine.specs.declared.point.Making.TheVariants.{Storing}
use Rattle.core_machine.specs.declared.point.Point.TheVariants as points
use Rattle.core_machine.specs.declared.step.MakingStep.TheVariants.{NewbornStore}
use Rattle.core_machine.specs.declared.step.SpineStep.TheVariants.{SpineStore}
use Rattle.core_machine.specs.declared.step.Step.{Step}
use Rattle.core_machine.specs.declared.step.Step.TheVariants as steps
use Rattle.core_machine.specs.Moves.{seat_after}
use Rattle.core_machine.specs.declared.seat.looks.Looks.{Looks}
use Rattle.core_machine.specs.seat.Looks.{forgotten}
use Rattle.core_rule.specs.told.Found.{TellsWord}
use Rattle.core_rule.specs.looks.Looks.{LooksStand}
use Rattle.core_rule.specs.Stands.{Stands}
pub use Rattle.core_rule.proofs.entries.StepTells.{shows_none, shows_plain, local_reply_is_plain, shows_get, shows_reply_if, meta_reply_is_plain, shows_claim, shows_one, gives, SeatShows, refuses, refuses_words, shows_answer, shows_poll, shows_note}
use Rattle.core_rule.proofs.looks.Follows.{IsBlind, MoveFollows, looks_follow_way}
pub use Rattle.core_rule.proofs.looks.Follows.{looks_follow_blind_step, looks_follow_phase_load, looks_follow_get, looks_follow_old_load, looks_follow_meta, looks_follow_birth, looks_follow_refusal, looks_follow_answer, looks_follow_poll, looks_follow_compare}
use Rattle.core_rule.proofs.looks.Moves.{Goes, GoesBy, NoReplies, looks_go_quiet, empty_has_no_replies}
pub use Rattle.core_rule.proofs.looks.Moves.{looks_go_at_end, looks_go_at_first_seen, other_is_not_own, looks_go_at_reply, looks_go_at_get, looks_go_at_old_load, looks_go_at_meta, claim_has_no_replies, looks_go_at_birth, looks_go_at_refusal, looks_go_at_answer, looks_go_at_polling, looks_go_at_find}
pub use Rattle.core_rule.proofs.looks.Origins.{comes_from_usual, new_point_is_usual, field_point_is_usual, get_is_usual, comes_from_old_load, walk_is_usual, meta_is_usual, comes_from_grant, claim_is_usual, IsUsual, ComesFrom, store_point_is_usual, polling_over_is_usual, phase_load_is_usual}
use Rattle.core_rule.proofs.looks.Ways.{StaysFound}
pub use Rattle.core_rule.proofs.looks.Ways.{stays_found_after_walk, stays_found_after_budget, stays_found_after_claim}
use Rattle.core_rule.proofs.steps.Assemble.{Keeps, StepKeeps}
use Rattle.core_rule.proofs.words.BitsLeft.{fragment_bit_stays}
pub use Rattle.core_rule.proofs.words.BitsLeft.{spares, only_loads, beside, LeavesBits}
pub use Rattle.core_rule.proofs.told.StepsFind.{tells_at_poll, tells_at_meta, tells_at_birth, tells_at_refusal, tells_at_comparing}

-- the step that is due at the point keeps the rule
abbrev pub PointKeeps : Point → Type 0
PointKeeps point = (heap : Heap) (state : State) (book : Book) (number : ℕ) → Rule heap state book → number < heap.seats
    → LooksStand heap book.history number (seat_at state number).point (seat_at state number).looks → (seat_at state number).point ≡ point
    → IsMachine heap (state_after_due heap state number (move_at heap number (seat_at state number) point))
    → Keeps heap state (state_after_due heap state number (move_at heap number (seat_at state number) point)) book book.begun (entries_shown heap state (move_at heap number (seat_at state number) point))

-- what it tells
abbrev pub PointShows : Point → Type 0
PointShows point = (heap : Heap) (state : State) (number : ℕ) → SeatShows number (seat_at state number) point (entries_shown heap state (move_at heap number (seat_at state number) point))

-- what it makes of that which the seat has found out, and where the seat comes to
pub record OnLooks (point : Point) : Type 0 where
  pub follows : (heap : Heap) (state : State) (number : ℕ) (seat : Seat) → ((other p : ℕ) → seat.point ≡ points.Collecting (Comparing other p) → p ≡ seat.looks.seen) → seat.point ≡ point
      → MoveFollows heap state seat (move_at heap number seat point)
  pub goes : (heap : Heap) (state : State) (book : Book) (rule : Rule heap state book) (number : ℕ) → (seat_at state number).point ≡ point
      → GoesBy heap state book rule number (move_at heap number (seat_at state number) point)
  pub comes : (heap : Heap) (number : ℕ) (seat : Seat) (found : ℕ) → seat.point ≡ point → ComesFrom point (seat_after_due seat (move_at heap number seat point) found).point

-- the step stores a newborn word, or a spine word of a seat
abbrev pub IsStore : Option Step → Type 0
IsStore (Some (steps.Making (NewbornStore fragment part word))) = Unit {0}
IsStore (Some (steps.Spine (SpineStore half offset fragment))) = Unit {0}
IsStore _ = ⊥

-- what it does to its word: it bears with the seat's colour, it stores while the seat stores and lists alone, and the table has its word
pub record OnWords (point : Point) : Type 0 where
  pub bears : (heap : Heap) (state : State) (book : Book) → Rule heap state book → (number : ℕ) → number < heap.seats → (f : ℕ) → f < 16 * heap.groups → ¬ IsBorn heap state.words f
      → IsBorn heap (state_after_due heap state number (move_at heap number (seat_at state number) point)).words f
      → HasBirthColour heap (state_after_due heap state number (move_at heap number (seat_at state number) point)).words f (last_answer number book.history)
  pub stores : (heap : Heap) (number : ℕ) (seat : Seat) → IsStore (option_map (λ (m : Move). m.step) (move_at heap number seat point)) → (point ≡ points.Making Storing) ⊎ (point ≡ points.Making Listing)
  pub there : (heap : Heap) (state : State) (book : Book) → Rule heap state book → (number : ℕ) → number < heap.seats → (seat_at state number).point ≡ point
      → IfSome (move_at heap number (seat_at state number) point) (λ move. InTable heap (address_of move.step))
      → IfSome (option_map (λ (m : Move). m.step) (move_at heap number (seat_at state number) point)) (λ step. HasWord heap (address_of step))

-- what is told of the word that it finds
abbrev pub PointFinds : Point → Type 0
PointFinds point = (heap : Heap) (state : State) (book : Book) (number : ℕ) (stands : Stands heap state book) → number < heap.seats → (seat_at state number).point ≡ point
    → IfSome (option_map (λ (m : Move). m.step) (move_at heap number (seat_at state number) point)) (λ step. TellsWord heap number (seat_at state number) step (found_by heap state step))

-- all of it
pub record StepKind (point : Point) : Type 0 where
  pub keeps : PointKeeps point
  pub shows : PointShows point
  pub looks : OnLooks point
  pub words : OnWords point
  pub found : PointFinds point

-- the move that is due at the point
abbrev pub IsDue : Point → (Heap → ℕ → Seat → Move) → Type 0
IsDue point move = (heap : Heap) (number : ℕ) (seat : Seat) → move_at heap number seat point ≡ Some (move heap number seat)

-- a step on the way, which looks at nothing, tells no reply, and leads to no point of a shade or of a taking back
pub record OnItsWay (point : Point) (move : Heap → ℕ → Seat → Move) : Type 0 where
  pub unnamed : point ≢ points.Access Naming
  pub blind : (heap : Heap) (number : ℕ) (seat : Seat) → IsBlind (Some (move heap number seat).step)
  pub mute : (heap : Heap) (number : ℕ) (seat : Seat) (words : List ℕ) (found : ℕ) → NoReplies ((move heap number seat).shows words found)
  pub stays : (heap : Heap) (number : ℕ) (seat : Seat) (found : ℕ) → seat.point ≡ point → StaysFound seat ((move heap number seat).told found)
  pub comes : (heap : Heap) (number : ℕ) (seat : Seat) (found : ℕ) → ComesFrom point ((move heap number seat).told found).point

pub on_looks_of_way : (point : Point) (move : Heap → ℕ → Seat → Move) → IsDue point move → OnItsWay point move → OnLooks point
on_looks_of_way point move due way = record {
  follows = λ heap state number seat compares point_is. subst (MoveFollows heap state seat) (sym (due heap number seat))
      (looks_follow_way heap state number seat (move heap number seat).step ((move heap number seat).told (found_by heap state (move heap number seat).step)) (way.blind heap number seat)
      (way.stays heap number seat (found_by heap state (move heap number seat).step) point_is));
  goes = λ heap state book rule number point_is. subst (GoesBy heap state book rule number) (sym (due heap number (seat_at state number)))
      (let stays = way.stays heap number (seat_at state number) (found_by heap state (move heap number (seat_at state number)).step) point_is in
      looks_go_quiet heap number book.history (seat_at state number) _ _ (λ named. way.unnamed (sym point_is ∙ named))
      (way.mute heap number (seat_at state number) state.words (found_by heap state (move heap number (seat_at state number)).step)) record { looks = stays.looks; elsewhere = stays.elsewhere });
  comes = λ heap number seat found point_is. subst (λ o. ComesFrom point (seat_after_due seat o found).point) (sym (due heap number seat)) (way.comes heap number seat found);
}

-- what a kind of step on the way that tells nothing has still to say
pub record WayKind (point : Point) (move : Heap → ℕ → Seat → Move) : Type 0 where
  pub keeps : StepKeeps point move
  pub stays : (heap : Heap) (number : ℕ) (seat : Seat) (found : ℕ) → seat.point ≡ point → StaysFound seat ((move heap number seat).told found)
  pub comes : (heap : Heap) (number : ℕ) (seat : Seat) (found : ℕ) → ComesFrom point ((move heap number seat).told found).point
  pub words : OnWords point
  pub found : PointFinds point

pub step_kind_of_way : (point : Point) (move : Heap → ℕ → Seat → Move) → IsDue point move → point ≢ points.Access Naming → ((heap : Heap) (number : ℕ) (seat : Seat) → IsBlind (Some (move heap number seat).step))
    → ((heap : Heap) (number : ℕ) (seat : Seat) (words : List ℕ) (found : ℕ) → (move heap number seat).shows words found ≡ []) → WayKind point move → StepKind point
step_kind_of_way point move due unnamed blind silent kind = record {
  keeps = λ heap state book number rule here looks point_is.
      subst (λ o. IsMachine heap (state_after_due heap state number o) → Keeps heap state (state_after_due heap state number o) book book.begun (entries_shown heap state o)) (sym (due heap number (seat_at state number)))
      (kind.keeps heap state book number rule here point_is);
  shows = λ heap state number. subst (λ o. SeatShows number (seat_at state number) point (entries_shown heap state o)) (sym (due heap number (seat_at state number)))
      (subst (SeatShows number (seat_at state number) point) (sym (silent heap number (seat_at state number) state.words (found_by heap state (move heap number (seat_at state number)).step))) shows_none);
  looks = on_looks_of_way point move due record {
    unnamed = unnamed;
    blind = blind;
    mute = λ heap number seat words found. subst NoReplies (sym (silent heap number seat words found)) empty_has_no_replies;
    stays = kind.stays;
    comes = kind.comes;
  };
  words = kind.words;
  found = kind.found;
}

-- a step that looks at nothing, tells a reply, and ends the call
pub on_looks_of_reply : (point : Point) (move : Heap → ℕ → Seat → Move) (reply : Seat → ℕ → Reply) → IsDue point move → ((heap : Heap) (number : ℕ) (seat : Seat) → IsBlind (Some (move heap number seat).step))
    → ((heap : Heap) (number : ℕ) (seat : Seat) (found : ℕ) → ((move heap number seat).told found).looks ≡ forgotten seat.looks)
    → ((heap : Heap) (number : ℕ) (seat : Seat) (found : ℕ) → ((move heap number seat).told found).point ≡ points.Idle)
    → ((heap : Heap) (number : ℕ) (seat : Seat) (words : List ℕ) (found : ℕ) → (move heap number seat).shows words found ≡ Said number seat.command (reply seat found) ∷ []) → OnLooks point
on_looks_of_reply point move reply due blind looks idle tells = record {
  follows = λ heap state number seat compares point_is. subst (MoveFollows heap state seat) (sym (due heap number seat))
      (looks_follow_blind_step heap state (Some (move heap number seat).step) seat.looks ((move heap number seat).told (found_by heap state (move heap number seat).step)).looks (blind heap number seat)
      (ap (λ (l : Looks). l.waits) (looks heap number seat (found_by heap state (move heap number seat).step))) (ap (λ (l : Looks). l.seen) (looks heap number seat (found_by heap state (move heap number seat).step))));
  goes = λ heap state book rule number point_is. subst (GoesBy heap state book rule number) (sym (due heap number (seat_at state number)))
      (let seat : Seat = seat_at state number in
      let found : ℕ = found_by heap state (move heap number seat).step in
      subst (Goes heap state book rule number (seat_after (move heap number seat) found)) (sym (tells heap number seat state.words found))
      (looks_go_at_reply heap state book rule number (seat_after (move heap number seat) found) (reply seat found) (looks heap number seat found) (idle heap number seat found)));
  comes = λ heap number seat found point_is. subst (λ o. ComesFrom point (seat_after_due seat o found).point) (sym (due heap number seat))
      (subst (ComesFrom point) (sym (idle heap number seat found)) tt);
}

-- a step that leaves the born bits bears nothing
pub birth_colour_where_none_borne : (point : Point) (move : Heap → ℕ → Seat → Move) → IsDue point move → (heap : Heap) (state : State) (book : Book) → Rule heap state book → (number f : ℕ) → f < 16 * heap.groups
    → ¬ IsBorn heap state.words f → LeavesBits heap 16 32 (move heap number (seat_at state number)).step
    → IsBorn heap (state_after_due heap state number (move_at heap number (seat_at state number) point)).words f
    → HasBirthColour heap (state_after_due heap state number (move_at heap number (seat_at state number) point)).words f (last_answer number book.history)
birth_colour_where_none_borne point move due heap state book rule number f within unborn bits =
    subst (λ o. IsBorn heap (state_after_due heap state number o).words f → HasBirthColour heap (state_after_due heap state number o).words f (last_answer number book.history)) (sym (due heap number (seat_at state number)))
    (λ born. absurd (unborn (sym (fragment_bit_stays heap state.words (move heap number (seat_at state number)).step rule.machine.table f within 16 32 bits (born_at f) (omega arith) (omega arith)) ∙ born)))

-- a step that bears nothing, stores no word of a new object, and is on a word that the table has
pub on_words_of_plain_step : (point : Point) (move : Heap → ℕ → Seat → Move) → IsDue point move
    → ((heap : Heap) (number : ℕ) (seat : Seat) → ¬ IsStore (Some (move heap number seat).step))
    → ((heap : Heap) (number : ℕ) (seat : Seat) → InTable heap (address_of (move heap number seat).step) → HasWord heap (address_of (move heap number seat).step))
    → ((heap : Heap) (state : State) (book : Book) → Rule heap state book → (number : ℕ) → number < heap.seats → LeavesBits heap 16 32 (move heap number (seat_at state number)).step) → OnWords point
on_words_of_plain_step point move due unstored there bits = record {
  bears = λ heap state book rule number here f within unborn.
      birth_colour_where_none_borne point move due heap state book rule number f within unborn (bits heap state book rule number here);
  stores = λ heap number seat is. absurd (unstored heap number seat (subst (λ o. IsStore (option_map (λ (m : Move). m.step) o)) (due heap number seat) is));
  there = λ heap state book rule number here point_is low.
      subst (λ o. IfSome (option_map (λ (m : Move). m.step) o) (λ step. HasWord heap (address_of step))) (sym (due heap number (seat_at state number)))
      (there heap number (seat_at state number) (subst (λ o. IfSome o (λ m. InTable heap (address_of m.step))) (due heap number (seat_at state number)) low));
}

-- the born bits are those from the sixteenth on
pub born_bits_stay : (word now : ℕ) → ((j : ℕ) → j < 16 → bit_at now (16 + j) ≡ bit_at word (16 + j)) → (i : ℕ) → 16 ≤ i → i < 32 → bit_at now i ≡ bit_at word i
born_bits_stay word now same i above below =
    let is : 16 + (i - 16) ≡ i = omega (arith, above) in
    subst (λ n. bit_at now n ≡ bit_at word n) is (same (i - 16) (omega (arith, above, below)))
