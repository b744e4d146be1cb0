-- Where the sources of what a seat has borne lead: to its own new object.
use Rattle.std.proofs.Common.{◌≡◌, ◌≢◌, ℕ, ◌*◌, ◌<◌, ◌≤◌, [], length, refl, sym, subst}
use Rattle.core_rule.proofs.Terms.{Heap, Granting, Withdrawing, Gathering, GivingBack, Refusing, Placing, Listing, Bearing, Point, State, seat_at, IsArrayCall, FitsPoint, HasBody}
use Rattle.core_rule.proofs.Terms.{SpineIsListed, newborn_word_of, Seat, tally, Book, WordPointsTo, Taken, Borne, Rule, SeatStands, HasPlace}
use Rattle.core_machine.specs.declared.point.Making.TheVariants.{Storing}
use Rattle.core_machine.specs.declared.point.Point.TheVariants as points
use Rattle.core_rule.proofs.colours.BirthAhead.{body_leads_behind}
use Rattle.core_rule.proofs.entries.AtRest.{seat_fits}
use Rattle.core_rule.proofs.hand.Bodies.{body_fragment_is_own}
use Rattle.core_rule.proofs.hand.HandMoves.{is_not_borne_by_seat, hand_fragment_is_taken}
use Rattle.core_rule.proofs.hand.MakingSeats.{listed_word_names_payload}
use Rattle.core_rule.proofs.held.Alive.{IsAlive, own_is_alive}
use Rattle.core_rule.proofs.lists.Members.{position_of, element_stands_at_position}
use Rattle.core_rule.proofs.objects.LastBirth.{all_words_are_stored}
use Rattle.core_rule.proofs.owners.OwnerLemmas.{IsOwn}
use Rattle.core_rule.proofs.owners.Seated.{borne_is_in_seat_body}

module _ (heap : Heap) (state : State) (book : Book) (rule : Rule heap state book) (number f : ℕ) (bears : book.owner f ≡ Borne number) where
  abbrev seat : Seat
  seat = seat_at state number

  here : number < heap.seats
  here = (borne_is_in_seat_body heap state book rule number f bears).0

  pub fragment_is_in_body : 1 ≤ tally f seat.body
  fragment_is_in_body = (borne_is_in_seat_body heap state book rule number f bears).1

  stands : SeatStands heap state.words book number seat
  stands = rule.seats_stand number here

  some_body : seat.body ≢ []
  some_body none = is_not_borne_by_seat book.owner number seat.reserve seat.hand seat.body none stands.own.holding f bears

  -- what is in the hand isn't borne
  some_borne : seat.hand ≢ seat.body
  some_borne all =
      let held : book.owner f ≡ Taken number
      = hand_fragment_is_taken book.owner number seat.reserve seat.hand seat.body stands.own.holding f (subst (λ fs. 1 ≤ tally f fs) (sym all) fragment_is_in_body) in
      cc (held, bears)

  -- so the seat stands at a birth
  birth_point : (point : Point) → FitsPoint heap seat point → point ≡ points.Making Bearing
  birth_point (points.Making Bearing) fits = refl
  birth_point (points.Making Granting) fits = absurd (some_body fits.0.no_body)
  birth_point (points.Making Withdrawing) fits = absurd (some_body fits.rests.no_body)
  birth_point (points.Making Gathering) fits = absurd (some_body fits.no_body)
  birth_point (points.Making GivingBack) fits = absurd (some_body fits.0.no_body)
  birth_point (points.Making Refusing) fits = absurd (some_body fits.0.no_body)
  birth_point (points.Making Placing) fits = absurd (some_borne fits.0.2.all_unborn)
  birth_point (points.Making Listing) fits = absurd (some_borne fits.0.2.all_unborn)
  birth_point (points.Making Storing) fits = absurd (some_borne fits.1)
  birth_point points.Idle fits = absurd (some_body fits.no_body)
  birth_point points.Local fits = absurd (some_body fits.0.no_body)
  birth_point (points.Access point) fits = absurd (some_body fits.no_body)
  birth_point (points.Polling point) fits = absurd (some_body fits.no_body)
  birth_point (points.Collecting point) fits = absurd (some_body fits.0.no_body)
  birth_point (points.Leaving point) fits = absurd (some_body fits.0.no_body)

  pub borne_seat_is_bearing : seat.point ≡ points.Making Bearing
  borne_seat_is_bearing = birth_point seat.point (seat_fits rule number here).at_point

  -- and has stored each word of the object and of its spine
  pub bearing_has_stored_all : (point : Point) → FitsPoint heap seat point
      → HasBody seat × (seat.stored ≡ 4 * length seat.body) × SpineIsListed seat.command seat.spine seat.listed × (IsArrayCall seat.command → HasPlace seat point)
  bearing_has_stored_all point fits =
      let birth = birth_point point fits in
      let there = subst (FitsPoint heap seat) birth fits in
      (there.0, there.3, there.4, λ an_array. subst (HasPlace seat) (sym birth) an_array)

  -- a source of the fragment leads to one of the seat's
  pub borne_leads_to_alive : (source x : ℕ) → WordPointsTo heap state.words f source x → IsAlive (book.owner x)
  borne_leads_to_alive source x leads =
      let fits = seat_fits rule number here in
      let has = bearing_has_stored_all seat.point fits.at_point in
      let position = element_stands_at_position f seat.body fragment_is_in_body in
      let k : ℕ = position_of f seat.body in
      let next = body_leads_behind heap state.words book.owner number seat rule.machine.limits here has.0 fits.hand stands.own.holding
      (all_words_are_stored heap state.words seat.body (newborn_word_of number seat) seat.stored has.1 stands.own.stored)
      (listed_word_names_payload heap state.words book.spine_owner number seat stands.own.spine has.3 has.0.makes.an_object has.2)
      k source x position.0 (subst (λ y. WordPointsTo heap state.words y source x) (sym position.1) leads) in
      let own = body_fragment_is_own book.owner number seat.reserve seat.hand seat.body stands.own.holding next.position next.within in
      own_is_alive number (book.owner x) (subst (λ y. IsOwn number (book.owner y)) (sym next.is) own)
