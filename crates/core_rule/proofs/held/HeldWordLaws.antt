-- The laws of held spine words: no claim takes one, and a store goes to a word of its own party.
use Rattle.std.proofs.Common.{◌≡◌, ◌≢◌, ℕ, ◌/◌, ◌<◌, ◌≤◌, inl, inr, sym, ap, ◌∙◌, subst, arith}
use Rattle.core_rule.proofs.Terms.{Heap, IsCopying, FitsCopying, State, seat_at, FitsPoint, Seat, tally, Book, Borne, Placed, born_bit, copy_in, Rule, HasPlace, next_spine}
use Rattle.core_machine.specs.collector.FitsTurns.{FitsStage}
use Rattle.core_machine.specs.declared.collector.stage.Copying.TheVariants as copying
use Rattle.core_machine.specs.declared.collector.stage.SpineCopy.{SpineCopy}
use Rattle.core_rule.specs.held.HeldLaws.{NoPlaceTakesHeld, NoCopyTakesHeld, EachStoreIsOwn, EachSpineStoreIsOwn, EachCopyStoreIsOwn, OnlyInHandOf, OnlyInCopy}
use Rattle.core_rule.specs.held.HeldWords.{IsAmong, IsInHandOf, IsInCopy, IsHeldWord}
use Rattle.core_rule.proofs.entries.AtRest.{seat_fits}
use Rattle.core_rule.proofs.hand.HandMoves.{hand_fragment_is_taken}
use Rattle.core_rule.proofs.held.Alive.{alive_within_heap}
use Rattle.core_rule.proofs.held.BodyWords.{borne_seat_is_bearing}
use Rattle.core_rule.proofs.held.DueStores.{newborn_store_is_due, listing_store_is_due}
use Rattle.core_rule.proofs.held.HeldFragments.{born_fragment_has_bit}
use Rattle.core_rule.proofs.held.WordOwners.{hand_word_is_placed, held_word_is_spined_or_borne, loaded_word_is_spined_or_gone, copy_word_is_collectors, held_word_is_owned}
use Rattle.core_rule.proofs.lists.Members.{element_is_tallied}
use Rattle.core_rule.proofs.steps.collector.{turn_kind_of_each_stage}
use Rattle.core_rule.proofs.owners.Seated.{borne_is_in_seat_body}

module _ (heap : Heap) (state : State) (book : Book) (rule : Rule heap state book) (half offset : ℕ) where
  -- a word behind the next spine's place is nobody's, so it isn't held
  claimed_unheld : (words : ℕ) → IsAmong (next_spine heap state.words) words half offset → ¬ IsHeldWord heap state half offset
  claimed_unheld words among held = elim (rule.space.halves.before half offset (held_word_is_owned heap state book rule half offset held)) [
    | inl here ↦ omega (arith, here.before, among.is.offset_is)
    | inr left ↦ left.other among.is.half_is
  ]

  -- whose a held word is, is one party alone
  module _ (number : ℕ) (here : number < heap.seats) (index : ℕ) (its : book.spine_owner half offset ≡ Placed number index) where
    -- no call has loaded it, and no copy has it
    only_in_hand : (unborne : (f : ℕ) → book.owner f ≢ Borne number) → OnlyInHandOf heap state half offset number
    only_in_hand unborne = record {
      unheld = λ of_held. elim (held_word_is_spined_or_borne heap state book rule half offset of_held) [
        | inl spined ↦ cc (spined.2, its)
        | inr borne ↦
            let hand = hand_word_is_placed heap state book rule half offset borne.0 (borne_is_in_seat_body heap state book rule borne.0 borne.1 borne.2).0 borne.3 in
            let same : borne.0 ≡ number = cc (hand.1, its) in
            unborne borne.1 (borne.2 ∙ ap Borne same)
      ];
      seats = λ r below hand. let has = hand_word_is_placed heap state book rule half offset r below hand in cc (has.1, its);
      unloaded = λ r below loads. elim (loaded_word_is_spined_or_gone heap state book rule half offset r below loads) [ inl spined ↦ cc (spined.2, its) | inr gone ↦ cc (gone, its) ];
      uncopied = λ copies. let has = copy_word_is_collectors heap state book rule half offset copies in let same : heap.seats ≡ number = cc (has.1, its) in omega (arith, same, here);
    }

  only_in_copy : (index : ℕ) → book.spine_owner half offset ≡ Placed heap.seats index → OnlyInCopy heap state half offset
  only_in_copy index its = record {
    unheld = λ of_held. elim (held_word_is_spined_or_borne heap state book rule half offset of_held) [
      | inl spined ↦ cc (spined.2, its)
      | inr borne ↦ no_seat borne.0 (borne_is_in_seat_body heap state book rule borne.0 borne.1 borne.2).0 borne.3
    ];
    seats = no_seat;
    unloaded = λ r below loads. elim (loaded_word_is_spined_or_gone heap state book rule half offset r below loads) [ inl spined ↦ cc (spined.2, its) | inr gone ↦ cc (gone, its) ];
  }
    where
      no_seat : (r : ℕ) → r < heap.seats → ¬ IsInHandOf state r half offset
      no_seat r below hand = let has = hand_word_is_placed heap state book rule half offset r below hand in let same : r ≡ heap.seats = cc (has.1, its) in omega (arith, same, below)

pub no_place_takes_held : NoPlaceTakesHeld
no_place_takes_held heap state book number words half offset rule here due among = claimed_unheld heap state book rule half offset words among

pub no_copy_takes_held : NoCopyTakesHeld
no_copy_takes_held heap state book words half offset rule due among = claimed_unheld heap state book rule half offset words among

pub each_store_is_own : EachStoreIsOwn
each_store_is_own heap state book number fragment part word rule here due =
    let seat : Seat = seat_at state number in
    let at_store = newborn_store_is_due heap number seat fragment part word due in
    let fits = subst (FitsPoint heap seat) at_store.0 (seat_fits rule number here).at_point in
    let in_body : 1 ≤ tally fragment seat.body = subst (λ f. 1 ≤ tally f seat.body) (sym at_store.1) (element_is_tallied seat.body (seat.stored / 4) (omega (arith, fits.2))) in
    let in_hand : 1 ≤ tally fragment seat.hand = subst (λ fs. 1 ≤ tally fragment fs) (sym fits.1) in_body in
    let its = hand_fragment_is_taken book.owner number seat.reserve seat.hand seat.body (rule.seats_stand number here).own.holding fragment in_hand in
    let within = alive_within_heap heap state.words book.owner fragment rule.heap_stands.control_words (rw its tt) in
    (in_hand, λ born. omega (arith, born_fragment_has_bit heap state book rule fragment within born, ap born_bit its))

pub each_spine_store_is_own : EachSpineStoreIsOwn
each_spine_store_is_own heap state book number half offset fragment rule here due =
    let seat : Seat = seat_at state number in
    let at_list = listing_store_is_due heap number seat half offset fragment due in
    let fits = subst (FitsPoint heap seat) at_list.0 (seat_fits rule number here).at_point in
    let hand : IsInHandOf state number half offset = record {
      has = subst (HasPlace seat) (sym at_list.0) fits.0.1;
      among = record { index = seat.listed; within = fits.1; is = record { half_is = at_list.1; offset_is = at_list.2 } };
    } in
    let its = hand_word_is_placed heap state book rule half offset number here hand in
    (hand, only_in_hand heap state book rule half offset number here its.0 its.1 (λ f bears. absurd (let at_birth = borne_seat_is_bearing heap state book rule number f bears in cc (at_birth, at_list.0))))

pub each_copy_store_is_own : EachCopyStoreIsOwn
each_copy_store_is_own heap state book half offset word rule due =
    let at_store = (turn_kind_of_each_stage state.collector.stage).spines.stores heap state.collector half offset word due in
    let copy : SpineCopy = at_store.0 in
    let fits : IsCopying heap.seats state.collector.phase state.collector.looked × FitsCopying heap (copying.Storing copy word)
    = subst (FitsStage heap state.collector.phase state.collector.looked) at_store.1 rule.machine.collector_fit.at_stage in
    let copies : IsInCopy state half offset = record {
      copy = copy;
      progress = ap copy_in at_store.1;
      among = record { index = copy.index; within = fits.1.more; is = record { half_is = at_store.2; offset_is = at_store.3 } };
    } in
    let its = copy_word_is_collectors heap state book rule half offset copies in
    (copies, only_in_copy heap state book rule half offset its.0 its.1)
