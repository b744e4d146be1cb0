-- Where a fragment that is born leads: to one that is born with it, or was borne before it.
use Rattle.std.proofs.Common.{◌≡◌, ◌≢◌, ◌⊎◌, ℕ, ◌+◌, ◌-◌, ◌*◌, ◌^◌, ◌<◌, ◌≤◌, inl, inr, Bool, true, false, List, length, get_or, sym, ap, ◌∙◌, subst, arith}
use Rattle.heap_words.specs.declared.name.Name.{Name}
use Rattle.heap_words.specs.declared.spot.Spot.{Spot}
use Rattle.core_rule.proofs.Terms.{Heap, Word, HandFits, HasBody, inside_group, outside_group, tally, at, spine_place, FitsSpot, spine_word, pointer_in, spine_words_in, newborn_word_of}
use Rattle.core_rule.proofs.Terms.{next_name, Seat, spine_need, Colour, White, Black, fragment_at, WordPointsTo, IsMarked, Holding, IsSized, Owner, Borne, bears_bit}
use Rattle.heap_model.specs.Heap.{IsHeap}
use Rattle.core_rule.specs.hand.Together.{IsInOrder}
use Rattle.core_rule.proofs.hand.Bodies.{body_tally_is_hand_and_borne, body_has_each_once}
use Rattle.core_rule.proofs.owners.Handed.{none_or_some}
use Rattle.core_rule.proofs.hand.HandMoves.{hand_has_each_once}
use Rattle.core_rule.proofs.lists.Members.{position_of, element_stands_at_position, element_is_tallied}
use Rattle.core_rule.proofs.hand.MakingSeats.{made_object_is_sized, made_body_is_whole, made_body_is_some, newborn_word_is_fresh}
use Rattle.core_rule.proofs.colours.Births.{AreBorne}
use Rattle.core_rule.proofs.colours.NewbornArrays.{array_first_leads_to_payload}
use Rattle.core_rule.proofs.colours.NewbornLeads.{newborn_leads_to_next}
use Rattle.core_rule.proofs.colours.NoSpines.{newborn_tells_no_spine}
use Rattle.core_rule.proofs.colours.SourceCases.{lead_cases, no_spine_word_leads}
use Rattle.core_rule.proofs.entries.MakingCommands.{makes_array, size_made, spine_need_is_fresh_words}
use Rattle.core_rule.proofs.lists.OrderedLists.{behind_front_not_in_front}
use Rattle.core_rule.proofs.lists.GroupLists.{inside_and_outside_tallies_make_whole}
use Rattle.core_rule.proofs.lists.Tallies.{one_at_some_is_same}
use Rattle.core_rule.proofs.objects.Newborn.{fresh_word}
use Rattle.core_rule.proofs.objects.ObjectsGrowth.{fresh_fragments, fresh_words}

-- what a seat bears is its own
pub owner_is_borne : (number : ℕ) (o : Owner) → 1 ≤ bears_bit number o → o ≡ Borne number
owner_is_borne number (Borne r) some = ap Borne (one_at_some_is_same r number some)
owner_is_borne number _ some = absurd (omega (arith, some))

-- the fragment stands in the list behind the one at k
pub record IsBehind (fragments : List ℕ) (k f : ℕ) : Type 0 where
  pub position : ℕ
  pub behind : k < position
  pub within : position < length fragments
  pub is : f ≡ fragment_at fragments position

-- where a body's words are those of a newborn object, and those of its spine name its payload fragments, a source of a fragment leads to one behind it
by_kind : (heap : Heap) (words : List ℕ) (name : Name) (array : Bool) (cells : ℕ) (spine : Spot) (body : List ℕ) → name.owner < 2 ^ 30 → name.count < 2 ^ 32 → IsSized array cells → FitsSpot spine
    → length body ≡ fresh_fragments array cells → ((i : ℕ) → i < length body → get_or body i 0 < 2 ^ 30)
    → ((k part : ℕ) → k < length body → part < 4 → at heap words (Word (fragment_at body k) part) ≡ fresh_word array name cells spine body k part)
    → ((j : ℕ) → j < fresh_words array cells → at heap words (spine_place spine j) ≡ spine_word (fragment_at body (j + 1)))
    → (k source g : ℕ) → k < length body → WordPointsTo heap words (fragment_at body k) source g → IsBehind body k g
by_kind heap words name false fields spine body owner count sized fits whole small stored listed k source g below leads =
    lead_cases heap words (fragment_at body k) (IsBehind body k g) source g
    (λ first to. let next = newborn_leads_to_next body small name fields k source g owner count (omega (arith, sized.1)) (ap (pointer_in source) (sym (stored k source below first)) ∙ to) in
    record { position = k + 1; behind = omega arith; within = next.0; is = next.1 })
    (λ behind to. absurd (no_spine_word_leads heap words (fragment_at body k)
    (ap spine_words_in (stored k 0 below (omega arith)) ∙ newborn_tells_no_spine body small name fields k (omega (arith, sized.1))) (source - 4) g to)) leads
by_kind heap words name true cells spine body owner count sized fits whole small stored listed k source g below leads =
    let next = array_first_leads_to_payload heap words name cells spine body owner count sized.1 fits (omega (arith, whole)) small stored listed k source g below leads in
    record { position = source - 4 + 1; behind = omega (arith, next.0); within = next.1; is = next.2 }

-- a body's words are stored, and so are those of its spine; its fragments are those of the heap, and its hand is the front of it
module _ (heap : Heap) (words : List ℕ) (owner : ℕ → Owner) (number : ℕ) (seat : Seat) (limits : IsHeap heap) (here : number < heap.seats) (has : HasBody seat)
    (fits : HandFits heap seat.hand seat.body seat.spine) (holding : Holding owner number seat.reserve seat.hand seat.body)
    (stored : (k part : ℕ) → k < length seat.body → part < 4 → at heap words (Word (fragment_at seat.body k) part) ≡ newborn_word_of number seat k part)
    (listed : (j : ℕ) → j < spine_need seat → at heap words (spine_place seat.spine j) ≡ spine_word (fragment_at seat.body (j + 1))) where
  some : 1 ≤ length seat.body
  some = made_body_is_some seat has

  once : (f : ℕ) → tally f seat.body ≤ 1
  once f = body_has_each_once owner number seat.reserve seat.hand seat.body holding some f

  small : (i : ℕ) → i < length seat.body → get_or seat.body i 0 < 2 ^ 30
  small i less = let inside : get_or seat.body i 0 < 16 * heap.groups = fits.body_within i 0 less in omega (arith, inside, limits.groups_fit)

  -- a source of the body leads to a fragment of the body behind its own
  pub body_leads_behind : (k source g : ℕ) → k < length seat.body → WordPointsTo heap words (fragment_at seat.body k) source g → IsBehind seat.body k g
  body_leads_behind = by_kind heap words (next_name number seat) (makes_array seat.command) (size_made seat.command) seat.spine seat.body
      (omega (arith, here, limits.seats_fit)) (omega (arith, has.makes.numbered)) (made_object_is_sized seat has) fits.spine_within (made_body_is_whole seat has) small
      (λ k part below first. stored k part below first ∙ newborn_word_is_fresh seat.command has.makes.an_object (next_name number seat) seat.spine seat.body k part)
      (λ j within. listed j (subst (λ n. j < n) (sym (spine_need_is_fresh_words seat.command has.makes.an_object)) within))

  module _ (colour : ℕ → Colour) (births : AreBorne owner colour number true) (g : ℕ) (order : IsInOrder heap (outside_group g seat.hand) seat.body) where
    -- what the body has behind a fragment of the group is of the group, or borne
    behind : (k m : ℕ) → k < m → m < length seat.body → 1 ≤ tally (fragment_at seat.body k) (inside_group g seat.hand)
        → (1 ≤ tally (fragment_at seat.body m) (inside_group g seat.hand)) ⊎ (1 ≤ bears_bit number (owner (fragment_at seat.body m)))
    behind k m later more there =
        let f : ℕ = fragment_at seat.body k in
        let x : ℕ = fragment_at seat.body m in
        let away : tally f (outside_group g seat.hand) ≡ 0
        = omega (arith, there, inside_and_outside_tallies_make_whole g f seat.hand, hand_has_each_once owner number seat.reserve seat.hand seat.body holding f) in
        let past : tally x (outside_group g seat.hand) ≡ 0 = behind_front_not_in_front (outside_group g seat.hand) order.born seat.body k m order.front once later more away in
        let in_body : 1 ≤ tally x seat.body = element_is_tallied seat.body m more in
        let parted = inside_and_outside_tallies_make_whole g x seat.hand in
        let borne = body_tally_is_hand_and_borne owner number seat.reserve seat.hand seat.body holding some x in
        elim (none_or_some (tally x (inside_group g seat.hand))) [
          | inl none ↦ inr (omega (arith, past, in_body, parted, borne, none))
          | inr among ↦ inl among
        ]

    -- so a fragment of the group leads to one of the group, or to a marked one
    pub born_leads_to_born_or_marked : (f source x : ℕ) → 1 ≤ tally f (inside_group g seat.hand) → WordPointsTo heap words f source x → (1 ≤ tally x (inside_group g seat.hand)) ⊎ IsMarked colour x
    born_leads_to_born_or_marked f source x there leads =
        let in_body : 1 ≤ tally f seat.body = omega (arith, there, inside_and_outside_tallies_make_whole g f seat.hand, body_tally_is_hand_and_borne owner number seat.reserve seat.hand seat.body holding some f) in
        let position = element_stands_at_position f seat.body in
        let k : ℕ = position_of f seat.body in
        let next = body_leads_behind k source x (position in_body).0 (subst (λ y. WordPointsTo heap words y source x) (sym (position in_body).1) leads) in
        elim (behind k next.position next.behind next.within (subst (λ y. 1 ≤ tally y (inside_group g seat.hand)) (sym (position in_body).1) there)) [
          | inl among ↦ inl (subst (λ y. 1 ≤ tally y (inside_group g seat.hand)) (sym next.is) among)
          | inr borne ↦ inr (λ white. absurd (dark (sym (births x (subst (λ y. owner y ≡ Borne number) (sym next.is) (owner_is_borne number _ borne))) ∙ white)))
        ]
      where
        dark : Black ≢ White
        dark e = cc
