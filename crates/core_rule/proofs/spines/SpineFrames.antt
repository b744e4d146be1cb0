-- Whose the spine words are, and what they are, stands as before where a step leaves them.
use Rattle.std.proofs.Common.{true, ◌≡◌, ℕ, ◌+◌, ◌<◌, ◌⊎◌, inl, inr, List, length, refl, sym, ap, ◌∙◌, subst}
use Rattle.heap_words.specs.declared.spot.Spot.{Spot}
use Rattle.core_rule.proofs.Terms.{Heap, Id, Node, spine_words_of, Point, Seat, spine_need, at, spine_place, spine_word, fragment_at, IsKept, Owner, Kept, SpineOwner, Placed, Gone}
use Rattle.core_rule.proofs.Terms.{AddressStands, IsLeftReplica, SpinesStand, SpineInHand, HasPlace, WayStands}
use Rattle.core_machine.specs.declared.table.address.Address.TheVariants as addresses
use Rattle.heap_model.proofs.graph_changes.Shapes.{SameShape, same_shape_same_words, same_shape_of_equal}
use Rattle.core_rule.proofs.objects.ObjectFrames.{SameKept}
use Rattle.core_rule.proofs.spines.OtherWords.{LeavesPlaces, LeavesSpines, leaves_places_of_spines}
use Rattle.core_rule.proofs.ways.WayFrames.{ObjectStays}
use Rattle.core_rule.proofs.words.Addresses.{SameSpines}
use Rattle.core_rule.proofs.dying.DeadWords.{DeadStay, dead_tell_still}
use Rattle.core_rule.proofs.ways.LoadedPlaces.{while_loaded_goes_on, loaded_is_on_way, called_register_is_first}

-- the same fragments are kept where whose they are is as before
pub same_kept_of_itself : (owner : ℕ → Owner) → SameKept owner owner
same_kept_of_itself owner = record { stays = λ f i k is. is; was = λ f i k is. is }

-- and each object has its shape where it is as before
pub same_shape_of_itself : (nodes : ℕ → Node) (i : ℕ) → SameShape (nodes i) (nodes i)
same_shape_of_itself nodes i = same_shape_of_equal (nodes i) (nodes i) refl

module _ (heap : Heap) (words now : List ℕ) (same : at heap now addresses.Spot ≡ at heap words addresses.Spot) (seats made : ℕ) (spines : ℕ → Spot) (fragments : ℕ → List ℕ)
    (spine_owner : ℕ → ℕ → SpineOwner) where
  -- the spot is as before, the same are kept, and have as many spine words, and what is to be freed tells what it told
  pub spines_stand_at_same_spot : (nodes now_nodes : ℕ → Node) (owner now_owner : ℕ → Owner) → SameKept owner now_owner → ((i : ℕ) → SameShape (now_nodes i) (nodes i)) → DeadStay heap words now owner now_owner
      → SpinesStand heap words seats made nodes owner fragments spines spine_owner → SpinesStand heap now seats made now_nodes now_owner fragments spines spine_owner
  spines_stand_at_same_spot nodes now_nodes owner now_owner kept shapes dead old =
      let words_of : (i : ℕ) → spine_words_of (now_nodes i) ≡ spine_words_of (nodes i) = λ i. same_shape_same_words (now_nodes i) (nodes i) (shapes i) in
      record {
        spot = rw same old.spot;
        parties = old.parties;
        kept = λ i j below is within. old.kept i j below (kept.was _ _ _ is) (subst (λ n. j < n) (words_of i) within);
        back = λ half offset i j is. let one = old.back half offset i j is in (one.0, kept.stays _ _ _ one.1, subst (λ n. j < n) (sym (words_of i)) one.2, one.3);
        tells = dead_tell_still heap words now made nodes now_nodes owner now_owner (λ i below. shapes i) dead old.tells;
      }

-- so it is where each spine word is as before too
pub spines_stand_at_same_places : (heap : Heap) (words now : List ℕ) → LeavesPlaces heap words now → (seats made : ℕ) (spines : ℕ → Spot) (fragments : ℕ → List ℕ) (spine_owner : ℕ → ℕ → SpineOwner)
    (nodes now_nodes : ℕ → Node) (owner now_owner : ℕ → Owner) → SameKept owner now_owner → ((i : ℕ) → SameShape (now_nodes i) (nodes i)) → DeadStay heap words now owner now_owner
    → SpinesStand heap words seats made nodes owner fragments spines spine_owner → SpinesStand heap now seats made now_nodes now_owner fragments spines spine_owner
spines_stand_at_same_places heap words now leaves = spines_stand_at_same_spot heap words now leaves.spot

module _ (heap : Heap) (words now : List ℕ) (leaves : LeavesSpines heap words now) (seats made : ℕ) (spines : ℕ → Spot) (fragments : ℕ → List ℕ) (spine_owner : ℕ → ℕ → SpineOwner) where
  -- and the budget
  pub spines_stand_with_budget : (nodes now_nodes : ℕ → Node) (owner now_owner : ℕ → Owner) → SameKept owner now_owner → ((i : ℕ) → SameShape (now_nodes i) (nodes i)) → DeadStay heap words now owner now_owner
      → SpinesStand heap words seats made nodes owner fragments spines spine_owner → SpinesStand heap now seats made now_nodes now_owner fragments spines spine_owner
  spines_stand_with_budget = spines_stand_at_same_places heap words now (leaves_places_of_spines heap words now leaves) seats made spines fragments spine_owner

  -- no more than words change
  pub spines_stand_with_words : (nodes : ℕ → Node) (owner : ℕ → Owner) → DeadStay heap words now owner owner
      → SpinesStand heap words seats made nodes owner fragments spines spine_owner → SpinesStand heap now seats made nodes owner fragments spines spine_owner
  spines_stand_with_words nodes owner = spines_stand_with_budget nodes nodes owner owner (same_kept_of_itself owner) (same_shape_of_itself nodes)

-- what a seat has stored of its spine is there
abbrev pub SpineIsStored : Heap → List ℕ → Seat → Type 0
SpineIsStored heap words seat = HasPlace seat seat.point → (j : ℕ) → j < seat.listed → at heap words (spine_place seat.spine j) ≡ spine_word (fragment_at seat.body (j + 1))

pub spine_is_stored_by_words : (heap : Heap) (words now : List ℕ) (seat : Seat) → SameSpines heap words now → SpineIsStored heap words seat → SpineIsStored heap now seat
spine_is_stored_by_words heap words now seat same stored = λ has j less. same _ _ ∙ stored has j less

pub spine_is_stored_still : (heap : Heap) (words now : List ℕ) (seat : Seat) → LeavesSpines heap words now → SpineIsStored heap words seat → SpineIsStored heap now seat
spine_is_stored_still heap words now seat leaves = spine_is_stored_by_words heap words now seat leaves.spines

-- the party has the spine words that it had
pub record SpinesLeft (r : ℕ) (was now : ℕ → ℕ → SpineOwner) : Type 0 where
  pub stays : (half offset k : ℕ) → was half offset ≡ Placed r k → now half offset ≡ Placed r k
  pub own : (half offset k : ℕ) → now half offset ≡ Placed r k → was half offset ≡ Placed r k

pub spines_left_of_itself : (r : ℕ) (spine_owner : ℕ → ℕ → SpineOwner) → SpinesLeft r spine_owner spine_owner
spines_left_of_itself r spine_owner = record { stays = λ half offset k is. is; own = λ half offset k is. is }

-- so its spine stands
pub spine_in_hand_stays : (heap : Heap) (words now : List ℕ) (was later : ℕ → ℕ → SpineOwner) (r : ℕ) (seat : Seat) → SpinesLeft r was later → SpineIsStored heap now seat
    → SpineInHand heap words was r seat → SpineInHand heap now later r seat
spine_in_hand_stays heap words now was later r seat left stored old = record {
  placed = λ has j less. left.stays _ _ _ (old.placed has j less);
  own = λ half offset j is. old.own half offset j (left.own half offset j is);
  stored = stored;
}

-- and where no more than words change
pub spine_in_hand_with_words : (heap : Heap) (words now : List ℕ) (spine_owner : ℕ → ℕ → SpineOwner) (number : ℕ) (seat : Seat) → LeavesSpines heap words now
    → SpineInHand heap words spine_owner number seat → SpineInHand heap now spine_owner number seat
spine_in_hand_with_words heap words now spine_owner number seat leaves hand =
    spine_in_hand_stays heap words now spine_owner spine_owner number seat (spines_left_of_itself number spine_owner) (spine_is_stored_still heap words now seat leaves hand.stored) hand

-- a seat that has no spine goes on where it has none
pub spine_in_hand_away : (heap : Heap) (words now : List ℕ) (spine_owner : ℕ → ℕ → SpineOwner) (number : ℕ) (old new : Seat) → ¬ HasPlace old old.point → ¬ HasPlace new new.point
    → SpineInHand heap words spine_owner number old → SpineInHand heap now spine_owner number new
spine_in_hand_away heap words now spine_owner number old new before after hand = record {
  placed = λ has. absurd (after has);
  own = λ half offset j is. absurd (before (hand.own half offset j is).0);
  stored = λ has. absurd (after has);
}

-- its spine is the one that it had, of as many words, of which as many are stored, for the same fragments
pub record SameSpine (old new : Seat) : Type 0 where
  pub has : HasPlace new new.point → HasPlace old old.point
  pub had : HasPlace old old.point → HasPlace new new.point
  pub need : spine_need new ≡ spine_need old
  pub spine : new.spine ≡ old.spine
  pub listed : new.listed ≡ old.listed
  pub body : new.body ≡ old.body

-- so it goes on where that stays
pub spine_in_hand_goes_on : (heap : Heap) (words now : List ℕ) (spine_owner : ℕ → ℕ → SpineOwner) (number : ℕ) (old new : Seat) → LeavesSpines heap words now → SameSpine old new
    → SpineInHand heap words spine_owner number old → SpineInHand heap now spine_owner number new
spine_in_hand_goes_on heap words now spine_owner number old new leaves same hand = record {
  placed = λ has. rw (same.need, same.spine) (hand.placed (same.has has));
  own = λ half offset j is. let one = hand.own half offset j is in (same.had one.0, rw same.need one.1, rw same.spine one.2);
  stored = λ has. rw (same.spine, same.listed, same.body) (λ j less. leaves.spines _ _ ∙ hand.stored (same.has has) j less);
}

kept_index : (i k j l : ℕ) → Kept i k ≡ Kept j l → i ≡ j
kept_index i k j l e = cc

-- each object that was made has its spine where it was, and the words that arrays have left stay left, and as they are
pub record PlacesStay (heap : Heap) (words now_words : List ℕ) (made : ℕ) (spines now_spines : ℕ → Spot) (was now : ℕ → ℕ → SpineOwner) : Type 0 where
  pub stay : (i : ℕ) → i < made → now_spines i ≡ spines i
  pub gone : (half offset : ℕ) → was half offset ≡ Gone → now half offset ≡ Gone
  pub as_were : (half offset : ℕ) → was half offset ≡ Gone → at heap now_words (addresses.Spine half offset) ≡ at heap words (addresses.Spine half offset)

-- so it is where all spine words are as before, and whose they are
pub places_stay_where_same : (heap : Heap) (words now : List ℕ) (made : ℕ) (spines : ℕ → Spot) (spine_owner : ℕ → ℕ → SpineOwner) → SameSpines heap words now
    → PlacesStay heap words now made spines spines spine_owner spine_owner
places_stay_where_same heap words now made spines spine_owner same = record { stay = λ i below. refl; gone = λ half offset is. is; as_were = λ half offset is. same half offset }

module _ (heap : Heap) (words now_words : List ℕ) (nodes now_nodes : ℕ → Node) (made now_made : List Id) (owner now_owner : ℕ → Owner) (fragments now_fragments : ℕ → List ℕ)
    (spines now_spines : ℕ → Spot) (was now : ℕ → ℕ → SpineOwner) (still : PlacesStay heap words now_words (length made) spines now_spines was now) where
  -- a replica that an array has left is still one
  replica_stays : (i answered : ℕ) (address : Spot) → SameShape (now_nodes i) (nodes i) → now_fragments i ≡ fragments i
      → IsLeftReplica heap words (nodes i) (fragments i) was answered address → IsLeftReplica heap now_words (now_nodes i) (now_fragments i) now answered address
  replica_stays i answered address shape same replica =
      let as_many : (k : ℕ) → k < spine_words_of (now_nodes i) → k < spine_words_of (nodes i) = λ k. subst (λ n. k < n) (same_shape_same_words (now_nodes i) (nodes i) shape) in
      record {
        late = replica.late;
        left = λ k less. still.gone _ _ (replica.left k (as_many k less));
        listed = λ k less. still.as_were _ _ (replica.left k (as_many k less)) ∙ replica.listed k (as_many k less) ∙ ap (λ fs. spine_word (fragment_at fs (k + 1))) (sym same);
      }

  -- the place that a call has loaded is the array's, or one that this has left, also where kept objects went on
  pub address_stands_still : ((i : ℕ) → i < length made → IsKept owner fragments i → ObjectStays nodes now_nodes made now_made owner now_owner fragments now_fragments i)
      → (seat : Seat) (point : Point) → WayStands nodes made owner fragments seat point
      → AddressStands heap words nodes owner fragments spines was seat point → AddressStands heap now_words now_nodes now_owner now_fragments now_spines now seat point
  address_stands_still stay seat point stands = while_loaded_goes_on point (λ has reads i f calls is an_array.
      let on = loaded_is_on_way nodes made owner fragments seat point has stands in
      let one = stay on.index on.way.below on.way.kept in
      let head : f ≡ fragment_at (fragments on.index) 0 = called_register_is_first made owner fragments seat on.index on.row f on.way calls in
      let same : now_owner f ≡ Kept on.index 0 = ap now_owner head ∙ ap (λ fs. now_owner (fragment_at fs 0)) (sym one.fragments_stay) ∙ one.kept in
      let index : on.index ≡ i = sym (kept_index i 0 on.index 0 (sym is ∙ same)) in
      let kind : (nodes on.index).array ≡ true = sym one.shape.kind ∙ ap (λ n. (now_nodes n).array) index ∙ an_array in
      subst (λ n. (seat.address ≡ now_spines n) ⊎ IsLeftReplica heap now_words (now_nodes n) (now_fragments n) now seat.answered seat.address) index
      (elim (reads on.index f calls (ap owner head ∙ on.way.kept) kind) as (λ _. (seat.address ≡ now_spines on.index) ⊎ IsLeftReplica heap now_words (now_nodes on.index) (now_fragments on.index) now seat.answered seat.address) [
        | inl own ↦ inl (own ∙ sym (still.stay on.index on.way.below))
        | inr left ↦ inr (replica_stays on.index seat.answered seat.address one.shape one.fragments_stay left)
      ]))

-- so it is where no more than words change
pub address_stands_with_words : (heap : Heap) (words now : List ℕ) → SameSpines heap words now → (nodes : ℕ → Node) (owner : ℕ → Owner) (fragments : ℕ → List ℕ) (spines : ℕ → Spot) (spine_owner : ℕ → ℕ → SpineOwner)
    (seat : Seat) (point : Point) → AddressStands heap words nodes owner fragments spines spine_owner seat point → AddressStands heap now nodes owner fragments spines spine_owner seat point
address_stands_with_words heap words now same nodes owner fragments spines spine_owner seat point = while_loaded_goes_on point (λ has reads i f calls is an_array.
    elim (reads i f calls is an_array) as (λ _. (seat.address ≡ spines i) ⊎ IsLeftReplica heap now (nodes i) (fragments i) spine_owner seat.answered seat.address) [
      | inl own ↦ inl own
      | inr left ↦ inr record { late = left.late; left = left.left; listed = λ k less. same _ _ ∙ left.listed k less }
    ])
