-- The half that was left is let go where the phase of the sweep ends: what stands in it is nobody's any more.
use Rattle.std.proofs.Common.{◌≡◌, ◌≢◌, ℕ, ◌+◌, ◌<◌, ◌==◌, ◌⊎◌, if◌then◌else◌, Bool, true, false, List, inl, inr, refl, sym, ◌∙◌, arith}
use Rattle.std.proofs.lemmas.Bool.Decides.{eqb_tells}
use Rattle.heap_words.specs.declared.spot.Spot.{Spot}
use Rattle.core_rule.proofs.Terms.{Heap, Node, spine_words_of, Point, Seat, IsBetween, IsKept, Owner, SpineOwner, Open, Placed, Spined, IsLeftReplica, AddressStands, SpinesStand}
use Rattle.core_rule.proofs.Terms.{SpineInHand, HasPlace}
use Rattle.core_rule.proofs.ways.LoadedPlaces.{while_loaded_goes_on}

-- whose a word is once the other half is let go
abbrev pub let_go : ℕ → (ℕ → ℕ → SpineOwner) → ℕ → ℕ → SpineOwner
let_go here spine_owner half offset = if half == here then spine_owner half offset else Open

module _ (here : ℕ) (spine_owner : ℕ → ℕ → SpineOwner) where
  -- in this half each word is whose it was
  pub here_stays : (half offset : ℕ) → half ≡ here → let_go here spine_owner half offset ≡ spine_owner half offset
  here_stays half offset same = elim (eqb_tells half here) as (λ _. let_go here spine_owner half offset ≡ spine_owner half offset) [
    | inl is ↦ rw is.0 refl
    | inr other ↦ absurd (other.1 same)
  ]

  -- and what is somebody's stands in it
  pub owned_is_here_and_stays : (half offset : ℕ) → let_go here spine_owner half offset ≢ Open → (half ≡ here) × (let_go here spine_owner half offset ≡ spine_owner half offset)
  owned_is_here_and_stays half offset some = elim (eqb_tells half here) as (λ _. (half ≡ here) × (let_go here spine_owner half offset ≡ spine_owner half offset)) [
    | inl is ↦ (is.1, here_stays half offset is.1)
    | inr other ↦ absurd (some (rw other.0 refl))
  ]

  pub placed_was : (half offset party k : ℕ) → let_go here spine_owner half offset ≡ Placed party k → spine_owner half offset ≡ Placed party k
  placed_was half offset party k is = sym (owned_is_here_and_stays half offset (λ none. absurd (cc (is, none)))).1 ∙ is

  spined_was : (half offset i k : ℕ) → let_go here spine_owner half offset ≡ Spined i k → spine_owner half offset ≡ Spined i k
  spined_was half offset i k is = sym (owned_is_here_and_stays half offset (λ none. absurd (cc (is, none)))).1 ∙ is

  module _ (heap : Heap) (words : List ℕ) where
    -- the spine words stand where all arrays stand in this half
    pub spines_stand_after_letting_go : (seats made : ℕ) (nodes : ℕ → Node) (owner : ℕ → Owner) (fragments : ℕ → List ℕ) (spines : ℕ → Spot)
        → ((i : ℕ) → i < made → IsKept owner fragments i → (nodes i).array ≡ true → (spines i).half ≡ here)
        → SpinesStand heap words seats made nodes owner fragments spines spine_owner → SpinesStand heap words seats made nodes owner fragments spines (let_go here spine_owner)
    spines_stand_after_letting_go seats made nodes owner fragments spines stand old = record {
      spot = old.spot;
      parties = λ half offset party k is. old.parties half offset party k (placed_was half offset party k is);
      kept = λ i j below kept within. here_stays (spines i).half ((spines i).offset + j) (stand i below kept (has_words (nodes i) j within)) ∙ old.kept i j below kept within;
      back = λ half offset i j is. old.back half offset i j (spined_was half offset i j is);
      tells = old.tells;
    }
      where
        -- an object that has spine words is an array
        has_words : (object : Node) (j : ℕ) → j < spine_words_of object → object.array ≡ true
        has_words object j = by object.array refl
          where
            by : (b : Bool) → object.array ≡ b → j < spine_words_of object → object.array ≡ true
            by true is within = is
            by false is within = let none : spine_words_of object ≡ 0 = rw is refl in absurd (omega (arith, none, within))

    -- so does the spine of a seat that stands in this half
    pub hand_spine_after_letting_go : (number : ℕ) (seat : Seat) → (HasPlace seat seat.point → seat.spine.half ≡ here) → SpineInHand heap words spine_owner number seat
        → SpineInHand heap words (let_go here spine_owner) number seat
    hand_spine_after_letting_go number seat stands old = record {
      placed = λ has j less. here_stays seat.spine.half (seat.spine.offset + j) (stands has) ∙ old.placed has j less;
      own = λ half offset j is. old.own half offset j (placed_was half offset number j is);
      stored = old.stored;
    }

    -- and the place that a seat has loaded which has answered since
    pub address_stands_after_letting_go : (nodes : ℕ → Node) (owner : ℕ → Owner) (fragments : ℕ → List ℕ) (spines : ℕ → Spot) (seat : Seat) (point : Point) → ¬ IsBetween 3 4 seat.answered
        → AddressStands heap words nodes owner fragments spines spine_owner seat point → AddressStands heap words nodes owner fragments spines (let_go here spine_owner) seat point
    address_stands_after_letting_go nodes owner fragments spines seat point late = while_loaded_goes_on point (λ has reads i f calls is an_array.
        elim (reads i f calls is an_array) as (λ _. (seat.address ≡ spines i) ⊎ IsLeftReplica heap words (nodes i) (fragments i) (let_go here spine_owner) seat.answered seat.address) [
          | inl own ↦ inl own
          | inr replica ↦ absurd (late replica.late)
        ])
