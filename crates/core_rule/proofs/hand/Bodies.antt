-- The fragments of the object that a seat makes.
use Rattle.std.proofs.Common.{◌≡◌, ℕ, ◌+◌, ◌<◌, ◌≤◌, List, [], ◌∷◌, length, refl, sym, ap, ◌∙◌, arith}
use Rattle.core_rule.proofs.Terms.{tally, fragment_at, Holding, fragments_in_hand, Owner, bears_bit}
use Rattle.core_rule.proofs.lists.Members.{element_is_tallied}
use Rattle.core_rule.proofs.owners.OwnerLemmas.{IsOwn, own_bits_within_one}

-- while the object's fragments aren't chosen, the call in flight has its hand
pub in_hand_is_hand : (hand body : List ℕ) → body ≡ [] → fragments_in_hand hand body ≡ hand
in_hand_is_hand hand body none = rw none refl

-- the hand doesn't matter once they are chosen
pub in_hand_ignores_hand : (hand other body : List ℕ) → 1 ≤ length body → fragments_in_hand hand body ≡ fragments_in_hand other body
in_hand_ignores_hand hand other [] some = absurd (omega (arith, some))
in_hand_ignores_hand hand other (f ∷ body) some = refl

-- once the object's fragments are chosen, the call in flight has them
pub in_hand_is_body : (hand body : List ℕ) → 1 ≤ length body → fragments_in_hand hand body ≡ body
in_hand_is_body hand [] some = absurd (omega arith)
in_hand_is_body hand (x ∷ xs) some = refl

-- a hand that is all of the object's is whole
pub in_hand_of_same : (hand : List ℕ) → fragments_in_hand hand hand ≡ hand
in_hand_of_same [] = refl
in_hand_of_same (f ∷ hand) = refl

-- with nothing in the hand, a seat has its reserve
pub bare_seat_holds_reserve : (reserve hand body : List ℕ) (spent taken : ℕ) → hand ≡ [] → body ≡ [] → length reserve + length (fragments_in_hand hand body) + spent ≡ taken → length reserve + spent ≡ taken
bare_seat_holds_reserve reserve hand body spent taken empty none unborn =
    let bare : fragments_in_hand hand body ≡ [] = rw (none, empty) refl in
    let no_length : length (fragments_in_hand hand body) ≡ 0 = rw bare refl in
    omega (arith, unborn, no_length)

-- what stands in a list stands in one that isn't empty
some_there : (f : ℕ) (fs : List ℕ) → 1 ≤ tally f fs → 1 ≤ length fs
some_there f [] there = absurd (omega arith)
some_there f (x ∷ xs) there = omega arith

module _ (owner : ℕ → Owner) (number : ℕ) (reserve hand body : List ℕ) (holding : Holding owner number reserve hand body) where
  -- a fragment of the new object is in the hand, or borne
  pub body_tally_is_hand_and_borne : 1 ≤ length body → (f : ℕ) → tally f body ≡ tally f hand + bears_bit number (owner f)
  body_tally_is_hand_and_borne some f = ap (tally f) (sym (in_hand_is_body hand body some)) ∙ holding.borne f

  -- it is in the object once
  pub body_has_each_once : 1 ≤ length body → (f : ℕ) → tally f body ≤ 1
  body_has_each_once some f = omega (arith, body_tally_is_hand_and_borne some f, holding.held f, own_bits_within_one number (owner f))

  -- and is the seat's own
  pub body_is_own : (f : ℕ) → 1 ≤ tally f body → IsOwn number (owner f)
  body_is_own f there = omega (arith, there, body_tally_is_hand_and_borne (some_there f body there) f, holding.held f, own_bits_within_one number (owner f))

  pub body_fragment_is_own : (k : ℕ) → k < length body → IsOwn number (owner (fragment_at body k))
  body_fragment_is_own k below = body_is_own (fragment_at body k) (element_is_tallied body k below)
