-- What a seat holds and bears once fragments were claimed, given back or born.
use Rattle.std.proofs.Common.{◌≡◌, ◌≢◌, ℕ, ◌+◌, ◌*◌, ◌<◌, ◌≤◌, inl, inr, List, [], ◌++◌, length, refl, sym, ap, ◌∙◌, arith}
use Rattle.std.proofs.lemmas.Bool.Decides.{leb_tells}
use Rattle.core_rule.proofs.Terms.{Heap, tally, inside_group, outside_group, Bits, Holding, fragments_in_hand, Owner, Free, Taken, Borne, holds_bit, bears_bit, owner_after}
use Rattle.core_rule.proofs.hand.Bodies.{in_hand_is_hand, in_hand_ignores_hand}
use Rattle.core_rule.proofs.owners.Handed.{handed_gains_bit, handed_loses_bit, handed_bit_stays}
use Rattle.core_rule.proofs.owners.OwnerLemmas.{holds_bit_is_taken, holds_bit_within_one, free_is_no_seats}
use Rattle.core_rule.proofs.lists.GroupLists.{inside_and_outside_tallies_make_whole}
use Rattle.core_rule.proofs.lists.Tallies.{tally-append, one_at_same_is_one, one_at_other_is_none}

-- what a seat holds is the heap's
pub hand_within_heap : (heap : Heap) (words : List ℕ) (owner : ℕ → Owner) → Bits heap words owner → (number : ℕ) (fs : List ℕ) → ((f : ℕ) → 1 ≤ tally f fs → owner f ≡ Taken number)
    → (f : ℕ) → 1 ≤ tally f fs → f < 16 * heap.groups
hand_within_heap heap words owner bits number fs held f there = elim (leb_tells (16 * heap.groups) f) as (λ _. f < 16 * heap.groups) [
  | inl beyond ↦ absurd (free_is_no_seats number (owner f) (bits.outside f beyond.1) (held f there))
  | inr within ↦ within.1
]

-- nothing of the object is born while it isn't chosen
none_borne : (owner : ℕ → Owner) (number : ℕ) (reserve hand body : List ℕ) → body ≡ [] → Holding owner number reserve hand body → (f : ℕ) → bears_bit number (owner f) ≡ 0
none_borne owner number reserve hand body none holding f =
    let same : tally f (fragments_in_hand hand body) ≡ tally f hand = rw none refl in
    omega (arith, holding.borne f, same)

pub is_not_borne_by_seat : (owner : ℕ → Owner) (number : ℕ) (reserve hand body : List ℕ) → body ≡ [] → Holding owner number reserve hand body → (f : ℕ) → owner f ≢ Borne number
is_not_borne_by_seat owner number reserve hand body none holding f bears = let one : bears_bit number (owner f) ≡ 1 = ap (bears_bit number) bears ∙ one_at_same_is_one number number refl in omega (arith, none_borne owner number reserve hand body none holding f, one)

-- the seat holds and bears what it did
pub record SameHand (r : ℕ) (owner now : ℕ → Owner) : Type 0 where
  pub held : (f : ℕ) → holds_bit r (now f) ≡ holds_bit r (owner f)
  pub borne : (f : ℕ) → bears_bit r (now f) ≡ bears_bit r (owner f)

pub same_hand_of_itself : (r : ℕ) (owner : ℕ → Owner) → SameHand r owner owner
same_hand_of_itself r owner = record { held = λ f. refl; borne = λ f. refl }

-- so its fragments stay
pub holding_stays : (owner now : ℕ → Owner) (r : ℕ) (reserve hand body : List ℕ) → SameHand r owner now → Holding owner r reserve hand body → Holding now r reserve hand body
holding_stays owner now r reserve hand body same holding = record {
  held = λ f. holding.held f ∙ sym (same.held f);
  borne = λ f. holding.borne f ∙ sym (ap (λ n. tally f hand + n) (same.borne f));
}

-- free fragments go to another seat
pub same_hand_after_others_claim : (owner : ℕ → Owner) (r s : ℕ) (fs : List ℕ) → r ≢ s → ((f : ℕ) → 1 ≤ tally f fs → owner f ≡ Free) → SameHand r owner (owner_after (Taken s) owner fs)
same_hand_after_others_claim owner r s fs apart free = record {
  held = handed_bit_stays (holds_bit r) (Taken s) owner fs (λ x there. ap (holds_bit r) (free x there) ∙ sym (one_at_other_is_none s r (λ e. apart (sym e))));
  borne = handed_bit_stays (bears_bit r) (Taken s) owner fs (λ x there. ap (bears_bit r) (free x there));
}

-- fragments of another seat go to it as born ones, or to nobody
module _ (owner : ℕ → Owner) (r s : ℕ) (fs : List ℕ) (apart : r ≢ s) (held : (f : ℕ) → 1 ≤ tally f fs → owner f ≡ Taken s) where
  pub same_hand_after_giving : SameHand r owner (owner_after Free owner fs)
  same_hand_after_giving = record {
    held = handed_bit_stays (holds_bit r) Free owner fs (λ x there. ap (holds_bit r) (held x there) ∙ one_at_other_is_none s r (λ e. apart (sym e)));
    borne = handed_bit_stays (bears_bit r) Free owner fs (λ x there. ap (bears_bit r) (held x there));
  }

  pub same_hand_after_others_birth : SameHand r owner (owner_after (Borne s) owner fs)
  same_hand_after_others_birth = record {
    held = handed_bit_stays (holds_bit r) (Borne s) owner fs (λ x there. ap (holds_bit r) (held x there) ∙ one_at_other_is_none s r (λ e. apart (sym e)));
    borne = handed_bit_stays (bears_bit r) (Borne s) owner fs (λ x there. ap (bears_bit r) (held x there) ∙ sym (one_at_other_is_none s r (λ e. apart (sym e))));
  }

module _ (owner : ℕ → Owner) (number : ℕ) (reserve hand body : List ℕ) (holding : Holding owner number reserve hand body) where
  -- what is in the hand is the seat's, each fragment once
  pub hand_fragment_is_taken : (f : ℕ) → 1 ≤ tally f hand → owner f ≡ Taken number
  hand_fragment_is_taken f there = holds_bit_is_taken number (owner f) (omega (arith, there, holding.held f))

  pub hand_has_each_once : (f : ℕ) → tally f hand ≤ 1
  hand_has_each_once f = omega (arith, holding.held f, holds_bit_within_one number (owner f))

  -- the seat claims free fragments
  module _ (fs : List ℕ) (once : (f : ℕ) → tally f fs ≤ 1) (free : (f : ℕ) → 1 ≤ tally f fs → owner f ≡ Free) where
    -- its hand has them then
    pub holding_after_claim : body ≡ [] → Holding (owner_after (Taken number) owner fs) number reserve (hand ++ fs) body
    holding_after_claim none = record {
      held = λ f. omega (arith, holding.held f, tally-append f hand fs, handed_gains_bit (holds_bit number) (Taken number) owner fs once (one_at_same_is_one number number refl) (λ x there. ap (holds_bit number) (free x there)) f);
      borne = λ f. rw (in_hand_is_hand (hand ++ fs) body none)
          (omega (arith, none_borne owner number reserve hand body none holding f, handed_bit_stays (bears_bit number) (Taken number) owner fs (λ x there. ap (bears_bit number) (free x there)) f));
    }

  -- those of the hand that are of a group leave it
  module _ (g : ℕ) where
    -- they are the seat's, each once
    pub inside_group_fragment_is_taken : (f : ℕ) → 1 ≤ tally f (inside_group g hand) → owner f ≡ Taken number
    inside_group_fragment_is_taken f there = hand_fragment_is_taken f (omega (arith, there, inside_and_outside_tallies_make_whole g f hand))

    pub inside_group_has_each_once : (f : ℕ) → tally f (inside_group g hand) ≤ 1
    inside_group_has_each_once f = omega (arith, hand_has_each_once f, inside_and_outside_tallies_make_whole g f hand)

    held_less : (o : Owner) → holds_bit number o ≡ 0 → (f : ℕ) → tally f reserve + tally f (outside_group g hand) ≡ holds_bit number (owner_after o owner (inside_group g hand) f)
    held_less o none f = omega (
      arith,
      holding.held f,
      inside_and_outside_tallies_make_whole g f hand,
      handed_loses_bit (holds_bit number) o owner (inside_group g hand) inside_group_has_each_once none (λ x there. ap (holds_bit number) (inside_group_fragment_is_taken x there) ∙ one_at_same_is_one number number refl) f,
    )

    -- they are given back
    pub holding_after_giving : body ≡ [] → Holding (owner_after Free owner (inside_group g hand)) number reserve (outside_group g hand) body
    holding_after_giving none = record {
      held = held_less Free refl;
      borne = λ f. rw (in_hand_is_hand (outside_group g hand) body none)
          (omega (arith, none_borne owner number reserve hand body none holding f, handed_bit_stays (bears_bit number) Free owner (inside_group g hand) (λ x there. ap (bears_bit number) (inside_group_fragment_is_taken x there)) f));
    }

    -- they are born
    pub holding_after_birth : 1 ≤ length body → Holding (owner_after (Borne number) owner (inside_group g hand)) number reserve (outside_group g hand) body
    holding_after_birth some = record {
      held = held_less (Borne number) refl;
      borne = λ f. rw (in_hand_ignores_hand (outside_group g hand) hand body some)
          (omega (
            arith,
            holding.borne f,
            inside_and_outside_tallies_make_whole g f hand,
            handed_gains_bit (bears_bit number) (Borne number) owner (inside_group g hand) inside_group_has_each_once (one_at_same_is_one number number refl) (λ x there. ap (bears_bit number) (inside_group_fragment_is_taken x there)) f,
          ));
    }
