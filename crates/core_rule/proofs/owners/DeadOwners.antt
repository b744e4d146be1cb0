-- The fragments of a group that are to be freed, by the bits that tell them, and whose they are once they were freed.
use Rattle.std.specs.Int.{bit_at}
use Rattle.std.proofs.Common.{◌≡◌, ◌≢◌, ℕ, ◌+◌, ◌*◌, ◌/◌, ◌%◌, ◌^◌, ◌<◌, ◌≤◌, List, refl, ◌∙◌, sym, ap, subst, arith, inl, inr}
use Rattle.std.proofs.lemmas.Bool.Decides.{eqb_tells}
use Rattle.std.proofs.lemmas.Nat.Bits.{bit_at-zero}
use Rattle.core_rule.proofs.Terms.{taken_at, tally, Colour, AfterMarking, AreFreed, AreDead, Owner, Free, Kept, Dead, born_bit, dead_bit, IsSeated, IsBoards, OwnersStand}
use Rattle.core_rule.proofs.Terms.{holds_bit, bears_bit, owner_after}
use Rattle.core_rule.proofs.hand.HandMoves.{SameHand}
use Rattle.core_rule.proofs.objects.ObjectFrames.{SameKept, same_kept_after_handing, free_is_not_kept}
use Rattle.core_rule.proofs.owners.Handed.{handed_cases, handed_is_new_owners, handed_bit_stays, dead_was_dead_before_handing}
use Rattle.core_rule.proofs.owners.OwnerLemmas.{dead_bit_within_one, dead_bit_is_dead}
use Rattle.core_rule.proofs.words.SetBits.{set_in, set_tally_is_bit, set_is_in_group}

-- what a bit is of each that is to be freed
pub bit_of_each_dead : (bit : Owner → ℕ) (n : ℕ) → ((i k : ℕ) → bit (Dead i k) ≡ n) → (o : Owner) → dead_bit o ≡ 1 → bit o ≡ n
bit_of_each_dead bit n same o one = let is = dead_bit_is_dead o one in ap bit is.2 ∙ same is.0 is.1

-- none of them is kept
pub dead_is_not_kept : (i k : ℕ) (o : Owner) → dead_bit o ≡ 1 → o ≢ Kept i k
dead_is_not_kept i k o one kept = let none : dead_bit o ≡ 0 = ap dead_bit kept in omega (arith, none, one)

pub free_is_not_dead : (i k : ℕ) → Free ≢ Dead i k
free_is_not_dead i k e = cc

module _ (owner : ℕ → Owner) (fs : List ℕ) (dead : (f : ℕ) → 1 ≤ tally f fs → dead_bit (owner f) ≡ 1) where
  -- the same fragments are kept
  pub same_kept_after_freeing_dead : SameKept owner (owner_after Free owner fs)
  same_kept_after_freeing_dead = same_kept_after_handing Free owner fs free_is_not_kept (λ f i k there. dead_is_not_kept i k (owner f) (dead f there))

  -- a seat has what it had
  pub same_hand_after_freeing : (r : ℕ) → SameHand r owner (owner_after Free owner fs)
  same_hand_after_freeing r = record {
    held = handed_bit_stays (holds_bit r) Free owner fs (λ f there. bit_of_each_dead (holds_bit r) 0 (λ i k. refl) (owner f) (dead f there));
    borne = handed_bit_stays (bears_bit r) Free owner fs (λ f there. bit_of_each_dead (bears_bit r) 0 (λ i k. refl) (owner f) (dead f there));
  }

  -- the board's first fragment may be freed
  pub owners_stand_after_freeing : (seats : ℕ) → OwnersStand seats owner → OwnersStand seats (owner_after Free owner fs)
  owners_stand_after_freeing seats old = record {
    seated = λ f. handed_cases (IsSeated seats) Free owner fs f (λ there. tt) (λ away. old.seated f);
    board = handed_cases IsBoards Free owner fs 0 (λ there. tt) (λ away. old.board);
  }

  -- what is to be freed then was so
  pub dead_was_dead_before_freeing : (f i k : ℕ) → owner_after Free owner fs f ≡ Dead i k → owner f ≡ Dead i k
  dead_was_dead_before_freeing = dead_was_dead_before_handing Free owner fs free_is_not_dead

  -- and the white fragments are still those that are to be freed
  pub after_marking_when_freed : (colour : ℕ → Colour) → AfterMarking owner colour → AfterMarking (owner_after Free owner fs) colour
  after_marking_when_freed colour after = record {
    no_grey = after.no_grey;
    white_dead = λ f white. handed_cases (λ o. born_bit o ≡ 1 → (i : ℕ) × (k : ℕ) × (o ≡ Dead i k)) Free owner fs f
        (λ there born. absurd (omega (arith, born))) (λ away born. after.white_dead f record { unmarked = white.unmarked; born = born }) white.born;
    dead_white = λ f i k is. after.dead_white f i k (dead_was_dead_before_freeing f i k is);
  }

module _ (owner : ℕ → Owner) (group bits : ℕ) (small : bits < 2 ^ 16) (are : AreDead owner group bits) where
  -- a fragment of the group has its bit
  pub dead_has_its_bit : (f : ℕ) → f / 16 ≡ group → bit_at bits (taken_at f) ≡ dead_bit (owner f)
  dead_has_its_bit f here =
      let position : 16 * group + f % 16 ≡ f = omega (arith, here) in
      subst (λ x. bit_at bits (taken_at f) ≡ dead_bit (owner x)) position (are (f % 16) (omega arith))

  -- those whose bits are set are to be freed
  pub set_bits_are_dead : (f : ℕ) → 1 ≤ tally f (set_in group bits) → dead_bit (owner f) ≡ 1
  set_bits_are_dead f there =
      let here : f / 16 ≡ group = set_is_in_group group bits f there in
      omega (arith, there, set_tally_is_bit group bits small f here, dead_has_its_bit f here, dead_bit_within_one (owner f))

  -- once they were freed nothing is to be freed in the group
  pub are_freed_up_to_next : AreFreed owner group → AreFreed (owner_after Free owner (set_in group bits)) (group + 1)
  are_freed_up_to_next freed f i k below is = elim (eqb_tells (f / 16) group) [
    | inr before ↦ freed f i k (omega (arith, below, before.1)) (dead_was_dead_before_freeing owner (set_in group bits) set_bits_are_dead f i k is)
    | inl here ↦
        let was : dead_bit (owner f) ≡ 1 = ap dead_bit (dead_was_dead_before_freeing owner (set_in group bits) set_bits_are_dead f i k is) in
        let there : 1 ≤ tally f (set_in group bits) = omega (arith, set_tally_is_bit group bits small f here.1, dead_has_its_bit f here.1, was) in
        free_is_not_dead i k (sym (handed_is_new_owners Free owner (set_in group bits) f there) ∙ is)
  ]

  -- where no bit is set nothing was
  pub are_freed_where_none_set : bits ≡ 0 → AreFreed owner group → AreFreed owner (group + 1)
  are_freed_where_none_set none freed f i k below is = elim (eqb_tells (f / 16) group) [
    | inr before ↦ freed f i k (omega (arith, below, before.1)) is
    | inl here ↦
        let was : dead_bit (owner f) ≡ 1 = ap dead_bit is in
        let zero : bit_at bits (taken_at f) ≡ 0 = rw none (bit_at-zero (f % 16)) in
        omega (arith, was, dead_has_its_bit f here.1, zero)
  ]
