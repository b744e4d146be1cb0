-- Whose the fragments are once a seat's object keeps its own.
use Rattle.std.specs.List.{list_all}
use Rattle.std.proofs.Common.{◌≡◌, ◌≢◌, ℕ, ◌+◌, ◌≤◌, List, [], length, refl, sym, ap, arith, ◌<◌, Bool, true, bit_or, ◌∙◌}
use Rattle.core_rule.proofs.Terms.{Heap, Control, tally, in_group, inside_group, mask_of, at, put, table_length, birth_bits_of, Bits, Holding, Owner, Free, taken_bit, free_bit}
use Rattle.core_rule.proofs.Terms.{born_bit, holds_bit, bears_bit}
use Rattle.core_rule.proofs.hand.Bodies.{body_tally_is_hand_and_borne, body_has_each_once, body_is_own}
use Rattle.core_rule.proofs.words.ControlSteps.{bits_after_born_word}
use Rattle.core_rule.proofs.hand.HandMoves.{SameHand, hand_has_each_once, hand_fragment_is_taken}
use Rattle.core_rule.proofs.owners.Keeping.{kept_by, kept_by_cases}
use Rattle.core_rule.proofs.owners.OwnerLemmas.{own_bits_within_one, own_is_taken, own_is_not_free, own_born_is_borne, own_is_not_others}
use Rattle.core_rule.proofs.lists.GroupLists.{filter_keeps_all}

module _ (owner : ℕ → Owner) (number : ℕ) (reserve hand body : List ℕ) (holding : Holding owner number reserve hand body) (some : 1 ≤ length body) where
  module _ (n : ℕ) where
    -- the same are taken
    pub taken_bit_same_when_kept : (f : ℕ) → taken_bit (kept_by n body owner f) ≡ taken_bit (owner f)
    taken_bit_same_when_kept f = kept_by_cases n body owner (λ o. taken_bit o ≡ taken_bit (owner f)) f (λ there. sym (own_is_taken number (owner f) (body_is_own owner number reserve hand body holding f there))) (λ away. refl)

    -- and free
    pub free_bit_same_when_kept : (f : ℕ) → free_bit (kept_by n body owner f) ≡ free_bit (owner f)
    free_bit_same_when_kept f = kept_by_cases n body owner (λ o. free_bit o ≡ free_bit (owner f)) f (λ there. sym (own_is_not_free number (owner f) (body_is_own owner number reserve hand body holding f there))) (λ away. refl)

    -- those of the hand are born now
    pub born_bit_grows_when_kept : (f : ℕ) → born_bit (kept_by n body owner f) ≡ born_bit (owner f) + tally f hand
    born_bit_grows_when_kept f = kept_by_cases n body owner (λ o. born_bit o ≡ born_bit (owner f) + tally f hand) f
        (λ there. let bit : born_bit (owner f) ≡ bears_bit number (owner f) = own_born_is_borne number (owner f) (body_is_own owner number reserve hand body holding f there) in
        omega (arith, bit, body_tally_is_hand_and_borne owner number reserve hand body holding some f, body_has_each_once owner number reserve hand body holding some f, there))
        (λ away. omega (arith, away, body_tally_is_hand_and_borne owner number reserve hand body holding some f))

    -- past the heap's fragments nothing is anyone's
    kept_outside : (f : ℕ) → owner f ≡ Free → kept_by n body owner f ≡ Free
    kept_outside f free = kept_by_cases n body owner (λ o. o ≡ Free) f
        (λ there. absurd (omega (arith, body_is_own owner number reserve hand body holding f there, ap (holds_bit number) free, ap (bears_bit number) free))) (λ away. free)

    -- the seat has its reserve alone
    pub holding_reserve_when_kept : Holding (kept_by n body owner) number reserve [] []
    holding_reserve_when_kept = record {
      held = λ f. kept_by_cases n body owner (λ o. tally f reserve + tally f [] ≡ holds_bit number o) f
          (λ there. omega (arith, there, body_tally_is_hand_and_borne owner number reserve hand body holding some f, holding.held f, own_bits_within_one number (owner f)))
          (λ away. omega (arith, away, body_tally_is_hand_and_borne owner number reserve hand body holding some f, holding.held f));
      borne = λ f. kept_by_cases n body owner (λ o. tally f [] ≡ tally f [] + bears_bit number o) f
          (λ there. omega arith)
          (λ away. omega (arith, away, body_tally_is_hand_and_borne owner number reserve hand body holding some f));
    }

    -- another has what it had
    pub same_hand_when_kept : (r : ℕ) → r ≢ number → SameHand r owner (kept_by n body owner)
    same_hand_when_kept r apart = record {
      held = λ f. kept_by_cases n body owner (λ o. holds_bit r o ≡ holds_bit r (owner f)) f
          (λ there. omega (arith, own_is_not_others number r (owner f) apart (body_is_own owner number reserve hand body holding f there))) (λ away. refl);
      borne = λ f. kept_by_cases n body owner (λ o. bears_bit r o ≡ bears_bit r (owner f)) f
          (λ there. omega (arith, own_is_not_others number r (owner f) apart (body_is_own owner number reserve hand body holding f there))) (λ away. refl);
    }

-- the control word has the bits of the new owners, where all of the hand is of its group
pub bits_when_kept : (heap : Heap) (words : List ℕ) (owner : ℕ → Owner) (number : ℕ) (reserve hand body : List ℕ) (g n : ℕ) (black : Bool)
    → length words ≡ table_length heap → g < heap.groups → Bits heap words owner → Holding owner number reserve hand body → 1 ≤ length body → list_all (in_group g) hand ≡ true
    → Bits heap (put heap words (Control g) (bit_or (at heap words (Control g)) (birth_bits_of black (mask_of (inside_group g hand))))) (kept_by n body owner)
bits_when_kept heap words owner number reserve hand body g n black whole below bits holding some all =
    bits_after_born_word heap words owner g whole below bits hand number (hand_has_each_once owner number reserve hand body holding) (hand_fragment_is_taken owner number reserve hand body holding) black (kept_by n body owner)
    (taken_bit_same_when_kept owner number reserve hand body holding some n)
    (λ f. born_bit_grows_when_kept owner number reserve hand body holding some n f ∙ ap (λ fs. born_bit (owner f) + tally f fs) (sym (filter_keeps_all (in_group g) hand all)))
    (λ f past. kept_outside owner number reserve hand body holding some n f (bits.outside f past))
