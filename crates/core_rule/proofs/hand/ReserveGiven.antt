-- A reserve that is given back whole: it is of one group, and then the seat has nothing.
use Rattle.std.specs.List.{All}
use Rattle.std.proofs.Common.{◌≡◌, ℕ, ◌+◌, ◌/◌, ◌≤◌, ◌<◌, List, [], length, refl, sym, ap, ◌∙◌, subst, arith}
use Rattle.core_rule.proofs.Terms.{Heap, Control, mask_of, tally, at, put, table_length, word_without_taken, Bits, Holding, Owner, Free, Taken, holds_bit, bears_bit, owner_after}
use Rattle.core_machine.proofs.call_lemmas.Restoring.{inside_own_group_is_all}
use Rattle.core_rule.proofs.words.ControlSteps.{bits_after_giving}
use Rattle.core_rule.proofs.owners.Handed.{handed_loses_bit, handed_bit_stays}
use Rattle.core_rule.proofs.owners.OwnerLemmas.{holds_bit_is_taken, holds_bit_within_one}
use Rattle.core_rule.proofs.lists.Tallies.{one_at_same_is_one}

module _ (owner : ℕ → Owner) (number : ℕ) (reserve hand body : List ℕ) (holding : Holding owner number reserve hand body) where
  -- what is in the reserve is the seat's, each fragment once
  pub reserve_fragment_is_taken : (f : ℕ) → 1 ≤ tally f reserve → owner f ≡ Taken number
  reserve_fragment_is_taken f there = holds_bit_is_taken number (owner f) (omega (arith, there, holding.held f))

  pub reserve_has_each_once : (f : ℕ) → tally f reserve ≤ 1
  reserve_has_each_once f = omega (arith, holding.held f, holds_bit_within_one number (owner f))

  -- and then the seat has its hand alone
  pub holding_after_emptying : Holding (owner_after Free owner reserve) number [] hand body
  holding_after_emptying = record {
    held = λ f. omega (
      arith,
      holding.held f,
      handed_loses_bit (holds_bit number) Free owner reserve reserve_has_each_once refl (λ x there. ap (holds_bit number) (reserve_fragment_is_taken x there) ∙ one_at_same_is_one number number refl) f,
    );
    borne = λ f. holding.borne f
        ∙ sym (ap (λ n. tally f hand + n) (handed_bit_stays (bears_bit number) Free owner reserve (λ x there. ap (bears_bit number) (reserve_fragment_is_taken x there)) f));
  }

  -- its group's control word tells so
  pub bits_after_emptying : (heap : Heap) (words : List ℕ) (g : ℕ) → length words ≡ table_length heap → g < heap.groups → All (λ f. f / 16 ≡ g) reserve → Bits heap words owner
      → Bits heap (put heap words (Control g) (word_without_taken (mask_of reserve) (at heap words (Control g)))) (owner_after Free owner reserve)
  bits_after_emptying heap words g whole below all bits =
      subst (λ fs. Bits heap (put heap words (Control g) (word_without_taken (mask_of fs) (at heap words (Control g)))) (owner_after Free owner fs)) (inside_own_group_is_all g reserve all)
      (bits_after_giving heap words owner g whole below bits reserve number reserve_has_each_once reserve_fragment_is_taken)
