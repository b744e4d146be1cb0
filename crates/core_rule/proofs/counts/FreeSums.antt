-- What is free: the fragments that aren't taken, the clear bits of the control words, what is in no use.
use Rattle.std.specs.Int.{bit_at}
use Rattle.std.proofs.Common.{◌≡◌, ℕ, ◌+◌, ◌*◌, ◌/◌, ◌%◌, ◌<◌, List, length, ◌∙◌, arith, refl}
use Rattle.core_rule.proofs.Terms.{Entry, Heap, fragments_gained, fragments_lost, Control, clear_in, at, sum_upto, Bits, AreUsed, free_in, free_in_all, free_in_passed}
use Rattle.core_rule.proofs.Terms.{FreeIsUnused, Owner, taken_bit, free_bit}
use Rattle.core_machine.specs.machine.Calls.{free_count}
use Rattle.core_machine.proofs.table_lemmas.Free.{sum_of_same_functions}
use Rattle.core_rule.proofs.words.ClearLemmas.{clear_length_is_free_count}
use Rattle.core_rule.proofs.owners.OwnerLemmas.{taken_or_free}
use Rattle.core_rule.proofs.lists.SumLemmas.{sum_blocks, sum_plus, sum_ones, sum_wrapped}

-- each fragment is taken or free
pub taken_and_free_make_all : (n : ℕ) (owner : ℕ → Owner) → sum_upto n (λ f. taken_bit (owner f)) + sum_upto n (λ f. free_bit (owner f)) ≡ n
taken_and_free_make_all n owner =
    let both = sum_plus n (λ f. 1) (λ f. taken_bit (owner f)) (λ f. free_bit (owner f)) (λ f below. taken_or_free (owner f)) in
    let all = sum_ones n (λ f. 1) (λ f below. refl) in
    omega (arith, both, all)

-- a gather that has passed every group has passed all that is free
pub all_passed_is_all_free : (heap : Heap) (owner : ℕ → Owner) (cursor : ℕ) → cursor < heap.groups → free_in_passed heap owner cursor heap.groups ≡ free_in_all heap owner
all_passed_is_all_free heap owner cursor within =
    sum_wrapped heap.groups cursor (λ group. free_in owner group) within ∙ sum_blocks 16 heap.groups (λ f. free_bit (owner f))

module _ (heap : Heap) (words : List ℕ) (owner : ℕ → Owner) (bits : Bits heap words owner) where
  -- bit j of a group's word is that of its fragment j
  pub control_bit_is_taken_bit : (g j : ℕ) → g < heap.groups → j < 16 → bit_at (at heap words (Control g)) j ≡ taken_bit (owner (16 * g + j))
  control_bit_is_taken_bit g j below less =
      let group : (16 * g + j) / 16 ≡ g = omega arith in
      let position : (16 * g + j) % 16 ≡ j = omega arith in
      rw (group, position) at (bits.taken (16 * g + j) (omega arith))

  -- what is clear in a group's word is what is free in the group
  clear_free : (g : ℕ) → g < heap.groups → length (clear_in g (at heap words (Control g))) ≡ free_in owner g
  clear_free g below = clear_length_is_free_count g (at heap words (Control g)) owner (λ j less. control_bit_is_taken_bit g j below less)

  free_words : free_count heap words ≡ free_in_all heap owner
  free_words = sum_of_same_functions heap.groups (λ g. length (clear_in g (at heap words (Control g)))) (λ g. free_in owner g) clear_free
      ∙ sum_blocks 16 heap.groups (λ f. free_bit (owner f))

-- what is free is in no use
pub free_count_is_unused : (heap : Heap) (owner : ℕ → Owner) (history : List Entry) → AreUsed heap owner history → free_in_all heap owner + fragments_gained heap history ≡ 16 * heap.groups + fragments_lost history
free_count_is_unused heap owner history used = omega (arith, used, taken_and_free_make_all (16 * heap.groups) owner)

-- so is what is clear in the control words
pub free_is_unused : FreeIsUnused
free_is_unused heap state book rule =
    rw (free_words heap state.words book.owner rule.heap_stands.control_words) (free_count_is_unused heap book.owner book.history rule.heap_stands.used)
