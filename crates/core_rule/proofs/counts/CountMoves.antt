-- What is in use once fragments were claimed or given back.
use Rattle.std.proofs.Common.{◌≡◌, ℕ, ◌+◌, ◌*◌, ◌<◌, ◌≤◌, List, [], ◌∷◌, ◌++◌, length, refl, ap, arith}
use Rattle.core_rule.proofs.Terms.{Entry, Heap, fragments_gained, fragments_lost, tally, sum_upto, AreUsed, free_in_all, Owner, Free, Taken, Borne, taken_bit, free_bit}
use Rattle.core_rule.proofs.Terms.{owner_after}
use Rattle.heap_model.specs.declared.entry.Entry.TheVariants as entries
use Rattle.heap_model.proofs.Histories.{total-more}
use Rattle.core_machine.proofs.table_lemmas.Free.{sum_of_same_functions}
use Rattle.core_rule.proofs.counts.FreeSums.{free_count_is_unused}
use Rattle.core_rule.proofs.owners.Handed.{handed_gains_bit, handed_loses_bit, handed_sum_grows_by_list, handed_sum_falls_by_list, handed_bit_stays}

-- where the same are taken, as many are in use
pub used_where_same_taken : (heap : Heap) (owner now : ℕ → Owner) (history : List Entry) → ((f : ℕ) → taken_bit (now f) ≡ taken_bit (owner f)) → AreUsed heap owner history → AreUsed heap now history
used_where_same_taken heap owner now history same used =
    let all = sum_of_same_functions (16 * heap.groups) (λ f. taken_bit (now f)) (λ f. taken_bit (owner f)) (λ f below. same f) in omega (arith, all, used)

module _ (heap : Heap) (owner : ℕ → Owner) (history : List Entry) (number : ℕ) (fs : List ℕ) (once : (f : ℕ) → tally f fs ≤ 1) (below : (f : ℕ) → 1 ≤ tally f fs → f < 16 * heap.groups)
    (used : AreUsed heap owner history) where
  -- free fragments are claimed
  module _ (free : (f : ℕ) → 1 ≤ tally f fs → owner f ≡ Free) where
    -- each that is claimed was free, and isn't
    pub free_bit_before_claim : (f : ℕ) → free_bit (owner f) ≡ free_bit (owner_after (Taken number) owner fs f) + tally f fs
    free_bit_before_claim = handed_loses_bit free_bit (Taken number) owner fs once refl (λ f there. ap free_bit (free f there))

    pub free_count_before_claim : free_in_all heap owner ≡ free_in_all heap (owner_after (Taken number) owner fs) + length fs
    free_count_before_claim = handed_sum_falls_by_list free_bit (Taken number) owner fs once (16 * heap.groups) below refl (λ f there. ap free_bit (free f there))

    claim_sum : sum_upto (16 * heap.groups) (λ f. taken_bit (owner_after (Taken number) owner fs f)) ≡ sum_upto (16 * heap.groups) (λ f. taken_bit (owner f)) + length fs
    claim_sum = handed_sum_grows_by_list taken_bit (Taken number) owner fs once (16 * heap.groups) below refl (λ f there. ap taken_bit (free f there))

    -- as many more are in use
    pub used_after_claim : AreUsed heap (owner_after (Taken number) owner fs) (history ++ entries.Takes number (length fs) ∷ [])
    used_after_claim = omega (
      arith,
      used,
      claim_sum,
      total-more (λ e. e.taken) history (entries.Takes number (length fs)),
      total-more (λ e. e.given) history (entries.Takes number (length fs)),
      total-more (λ e. e.freed) history (entries.Takes number (length fs)),
    )

    pub used_after_empty_claim : length fs ≡ 0 → AreUsed heap (owner_after (Taken number) owner fs) history
    used_after_empty_claim none = omega (arith, used, claim_sum, none)

    -- they are no more than what is in no use
    pub claim_fits_room : fragments_gained heap history + length fs ≤ 16 * heap.groups + fragments_lost history
    claim_fits_room = omega (arith, free_count_is_unused heap owner history used, free_count_before_claim)

  -- fragments of the seat are given back, or born
  module _ (held : (f : ℕ) → 1 ≤ tally f fs → owner f ≡ Taken number) where
    -- each that is given back is free
    pub free_bit_after_giving : (f : ℕ) → free_bit (owner_after Free owner fs f) ≡ free_bit (owner f) + tally f fs
    free_bit_after_giving = handed_gains_bit free_bit Free owner fs once refl (λ f there. ap free_bit (held f there))

    pub free_count_after_giving : free_in_all heap (owner_after Free owner fs) ≡ free_in_all heap owner + length fs
    free_count_after_giving = handed_sum_grows_by_list free_bit Free owner fs once (16 * heap.groups) below refl (λ f there. ap free_bit (held f there))

    give_sum : sum_upto (16 * heap.groups) (λ f. taken_bit (owner f)) ≡ sum_upto (16 * heap.groups) (λ f. taken_bit (owner_after Free owner fs f)) + length fs
    give_sum = handed_sum_falls_by_list taken_bit Free owner fs once (16 * heap.groups) below refl (λ f there. ap taken_bit (held f there))

    -- as many fewer are in use
    pub used_after_giving : AreUsed heap (owner_after Free owner fs) (history ++ entries.GivesBack number (length fs) ∷ [])
    used_after_giving = omega (
      arith,
      used,
      give_sum,
      total-more (λ e. e.taken) history (entries.GivesBack number (length fs)),
      total-more (λ e. e.given) history (entries.GivesBack number (length fs)),
      total-more (λ e. e.freed) history (entries.GivesBack number (length fs)),
    )

    -- a birth frees nothing
    pub free_bit_same_after_birth : (f : ℕ) → free_bit (owner_after (Borne number) owner fs f) ≡ free_bit (owner f)
    free_bit_same_after_birth = handed_bit_stays free_bit (Borne number) owner fs (λ f there. ap free_bit (held f there))

    pub used_after_birth : AreUsed heap (owner_after (Borne number) owner fs) history
    used_after_birth = used_where_same_taken heap owner (owner_after (Borne number) owner fs) history (handed_bit_stays taken_bit (Borne number) owner fs (λ x there. ap taken_bit (held x there))) used
