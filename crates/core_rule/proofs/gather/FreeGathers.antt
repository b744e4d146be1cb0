-- What a gather knows once the collector freed fragments, which are then counted as given up.
use Rattle.std.proofs.Common.{◌≡◌, ℕ, ◌+◌, ◌*◌, ◌<◌, ◌≤◌, List, [], ◌∷◌, ◌++◌, length, drop, refl, arith}
use Rattle.core_rule.proofs.Terms.{Entry, Frees, Heap, total_but, tally, GathersRight, Owner, Free, dead_bit, free_bit, owner_after}
use Rattle.heap_model.specs.account.Refusals.{given_up}
use Rattle.heap_model.proofs.Histories.{total-more}
use Rattle.core_rule.proofs.counts.EffectSums.{total_but_grows_by_other}
use Rattle.core_rule.proofs.counts.FreeMoves.{free_in_passed_grows_within}
use Rattle.core_rule.proofs.entries.InFlight.{window_grows_by_entry}
use Rattle.core_rule.proofs.gather.GatherMoves.{gathers_right_after_others_giving}
use Rattle.core_rule.proofs.owners.DeadOwners.{bit_of_each_dead}
use Rattle.core_rule.proofs.owners.Handed.{handed_gains_bit, handed_sum_grows_by_list}

module _ (history : List Entry) (k r : ℕ) where
  -- what is freed is given up by no seat
  given_up-frees : given_up r (history ++ Frees k ∷ []) ≡ given_up r history + k
  given_up-frees = omega (arith, total-more (λ e. e.freed) history (Frees k), total_but_grows_by_other r (λ e. e.given) history (Frees k) refl)

  taken-frees : total_but r (λ e. e.taken) (history ++ Frees k ∷ []) ≡ total_but r (λ e. e.taken) history
  taken-frees = omega (arith, total_but_grows_by_other r (λ e. e.taken) history (Frees k) refl)

pub gathers_right_after_freeing : (heap : Heap) (owner : ℕ → Owner) (history : List Entry) (fs : List ℕ) → ((f : ℕ) → tally f fs ≤ 1) → ((f : ℕ) → 1 ≤ tally f fs → f < 16 * heap.groups)
    → ((f : ℕ) → 1 ≤ tally f fs → dead_bit (owner f) ≡ 1) → (begun r cursor tried given : ℕ) → begun ≤ length history → cursor < heap.groups → tried ≤ heap.groups
    → GathersRight heap owner r (drop begun history) cursor tried given
    → GathersRight heap (owner_after Free owner fs) r (drop begun (history ++ Frees (length fs) ∷ [])) cursor tried given
gathers_right_after_freeing heap owner history fs once below dead begun r cursor tried given earlier within few gathers =
    let none : (f : ℕ) → 1 ≤ tally f fs → free_bit (owner f) ≡ 0 = λ f there. bit_of_each_dead free_bit 0 (λ i k. refl) (owner f) (dead f there) in
    rw (window_grows_by_entry history begun (Frees (length fs)) earlier)
    (gathers_right_after_others_giving heap owner (owner_after Free owner fs) r (drop begun history) (drop begun history ++ Frees (length fs) ∷ []) cursor tried given (length fs)
    (free_in_passed_grows_within heap owner (owner_after Free owner fs) fs (handed_gains_bit free_bit Free owner fs once refl none) below cursor tried within few)
    (handed_sum_grows_by_list free_bit Free owner fs once (16 * heap.groups) below refl none)
    (given_up-frees (drop begun history) (length fs) r)
    (taken-frees (drop begun history) (length fs) r)
    gathers)
