-- What gathers know once the history tells of a claim or a give back.
use Rattle.std.proofs.Common.{◌≡◌, ◌≢◌, ℕ, ◌+◌, ◌*◌, ◌/◌, ◌%◌, ◌<◌, ◌≤◌, List, [], ◌∷◌, ◌++◌, length, drop, refl, arith}
use Rattle.std.proofs.lemmas.Bool.{eq-eqb}
use Rattle.core_rule.proofs.Terms.{Entry, Heap, tally, AreUsed, GathersRight, Owner, Free, Taken, free_bit, owner_after}
use Rattle.heap_model.specs.declared.entry.Entry.TheVariants as entries
use Rattle.core_rule.proofs.counts.CountMoves.{free_bit_before_claim, free_count_before_claim, free_bit_after_giving, free_count_after_giving}
use Rattle.core_rule.proofs.counts.EffectSums.{given_up_stays_by_takes, given_up_grows_by_giving, given_up_stays_by_own, total_but_stays_by_own, total_but_grows_by_other}
use Rattle.core_rule.proofs.counts.FreeMoves.{free_in_passed_grows_within}
use Rattle.core_rule.proofs.gather.GatherMoves.{gathers_right_after_claim, gathers_right_after_others_claim, gathers_right_after_giving, gathers_right_after_others_giving}
use Rattle.core_rule.proofs.entries.InFlight.{window_grows_by_entry}
use Rattle.heap_model.proofs.graph_changes.OwnGraphs.{seat_is_not_other}

-- sums that differ by nothing
pub equal_by_no_difference : (n m k : ℕ) → n ≡ m + k → k ≡ 0 → n ≡ m
equal_by_no_difference n m k e none = omega arith

module _ (heap : Heap) (owner : ℕ → Owner) (history : List Entry) (s : ℕ) (fs : List ℕ) (once : (f : ℕ) → tally f fs ≤ 1) (below : (f : ℕ) → 1 ≤ tally f fs → f < 16 * heap.groups)
    (used : AreUsed heap owner history) (begun : ℕ) (earlier : begun ≤ length history) (cursor tried given : ℕ) where
  -- s gives back what it holds
  module _ (held : (f : ℕ) → 1 ≤ tally f fs → owner f ≡ Taken s) (within : cursor < heap.groups) (few : tried ≤ heap.groups) where
    -- its own gather then
    pub own_giving_gathers_right : GathersRight heap owner s (drop begun history) cursor tried given
        → GathersRight heap (owner_after Free owner fs) s (drop begun (history ++ entries.GivesBack s (length fs) ∷ [])) cursor tried (given + length fs)
    own_giving_gathers_right gathers = rw (window_grows_by_entry history begun (entries.GivesBack s (length fs)) earlier)
        (gathers_right_after_giving heap owner (owner_after Free owner fs) s (drop begun history) (drop begun history ++ entries.GivesBack s (length fs) ∷ []) cursor tried given (length fs)
        (free_in_passed_grows_within heap owner (owner_after Free owner fs) fs (free_bit_after_giving heap owner history s fs once below used held) below cursor tried within few)
        (free_count_after_giving heap owner history s fs once below used held)
        (given_up_stays_by_own (drop begun history) s (length fs) s (eq-eqb s s refl))
        (total_but_stays_by_own s (λ e. e.taken) (drop begun history) (entries.GivesBack s (length fs)) (eq-eqb s s refl))
        gathers)

    -- another's gather
    pub other_giving_gathers_right : (r : ℕ) → r ≢ s → GathersRight heap owner r (drop begun history) cursor tried given
        → GathersRight heap (owner_after Free owner fs) r (drop begun (history ++ entries.GivesBack s (length fs) ∷ [])) cursor tried given
    other_giving_gathers_right r apart gathers = rw (window_grows_by_entry history begun (entries.GivesBack s (length fs)) earlier)
        (gathers_right_after_others_giving heap owner (owner_after Free owner fs) r (drop begun history) (drop begun history ++ entries.GivesBack s (length fs) ∷ []) cursor tried given (length fs)
        (free_in_passed_grows_within heap owner (owner_after Free owner fs) fs (free_bit_after_giving heap owner history s fs once below used held) below cursor tried within few)
        (free_count_after_giving heap owner history s fs once below used held)
        (given_up_grows_by_giving (drop begun history) s (length fs) r (seat_is_not_other s r apart))
        (equal_by_no_difference _ _ 0 (total_but_grows_by_other r (λ e. e.taken) (drop begun history) (entries.GivesBack s (length fs)) (seat_is_not_other s r apart)) refl)
        gathers)

  -- s claims what is free
  module _ (free : (f : ℕ) → 1 ≤ tally f fs → owner f ≡ Free) where
    less_for : (f : ℕ) → free_bit (owner_after (Taken s) owner fs f) ≤ free_bit (owner f)
    less_for f = omega (arith, free_bit_before_claim heap owner history s fs once below used free f)

    module _ (none : (f : ℕ) → f / 16 ≡ (cursor + tried) % heap.groups → free_bit (owner_after (Taken s) owner fs f) ≡ 0) where
      -- its own gather has passed one group more
      pub own_claim_gathers_right : GathersRight heap owner s (drop begun history) cursor tried 0
          → GathersRight heap (owner_after (Taken s) owner fs) s (drop begun (history ++ entries.Takes s (length fs) ∷ [])) cursor (tried + 1) 0
      own_claim_gathers_right gathers = rw (window_grows_by_entry history begun (entries.Takes s (length fs)) earlier)
          (gathers_right_after_claim heap owner (owner_after (Taken s) owner fs) s (drop begun history) (drop begun history ++ entries.Takes s (length fs) ∷ []) cursor tried
          less_for none (given_up_stays_by_takes (drop begun history) s (length fs) s) gathers)

      -- where nothing is free in the group
      pub own_empty_claim_gathers_right : GathersRight heap owner s (drop begun history) cursor tried 0 → GathersRight heap (owner_after (Taken s) owner fs) s (drop begun history) cursor (tried + 1) 0
      own_empty_claim_gathers_right gathers = gathers_right_after_claim heap owner (owner_after (Taken s) owner fs) s (drop begun history) (drop begun history) cursor tried less_for none refl gathers

    -- another's gather
    pub other_claim_gathers_right : (r : ℕ) → r ≢ s → GathersRight heap owner r (drop begun history) cursor tried given
        → GathersRight heap (owner_after (Taken s) owner fs) r (drop begun (history ++ entries.Takes s (length fs) ∷ [])) cursor tried given
    other_claim_gathers_right r apart gathers = rw (window_grows_by_entry history begun (entries.Takes s (length fs)) earlier)
        (gathers_right_after_others_claim heap owner (owner_after (Taken s) owner fs) r (drop begun history) (drop begun history ++ entries.Takes s (length fs) ∷ []) cursor tried given (length fs)
        less_for (free_count_before_claim heap owner history s fs once below used free) (given_up_stays_by_takes (drop begun history) s (length fs) r)
        (total_but_grows_by_other r (λ e. e.taken) (drop begun history) (entries.Takes s (length fs)) (seat_is_not_other s r apart))
        gathers)

    pub other_empty_claim_gathers_right : length fs ≡ 0 → (r : ℕ) → GathersRight heap owner r (drop begun history) cursor tried given
        → GathersRight heap (owner_after (Taken s) owner fs) r (drop begun history) cursor tried given
    other_empty_claim_gathers_right nothing r gathers =
        gathers_right_after_others_claim heap owner (owner_after (Taken s) owner fs) r (drop begun history) (drop begun history) cursor tried given (length fs)
        less_for (free_count_before_claim heap owner history s fs once below used free) refl (omega (arith, nothing)) gathers
