-- Sums over a history that grew by what a seat took or gave back.
use Rattle.std.specs.Prelude.{if◌then◌else◌}
use Rattle.std.proofs.Common.{◌≡◌, ℕ, ◌+◌, ◌==◌, List, [], ◌∷◌, ◌++◌, true, false, inl, inr, refl, arith}
use Rattle.std.proofs.lemmas.Bool.{cases_Bool}
use Rattle.heap_model.specs.declared.account.effect.Effect.{Effect}
use Rattle.core_rule.proofs.Terms.{Entry, effect_of, is_of, total_but}
use Rattle.heap_model.specs.declared.entry.Entry.TheVariants as entries
use Rattle.heap_model.specs.account.Refusals.{given_up}
use Rattle.heap_model.proofs.Histories.{total-more}
use Rattle.core_rule.proofs.entries.Others.{sum_grows_by_entry}

total_but-more : (s : ℕ) (summand : Effect → ℕ) (history : List Entry) (entry : Entry)
    → total_but s summand (history ++ entry ∷ []) ≡ total_but s summand history + (if is_of s entry then 0 else summand (effect_of entry))
total_but-more s summand history entry = sum_grows_by_entry (λ e. if is_of s e then 0 else summand (effect_of e)) history entry

-- a seat's own entry adds nothing to what the others did, and another's adds its effect
pub total_but_stays_by_own : (s : ℕ) (summand : Effect → ℕ) (history : List Entry) (entry : Entry) → is_of s entry ≡ true → total_but s summand (history ++ entry ∷ []) ≡ total_but s summand history
total_but_stays_by_own s summand history entry own = rw (total_but-more s summand history entry, own) (omega arith)

pub total_but_grows_by_other : (s : ℕ) (summand : Effect → ℕ) (history : List Entry) (entry : Entry) → is_of s entry ≡ false
    → total_but s summand (history ++ entry ∷ []) ≡ total_but s summand history + summand (effect_of entry)
total_but_grows_by_other s summand history entry other = rw (total_but-more s summand history entry, other) refl

module _ (history : List Entry) (number k : ℕ) where
  -- nothing is given up where a seat takes
  pub given_up_stays_by_takes : (s : ℕ) → given_up s (history ++ entries.Takes number k ∷ []) ≡ given_up s history
  given_up_stays_by_takes s = elim (cases_Bool (number == s)) as (λ _. given_up s (history ++ entries.Takes number k ∷ []) ≡ given_up s history) [
    | inl own ↦ omega (arith, total-more (λ e. e.freed) history (entries.Takes number k), total_but_stays_by_own s (λ e. e.given) history (entries.Takes number k) own)
    | inr other ↦ omega (arith, total-more (λ e. e.freed) history (entries.Takes number k), total_but_grows_by_other s (λ e. e.given) history (entries.Takes number k) other)
  ]

  -- what another gives back is given up
  pub given_up_grows_by_giving : (s : ℕ) → (number == s) ≡ false → given_up s (history ++ entries.GivesBack number k ∷ []) ≡ given_up s history + k
  given_up_grows_by_giving s other =
      omega (arith, total-more (λ e. e.freed) history (entries.GivesBack number k), total_but_grows_by_other s (λ e. e.given) history (entries.GivesBack number k) other)

  pub given_up_stays_by_own : (s : ℕ) → (number == s) ≡ true → given_up s (history ++ entries.GivesBack number k ∷ []) ≡ given_up s history
  given_up_stays_by_own s own =
      omega (arith, total-more (λ e. e.freed) history (entries.GivesBack number k), total_but_stays_by_own s (λ e. e.given) history (entries.GivesBack number k) own)
