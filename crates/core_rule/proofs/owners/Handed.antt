-- Fragments that go to another owner.
use Rattle.std.proofs.Common.{◌≡◌, ℕ, ◌+◌, ◌<◌, ◌≤◌, ◌⊎◌, inl, inr, List, length, refl, arith, ◌≢◌}
use Rattle.std.proofs.lemmas.Bool.Decides.{nat_tests}
use Rattle.core_rule.proofs.Terms.{tally, sum_upto, Owner, owner_after, Dead}
use Rattle.core_rule.proofs.lists.SumLemmas.{sum_plus}
use Rattle.core_rule.proofs.lists.Tallies.{sum_of_tallies_is_length}

-- a fragment of the list is the new owner's, another its owner's
pub handed_is_new_owners : (o : Owner) (owner : ℕ → Owner) (fs : List ℕ) (f : ℕ) → 1 ≤ tally f fs → owner_after o owner fs f ≡ o
handed_is_new_owners o owner fs f there = grind (arith, nat_tests, there)

pub unhanded_keeps_owner : (o : Owner) (owner : ℕ → Owner) (fs : List ℕ) (f : ℕ) → tally f fs ≡ 0 → owner_after o owner fs f ≡ owner f
unhanded_keeps_owner o owner fs f away = grind (arith, nat_tests, away)

-- a count is none or some
pub none_or_some : (n : ℕ) → (n ≡ 0) ⊎ (1 ≤ n)
none_or_some n = grind arith

-- a fact of the new owner, by two cases
pub handed_cases : (P : Owner → Type 0) (o : Owner) (owner : ℕ → Owner) (fs : List ℕ) (f : ℕ)
    → (1 ≤ tally f fs → P o) → (tally f fs ≡ 0 → P (owner f)) → P (owner_after o owner fs f)
handed_cases P o owner fs f there away = elim (none_or_some (tally f fs)) as (λ _. P (owner_after o owner fs f)) [
  | inl none ↦ rw (unhanded_keeps_owner o owner fs f none) (away none)
  | inr some ↦ rw (handed_is_new_owners o owner fs f some) (there some)
]

-- what is to be freed then was so, where they go to nobody or to a seat
pub dead_was_dead_before_handing : (o : Owner) (owner : ℕ → Owner) (fs : List ℕ) → ((i k : ℕ) → o ≢ Dead i k) → (f i k : ℕ) → owner_after o owner fs f ≡ Dead i k → owner f ≡ Dead i k
dead_was_dead_before_handing o owner fs undead f i k = handed_cases (λ x. x ≡ Dead i k → owner f ≡ Dead i k) o owner fs f (λ there is. absurd (undead i k is)) (λ away is. is)

module _ (bit : Owner → ℕ) (o : Owner) (owner : ℕ → Owner) (fs : List ℕ) (once : (f : ℕ) → tally f fs ≤ 1) where
  -- each fragment of the list gets the bit
  pub handed_gains_bit : bit o ≡ 1 → ((f : ℕ) → 1 ≤ tally f fs → bit (owner f) ≡ 0) → (f : ℕ) → bit (owner_after o owner fs f) ≡ bit (owner f) + tally f fs
  handed_gains_bit one none f = elim (none_or_some (tally f fs)) as (λ _. bit (owner_after o owner fs f) ≡ bit (owner f) + tally f fs) [
    | inl away ↦ rw (unhanded_keeps_owner o owner fs f away) (omega (arith, away))
    | inr there ↦ rw (handed_is_new_owners o owner fs f there) (omega (arith, one, none f there, once f, there))
  ]

  -- each loses it
  pub handed_loses_bit : bit o ≡ 0 → ((f : ℕ) → 1 ≤ tally f fs → bit (owner f) ≡ 1) → (f : ℕ) → bit (owner f) ≡ bit (owner_after o owner fs f) + tally f fs
  handed_loses_bit zero one f = elim (none_or_some (tally f fs)) as (λ _. bit (owner f) ≡ bit (owner_after o owner fs f) + tally f fs) [
    | inl away ↦ rw (unhanded_keeps_owner o owner fs f away) (omega (arith, away))
    | inr there ↦ rw (handed_is_new_owners o owner fs f there) (omega (arith, zero, one f there, once f, there))
  ]

  -- as many more have the bit as the list has
  pub handed_sum_grows_by_list : (n : ℕ) → ((f : ℕ) → 1 ≤ tally f fs → f < n) → bit o ≡ 1 → ((f : ℕ) → 1 ≤ tally f fs → bit (owner f) ≡ 0)
      → sum_upto n (λ f. bit (owner_after o owner fs f)) ≡ sum_upto n (λ f. bit (owner f)) + length fs
  handed_sum_grows_by_list n below one none =
      let sums : sum_upto n (λ f. bit (owner_after o owner fs f)) ≡ sum_upto n (λ f. bit (owner f)) + sum_upto n (λ f. tally f fs)
      = sum_plus n (λ f. bit (owner_after o owner fs f)) (λ f. bit (owner f)) (λ f. tally f fs) (λ f less. handed_gains_bit one none f) in
      omega (arith, sums, sum_of_tallies_is_length n fs below)

  -- as many fewer
  pub handed_sum_falls_by_list : (n : ℕ) → ((f : ℕ) → 1 ≤ tally f fs → f < n) → bit o ≡ 0 → ((f : ℕ) → 1 ≤ tally f fs → bit (owner f) ≡ 1)
      → sum_upto n (λ f. bit (owner f)) ≡ sum_upto n (λ f. bit (owner_after o owner fs f)) + length fs
  handed_sum_falls_by_list n below zero one =
      let sums : sum_upto n (λ f. bit (owner f)) ≡ sum_upto n (λ f. bit (owner_after o owner fs f)) + sum_upto n (λ f. tally f fs)
      = sum_plus n (λ f. bit (owner f)) (λ f. bit (owner_after o owner fs f)) (λ f. tally f fs) (λ f less. handed_loses_bit zero one f) in
      omega (arith, sums, sum_of_tallies_is_length n fs below)

-- the bit stays where it is that of the new owner
pub handed_bit_stays : (bit : Owner → ℕ) (o : Owner) (owner : ℕ → Owner) (fs : List ℕ) → ((f : ℕ) → 1 ≤ tally f fs → bit (owner f) ≡ bit o) → (f : ℕ) → bit (owner_after o owner fs f) ≡ bit (owner f)
handed_bit_stays bit o owner fs same f = handed_cases (λ x. bit x ≡ bit (owner f)) o owner fs f (λ there. let e : bit (owner f) ≡ bit o = same f there in cc) (λ away. refl)
