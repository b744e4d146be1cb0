-- What a gather knows once fragments were claimed or given back.
use Rattle.std.proofs.Common.{◌≡◌, ℕ, ◌+◌, ◌/◌, ◌%◌, ◌≤◌, List, arith}
use Rattle.core_rule.proofs.Terms.{Entry, Heap, total_but, GathersRight, free_in_all, free_in_passed, free_in, Owner, free_bit}
use Rattle.heap_model.specs.account.Refusals.{given_up}
use Rattle.core_machine.proofs.table_lemmas.Free.{sum_upto-none}
use Rattle.core_rule.proofs.counts.FreeMoves.{free_in_passed_falls, free_in_passed_after_claim, free_count_same}

-- a gather that has passed no group knows what it has to
pub gathers_right_untried : (heap : Heap) (owner : ℕ → Owner) (number : ℕ) (since : List Entry) (cursor : ℕ) → GathersRight heap owner number since cursor 0 0
gathers_right_untried heap owner number since cursor = record {
  passed = rw (sum_upto-none (λ j. free_in owner ((cursor + j) % heap.groups))) (omega arith);
  returned = omega arith;
}

module _ (heap : Heap) (owner now : ℕ → Owner) (number : ℕ) (since later : List Entry) (cursor tried : ℕ) where
  -- the seat claims one more group, while it has given nothing back
  pub gathers_right_after_claim : ((f : ℕ) → free_bit (now f) ≤ free_bit (owner f)) → ((f : ℕ) → f / 16 ≡ (cursor + tried) % heap.groups → free_bit (now f) ≡ 0)
      → given_up number later ≡ given_up number since → GathersRight heap owner number since cursor tried 0 → GathersRight heap now number later cursor (tried + 1) 0
  gathers_right_after_claim less none same gathers = record {
    passed = omega (arith, gathers.passed, free_in_passed_falls heap owner now less cursor tried, free_in_passed_after_claim heap now cursor tried none, same);
    returned = omega arith;
  }

  module _ (given k : ℕ) where
    -- another seat claims fragments
    pub gathers_right_after_others_claim : ((f : ℕ) → free_bit (now f) ≤ free_bit (owner f)) → free_in_all heap owner ≡ free_in_all heap now + k
        → given_up number later ≡ given_up number since → total_but number (λ e. e.taken) later ≡ total_but number (λ e. e.taken) since + k
        → GathersRight heap owner number since cursor tried given → GathersRight heap now number later cursor tried given
    gathers_right_after_others_claim less fewer same took gathers = record {
      passed = omega (arith, gathers.passed, free_in_passed_falls heap owner now less cursor tried, same);
      returned = omega (arith, gathers.returned, fewer, took);
    }

    -- it gives fragments back
    pub gathers_right_after_giving : free_in_passed heap now cursor tried ≤ free_in_passed heap owner cursor tried + k → free_in_all heap now ≡ free_in_all heap owner + k
        → given_up number later ≡ given_up number since → total_but number (λ e. e.taken) later ≡ total_but number (λ e. e.taken) since
        → GathersRight heap owner number since cursor tried given → GathersRight heap now number later cursor tried (given + k)
    gathers_right_after_giving few more same took gathers = record {
      passed = omega (arith, gathers.passed, few, same);
      returned = omega (arith, gathers.returned, more, took);
    }

    -- another gives fragments back
    pub gathers_right_after_others_giving : free_in_passed heap now cursor tried ≤ free_in_passed heap owner cursor tried + k → free_in_all heap now ≡ free_in_all heap owner + k
        → given_up number later ≡ given_up number since + k → total_but number (λ e. e.taken) later ≡ total_but number (λ e. e.taken) since
        → GathersRight heap owner number since cursor tried given → GathersRight heap now number later cursor tried given
    gathers_right_after_others_giving few more gave took gathers = record {
      passed = omega (arith, gathers.passed, few, gave);
      returned = omega (arith, gathers.returned, more, took);
    }

-- the same fragments are free
pub gathers_right_where_same_free : (heap : Heap) (owner now : ℕ → Owner) (number : ℕ) (since : List Entry) (cursor tried given : ℕ) → ((f : ℕ) → free_bit (now f) ≡ free_bit (owner f))
    → GathersRight heap owner number since cursor tried given → GathersRight heap now number since cursor tried given
gathers_right_where_same_free heap owner now number since cursor tried given same gathers = record {
  passed = omega (arith, gathers.passed, free_in_passed_falls heap owner now (λ f. omega (arith, same f)) cursor tried);
  returned = omega (arith, gathers.returned, free_count_same heap owner now same);
}
