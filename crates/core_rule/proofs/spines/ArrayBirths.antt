-- The spine words of kept objects once a new one gets its fragments: they are its words more, and what is to be freed has as many as before.
use Rattle.std.proofs.Common.{◌≡◌, ◌≢◌, ℕ, ◌+◌, ◌*◌, ◌<◌, ◌≤◌, ◌==◌, List, length, refl, sym, ap, ◌∙◌, arith}
use Rattle.std.specs.Prelude.{if◌then◌else◌}
use Rattle.std.proofs.lemmas.Bool.Decides.{nat_tests}
use Rattle.core_rule.proofs.Terms.{Heap, Stage, sum_upto, tally, fragment_at, SweepCounts, kept_weight, dead_weight, kept_sum, dead_sum, Owner, Kept, Dead}
use Rattle.core_machine.specs.declared.collector.stage.Stage.TheVariants as stages
use Rattle.core_machine.proofs.table_lemmas.Free.{sum_of_same_functions, sum_but_one_number}
use Rattle.core_rule.proofs.lists.Members.{position_of, element_stands_at_position, position_of_element_is_position, element_is_tallied}
use Rattle.core_rule.proofs.owners.Keeping.{kept_by, kept_by_cases}

-- what isn't kept weighs nothing, nor what is no object's first fragment
unkept_weight : (weight : ℕ → ℕ) (o : Owner) → ((i k : ℕ) → o ≢ Kept i k) → kept_weight weight o ≡ 0
unkept_weight weight (Kept i k) none = absurd (none i k refl)
unkept_weight weight _ none = refl

undead_weight : (weight : ℕ → ℕ) (o : Owner) → ((i k : ℕ) → o ≢ Dead i k) → dead_weight weight o ≡ 0
undead_weight weight (Dead i k) none = absurd (none i k refl)
undead_weight weight _ none = refl

module _ (n : ℕ) (owner : ℕ → Owner) (body : List ℕ) (weight now_weight : ℕ → ℕ) (same : (i : ℕ) → i < n → now_weight i ≡ weight i) where
  abbrev now : ℕ → Owner
  now = kept_by n body owner

  -- a fragment of an older object weighs what it weighed
  kept_weight_on : (o : Owner) → ((i k : ℕ) → o ≡ Kept i k → i < n) → kept_weight now_weight o ≡ kept_weight weight o
  kept_weight_on (Kept i k) older = ap (λ m. if k == 0 then m else 0) (same i (older i k refl))
  kept_weight_on _ older = refl

  dead_weight_on : (o : Owner) → ((i k : ℕ) → o ≡ Dead i k → i < n) → dead_weight now_weight o ≡ dead_weight weight o
  dead_weight_on (Dead i k) older = ap (λ m. if k == 0 then m else 0) (same i (older i k refl))
  dead_weight_on _ older = refl

  -- so all that is kept weighs as much more as the new object
  pub kept_sum_after_birth : (heap : Heap) → 1 ≤ length body → ((f : ℕ) → tally f body ≤ 1) → ((f : ℕ) → 1 ≤ tally f body → f < 16 * heap.groups) → ((f i k : ℕ) → 1 ≤ tally f body → owner f ≢ Kept i k)
      → ((f i k : ℕ) → owner f ≡ Kept i k → i < n) → kept_sum heap now_weight now ≡ kept_sum heap weight owner + now_weight n
  kept_sum_after_birth heap some once inside unkept older =
      let head : ℕ = fragment_at body 0 in
      let there : 1 ≤ tally head body = element_is_tallied body 0 some in
      let first : position_of head body ≡ 0 = position_of_element_is_position body 0 once some in
      let sums = sum_but_one_number (16 * heap.groups) (λ f. kept_weight now_weight (now f)) (λ f. kept_weight weight (owner f)) head (inside head there) (λ f below apart. others f apart) in
      let whole : kept_weight now_weight (now head) ≡ now_weight n
      = kept_by_cases n body owner (λ o. kept_weight now_weight o ≡ now_weight n) head (λ is. rw first refl) (λ away. absurd (omega (arith, there, away))) in
      omega (arith, sums, whole, unkept_weight weight (owner head) (λ i k. unkept head i k there))
    where
      others : (f : ℕ) → f ≢ fragment_at body 0 → kept_weight now_weight (now f) ≡ kept_weight weight (owner f)
      others f apart = kept_by_cases n body owner (λ o. kept_weight now_weight o ≡ kept_weight weight (owner f)) f
          (λ there. later (position_of f body) (λ first. apart (sym (element_stands_at_position f body there).1 ∙ ap (fragment_at body) first)) ∙ sym (unkept_weight weight (owner f) (λ i k. unkept f i k there)))
          (λ away. kept_weight_on (owner f) (older f))
        where
          later : (k : ℕ) → k ≢ 0 → kept_weight now_weight (Kept n k) ≡ 0
          later k behind = grind (arith, nat_tests, behind)

  -- and what is to be freed weighs what it weighed
  dead_stays : ((f i k : ℕ) → 1 ≤ tally f body → owner f ≢ Dead i k) → ((f i k : ℕ) → owner f ≡ Dead i k → i < n) → (f : ℕ) → dead_weight now_weight (now f) ≡ dead_weight weight (owner f)
  dead_stays undead older f = kept_by_cases n body owner (λ o. dead_weight now_weight o ≡ dead_weight weight (owner f)) f
      (λ there. sym (undead_weight weight (owner f) (λ i k. undead f i k there)))
      (λ away. dead_weight_on (owner f) (older f))

  module _ (undead : (f i k : ℕ) → 1 ≤ tally f body → owner f ≢ Dead i k) (older : (f i k : ℕ) → owner f ≡ Dead i k → i < n) where
    pub dead_sum_after_birth : (heap : Heap) → dead_sum heap now_weight now ≡ dead_sum heap weight owner
    dead_sum_after_birth heap = sum_of_same_functions (16 * heap.groups) (λ f. dead_weight now_weight (now f)) (λ f. dead_weight weight (owner f)) (λ f below. dead_stays undead older f)

    -- so the sweep has counted what it counted
    group_born : (group m : ℕ) → sum_upto m (λ j. dead_weight now_weight (now (16 * group + j))) ≡ sum_upto m (λ j. dead_weight weight (owner (16 * group + j)))
    group_born group m = sum_of_same_functions m (λ j. dead_weight now_weight (now (16 * group + j))) (λ j. dead_weight weight (owner (16 * group + j))) (λ j below. dead_stays undead older (16 * group + j))

    pub sweep_counts_after_birth : (stage : Stage) → SweepCounts weight owner stage → SweepCounts now_weight now stage
    sweep_counts_after_birth (stages.Examining group dead position counted) is = is ∙ sym (group_born group position)
    sweep_counts_after_birth (stages.Freeing group dead counted) is = is ∙ sym (group_born group 16)
    sweep_counts_after_birth _ is = tt
