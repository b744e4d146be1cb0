-- How many spine words stand in a half: all, where all arrays stand there, and none where none does.
use Rattle.std.proofs.Common.{◌≡◌, ◌≢◌, ℕ, ◌+◌, ◌*◌, ◌==◌, if◌then◌else◌, Bool, true, false, refl, ap, arith}
use Rattle.std.proofs.lemmas.Bool.Decides.{nat_tests}
use Rattle.heap_words.specs.declared.spot.Spot.{Spot}
use Rattle.core_rule.proofs.Terms.{Heap, Node, kept_weight, dead_weight, kept_sum, dead_sum, words_of_object, words_in_half, Owner, Kept}
use Rattle.core_machine.proofs.table_lemmas.Free.{sum_of_same_functions}
use Rattle.core_rule.proofs.lists.SumLemmas.{sum_plus}

-- what is kept weighs the same by two numbers that agree on it
weight_agrees : (weight other : ℕ → ℕ) (o : Owner) → ((i k : ℕ) → o ≡ Kept i k → other i ≡ weight i) → kept_weight other o ≡ kept_weight weight o
weight_agrees weight other (Kept i k) agree = ap (λ n. if k == 0 then n else 0) (agree i k refl)
weight_agrees weight other _ agree = refl

pub kept_sum_of_equal_weights : (heap : Heap) (owner : ℕ → Owner) (weight other : ℕ → ℕ) → ((f i k : ℕ) → owner f ≡ Kept i k → other i ≡ weight i) → kept_sum heap other owner ≡ kept_sum heap weight owner
kept_sum_of_equal_weights heap owner weight other agree =
    sum_of_same_functions (16 * heap.groups) (λ f. kept_weight other (owner f)) (λ f. kept_weight weight (owner f)) (λ f below. weight_agrees weight other (owner f) (agree f))

module _ (half : ℕ) (nodes : ℕ → Node) (spines : ℕ → Spot) (i : ℕ) where
  -- an object has all its words in the half where its spine stands, or is a record, which has none
  pub words_in_own_half : ((nodes i).array ≡ true → (spines i).half ≡ half) → words_in_half half nodes spines i ≡ words_of_object nodes i
  words_in_own_half here = by (nodes i).array refl
    where
      by : (b : Bool) → (nodes i).array ≡ b → words_in_half half nodes spines i ≡ words_of_object nodes i
      by true kind = rw (here kind) (grind (arith, nat_tests))
      by false kind = rw kind (grind (arith, nat_tests))

  -- and none in another one
  pub no_words_in_other_half : ((nodes i).array ≡ true → (spines i).half ≢ half) → words_in_half half nodes spines i ≡ 0
  no_words_in_other_half away = by (nodes i).array refl
    where
      by : (b : Bool) → (nodes i).array ≡ b → words_in_half half nodes spines i ≡ 0
      by true kind = grind (arith, nat_tests, away kind)
      by false kind = rw kind (grind (arith, nat_tests))

-- what is kept and what is to be freed weigh together what they weighed, where each fragment does
pub kept_and_dead_sums_same : (heap : Heap) (weight : ℕ → ℕ) (owner now : ℕ → Owner)
    → ((f : ℕ) → kept_weight weight (now f) + dead_weight weight (now f) ≡ kept_weight weight (owner f) + dead_weight weight (owner f))
    → kept_sum heap weight now + dead_sum heap weight now ≡ kept_sum heap weight owner + dead_sum heap weight owner
kept_and_dead_sums_same heap weight owner now same =
    let n : ℕ = 16 * heap.groups in
    let together : ℕ → ℕ = λ f. kept_weight weight (owner f) + dead_weight weight (owner f) in
    let was = sum_plus n together (λ f. kept_weight weight (owner f)) (λ f. dead_weight weight (owner f)) (λ f below. refl) in
    let is = sum_plus n together (λ f. kept_weight weight (now f)) (λ f. dead_weight weight (now f)) (λ f below. omega (arith, same f)) in
    omega (arith, was, is)
