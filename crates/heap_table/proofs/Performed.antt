-- A step by its operation: what is allowed of the word that a step leaves is allowed of the one that its operation leaves.
use Rattle.std.proofs.Common.{◌≡◌, ℕ, ◌+◌, ◌-◌, ◌^◌, ◌<◌, Bool, true, false, refl, sym, ap, subst, arith}
use Rattle.std.specs.Prelude.{if◌then◌else◌, slice_index}
use prog.Atomic.{either}
use Rattle.atomic_table.specs.Table.{State as Table, Me, Allows, stepped}
use Rattle.core_machine.specs.declared.step.Step.{Step}
use Rattle.core_machine.specs.declared.step.operation.Operation.{Operation}
use Rattle.core_machine.specs.declared.step.operation.Operation.TheVariants.{Store}
use Rattle.core_machine.specs.table.Operation.{operation_of, operation_result, word_after}
use Rattle.heap_table.specs.Told.{TellsStored}
use Rattle.heap_table.specs.declared.view.View.{View}

module _ (holds : Table (Unit {0}) View → Type 0) (slots id : ℕ) (me : Me (Unit {0}) View) (i j : ℕ) (f : ℕ → ℕ) (tells : ℕ → Me (Unit {0}) View → Type 0) (here : j ≡ i) where
  -- at the same place, with the same word after it
  pub allows_by_equal_word : (g : ℕ → ℕ) → ((n : ℕ) → f n ≡ g n) → Allows holds slots id me i f tells → Allows holds slots id me j g tells
  allows_by_equal_word g same allows =
      subst (λ (k : ℕ). Allows holds slots id me k g tells) (sym here)
      (λ s h l at small. let a = allows s h l at small in (a.0, a.1, a.2, subst (λ (w : ℕ). holds (stepped s i w id me.1 a.0 a.1)) (same (slice_index s.words i)) a.3, a.4))

  -- a store tells what goes with the word that it stores
  pub allows_store_of_word : (word : ℕ) → ((n : ℕ) → f n ≡ word) → ((n : ℕ) (after : Me (Unit {0}) View) → tells n after → tells word after) → Allows holds slots id me i f tells
      → Allows holds slots id me j (λ _. word) (λ _. tells word)
  allows_store_of_word word same stored allows =
      subst (λ (k : ℕ). Allows holds slots id me k (λ _. word) (λ _. tells word)) (sym here)
      (λ s h l at small. let a = allows s h l at small in (a.0, a.1, a.2, subst (λ (w : ℕ). holds (stepped s i w id me.1 a.0 a.1)) (same (slice_index s.words i)) a.3, stored _ _ a.4))

-- the word that the step leaves is that of its operation
pub word_after_is_operations : (step : Step) (operation : Operation) → operation_of step ≡ operation → (n : ℕ) → word_after step n ≡ operation_result operation n
word_after_is_operations step operation is n = ap (λ (o : Operation). operation_result o n) is

pub stored_word_is_told : (operation : Operation) (word : ℕ) (tells : ℕ → Me (Unit {0}) View → Type 0) → operation ≡ Store word → TellsStored operation tells
    → (n : ℕ) (after : Me (Unit {0}) View) → tells n after → tells word after
stored_word_is_told operation word tells is stored = subst (λ (o : Operation). TellsStored o tells) is stored

-- the word that stands after a comparison
pub choice_is_either : (same : Bool) (new found : ℕ) → (if same then new else found) ≡ either same new found
choice_is_either true new found = refl
choice_is_either false new found = refl

-- a number below 2^64 is taken from a word
pub difference_moves_into_sum : (n k : ℕ) → k < 2 ^ 64 → n + 2 ^ 64 - k ≡ n + (2 ^ 64 - k)
difference_moves_into_sum n k small = omega arith
