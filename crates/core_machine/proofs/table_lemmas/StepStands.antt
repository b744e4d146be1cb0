-- What is asked of each step, a seat's or the collector's.
use Rattle.std.specs.Prelude.{if◌then◌else◌}
use Rattle.std.proofs.Common.{◌≡◌, ℕ, ◌==◌, Bool, true, false, ◌<◌, ◌^◌, sym, subst, arith, ◌*◌, ◌≤◌}
use Rattle.core_machine.proofs.Terms.{Heap, Step, Word, InTable, IsWithinHeap, pointer_in, FoundPointsWithin, address_of, operation_of, operation_result, word_after}
use Rattle.core_machine.specs.declared.step.operation.Operation.{Operation}
use Rattle.core_machine.specs.declared.step.operation.Operation.TheVariants.{Load}
use Rattle.core_machine.specs.declared.step.AccessStep.TheVariants.{Shade, CompareSwap}
use Rattle.core_machine.specs.declared.step.SpineStep.TheVariants.{BudgetAdd, BudgetTakeBack, SpotClaim, SpineStore}
use Rattle.core_machine.specs.declared.step.Step.TheVariants.{Access, Spine}
use Rattle.core_machine.proofs.table_lemmas.CellWords.{payload_in-spine_word}
use Rattle.core_machine.proofs.table_lemmas.Wide.{shade_word_fits_bits}

pub record StepStands (heap : Heap) (step : Step) : Type 0 where
  -- it touches a word of the table
  pub in_table : InTable heap (address_of step)
  -- the word that it leaves has 64 bits where the one found has
  pub wide : (found : ℕ) → found < 2 ^ 64 → word_after step found < 2 ^ 64
  -- and leads within the heap where the one found does
  pub leads : (found : ℕ) → FoundPointsWithin heap (address_of step) found → FoundPointsWithin heap (address_of step) (word_after step found)

-- a load leaves the word that it found
pub load_step_stands : (heap : Heap) (step : Step) → operation_of step ≡ Load → InTable heap (address_of step) → StepStands heap step
load_step_stands heap step loads there = record {
  in_table = there;
  wide = λ found small. subst (λ (o : Operation). operation_result o found < 2 ^ 64) (sym loads) small;
  leads = λ found led. subst (λ (o : Operation). FoundPointsWithin heap (address_of step) (operation_result o found)) (sym loads) led;
}

-- a shade of a fragment of the heap
pub shade_step_stands : (heap : Heap) (fragment : ℕ) → fragment < 16 * heap.groups → StepStands heap (Access (Shade fragment))
shade_step_stands heap fragment within = record { in_table = omega (arith, within); wide = λ found small. shade_word_fits_bits fragment found small; leads = λ found led. tt }

-- a word that is compared, and exchanged where it is the old one
pub compared_step_stands : (heap : Heap) (fragment part old new : ℕ) → InTable heap (Word fragment part) → new < 2 ^ 64 → IsWithinHeap heap (pointer_in part new)
    → StepStands heap (Access (CompareSwap fragment part old new))
compared_step_stands heap fragment part old new there small led = record {
  in_table = there;
  wide = λ found wide. either (λ word. word < 2 ^ 64) (found == old) found small wide;
  leads = λ found leads. either (λ word. IsWithinHeap heap (pointer_in part word)) (found == old) found led leads;
}
  where
    either : (P : ℕ → Type 0) (same : Bool) (found : ℕ) → P new → P found → P (if same then new else found)
    either P true found swapped kept = swapped
    either P false found swapped kept = kept

-- a word that grows or falls modulo 2^64 has 64 bits, and leads nowhere
pub budget_add_step_stands : (heap : Heap) (words : ℕ) → StepStands heap (Spine (BudgetAdd words))
budget_add_step_stands heap words = record { in_table = tt; wide = λ found small. omega arith; leads = λ found led. tt }

pub take_back_step_stands : (heap : Heap) (words : ℕ) → StepStands heap (Spine (BudgetTakeBack words))
take_back_step_stands heap words = record { in_table = tt; wide = λ found small. omega arith; leads = λ found led. tt }

pub spot_claim_step_stands : (heap : Heap) (words : ℕ) → StepStands heap (Spine (SpotClaim words))
spot_claim_step_stands heap words = record { in_table = tt; wide = λ found small. omega arith; leads = λ found led. tt }

-- a spine word that is stored names a fragment of the heap
pub spine_store_step_stands : (heap : Heap) (half offset fragment : ℕ) → half < 2 → 16 * heap.groups ≤ 2 ^ 16 → fragment < 16 * heap.groups → StepStands heap (Spine (SpineStore half offset fragment))
spine_store_step_stands heap half offset fragment there few within = record {
  in_table = there;
  wide = λ found small. omega (arith, within);
  leads = λ found led. subst (λ (f : ℕ). f < 16 * heap.groups) (sym (payload_in-spine_word fragment (omega (arith, within)))) within;
}
